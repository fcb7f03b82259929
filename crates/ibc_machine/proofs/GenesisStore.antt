-- The provable store of a chain in the beginning: its pairs, its root and a proof, with real digests; and what is
-- hashed for a packet.
use Rattle.std.proofs.Common.{◌≡◌, codes, ◌∷◌, ◌++◌, [], refl, replicate, length}
use Rattle.ibc_ids.specs.Texts.{Text}
use Rattle.ibc_ids.specs.Paths.{path}
use Rattle.ibc_ids.specs.declared.key.Key.TheVariants as key
use Rattle.ibc_merkle.specs.Hash.{hash}
use Rattle.ibc_merkle.specs.Written.{written_proof}
use Rattle.ibc_wire.specs.Spelling.{proof_bytes}
use Rattle.ibc_machine.specs.ics24.Values.{commitment_text, value_bytes, CommitmentIs, ReceiptIs, AckIs}
use Rattle.ibc_machine.specs.ics24.Image.{image, core_root}
use Rattle.ibc_machine.specs.chain.Genesis.{empty_core}
use Rattle.ibc_machine.proofs.Computing.{computing, hashing}

abbrev zeros : Text
zeros = replicate 8 0

-- three counters stand from the beginning on
its_pairs : image empty_core
    ≡ (codes "nextChannelSequence", zeros) ∷ (codes "nextClientSequence", zeros)
    ∷ (codes "nextConnectionSequence", zeros) ∷ []
unfolding computing
its_pairs = refl

its_root : core_root empty_core ≡
    0x74 ∷ 0x3e ∷ 0x73 ∷ 0x34 ∷ 0x1e ∷ 0x76 ∷ 0x49 ∷ 0xed ∷ 0x2a ∷ 0xa2 ∷ 0x72 ∷ 0x3b ∷ 0xb1 ∷ 0x6e ∷ 0x6c ∷ 0x43
    ∷ 0xe4 ∷ 0xfd ∷ 0x62 ∷ 0xa1 ∷ 0x60 ∷ 0x61 ∷ 0xf8 ∷ 0x0e ∷ 0xa2 ∷ 0xa3 ∷ 0x79 ∷ 0x72 ∷ 0x78 ∷ 0x77 ∷ 0x68 ∷ 0xdd ∷ []
unfolding computing hashing
its_root = refl

-- ---- the proof that the counter of clients is there, as it is spelled

-- the digests of the leaves on either side
abbrev first_leaf : Text
first_leaf =
    0xcc ∷ 0x08 ∷ 0x74 ∷ 0xb1 ∷ 0x0b ∷ 0x14 ∷ 0xd1 ∷ 0x67 ∷ 0xe8 ∷ 0x7f ∷ 0x25 ∷ 0xce ∷ 0xe6 ∷ 0x3a ∷ 0x6c ∷ 0xf8
    ∷ 0x1e ∷ 0x02 ∷ 0x89 ∷ 0x0e ∷ 0x31 ∷ 0x94 ∷ 0x8d ∷ 0x35 ∷ 0x09 ∷ 0x79 ∷ 0xce ∷ 0xe3 ∷ 0x54 ∷ 0x4a ∷ 0xeb ∷ 0x97 ∷ []

abbrev last_leaf : Text
last_leaf =
    0x25 ∷ 0xe7 ∷ 0x6b ∷ 0x52 ∷ 0x6b ∷ 0xcd ∷ 0x28 ∷ 0xac ∷ 0x70 ∷ 0x37 ∷ 0xfd ∷ 0x2a ∷ 0x9d ∷ 0x8a ∷ 0xd2 ∷ 0x06
    ∷ 0x14 ∷ 0x47 ∷ 0x0b ∷ 0xae ∷ 0x11 ∷ 0xde ∷ 0xe2 ∷ 0x0a ∷ 0xaf ∷ 0xa7 ∷ 0x1e ∷ 0xea ∷ 0xaf ∷ 0xef ∷ 0x9b ∷ 0xbe ∷ []

abbrev a_proof : Text
a_proof = proof_bytes (written_proof (image empty_core) (path key.NextClientSequence))

its_spelling : a_proof ≡
    0x01 ∷ 0x00 ∷ 0x12 ∷ codes "nextClientSequence" ++ 0x00 ∷ 0x08 ∷ zeros ++ 0x00 ∷ 0x01 ∷ 0x00 ∷ 0x02
    ∷ 0x00 ∷ 0x21 ∷ 0x01 ∷ first_leaf ++ 0x00 ∷ 0x00 ∷ 0x00 ∷ 0x01 ∷ 0x01 ∷ 0x00 ∷ 0x20 ∷ last_leaf
unfolding computing hashing
its_spelling = refl

its_length : length a_proof ≡ 109
unfolding computing hashing
its_length = refl

-- ---- a packet's commitment: time, revision 0, height and the digest of the data
a_commitment : (data_ : Text) → commitment_text (record { payload = data_; timeout_height = 5; timeout_time = 0 })
    ≡ replicate 16 0 ++ 0 ∷ 0 ∷ 0 ∷ 0 ∷ 0 ∷ 0 ∷ 0 ∷ 5 ∷ hash data_
a_commitment data_ = refl

its_size : length (commitment_text (record { payload = codes "data"; timeout_height = 5; timeout_time = 0 })) ≡ 56
unfolding hashing
its_size = refl

its_digest : value_bytes (CommitmentIs (record { payload = codes "{\"amount\":\"10\",\"denom\":\"atom\",\"receiver\":\"bob\",\"sender\":\"alice\"}"; timeout_height = 5; timeout_time = 0 })) ≡
    0x62 ∷ 0xb3 ∷ 0xe5 ∷ 0x20 ∷ 0x95 ∷ 0x35 ∷ 0x8b ∷ 0x10 ∷ 0xc6 ∷ 0x77 ∷ 0x1e ∷ 0xe0 ∷ 0x6e ∷ 0x6d ∷ 0xad ∷ 0xe7
    ∷ 0x65 ∷ 0xb0 ∷ 0xca ∷ 0xd0 ∷ 0x92 ∷ 0x90 ∷ 0x2d ∷ 0x10 ∷ 0x78 ∷ 0x0d ∷ 0xca ∷ 0xa9 ∷ 0xcd ∷ 0xde ∷ 0x62 ∷ 0x52 ∷ []
unfolding hashing
its_digest = refl

-- a receipt is one byte, and an acknowledgement's digest stands for it
a_receipt : value_bytes ReceiptIs ≡ 1 ∷ []
a_receipt = refl

an_acknowledgement : (ack : Text) → value_bytes (AckIs ack) ≡ hash ack
an_acknowledgement ack = refl
