-- Names and paths on examples.
use Rattle.std.proofs.Common.{◌≡◌, ℕ, true, false, codes, [], ◌∷◌, ◌++◌, map, replicate, refl}
use Rattle.std.specs.Fmt.{digits}
use Rattle.ibc_ids.specs.Texts.{Text}
use Rattle.ibc_ids.specs.Names.{is_port, is_client, is_connection, is_channel, is_user, is_receiver, is_memo, is_version, is_base_denom, is_denom, hop}
use Rattle.ibc_ids.specs.Paths.{path, nth_client}
use Rattle.ibc_ids.specs.declared.key.Key.TheVariants as key

path_of_a_receipt : path (key.Receipt (codes "transfer") (codes "channel-0") 12) ≡ codes "receipts/ports/transfer/channels/channel-0/sequences/12"
unfolding digits
path_of_a_receipt = refl

first_client : nth_client 0 ≡ codes "inprocess-0"
unfolding digits
first_client = refl

two_hops : is_denom (codes "transfer/channel-0/transfer/channel-1/atom") ≡ true
two_hops = refl

half_a_hop : is_denom (codes "transfer/channel-0") ≡ false
half_a_hop = refl

no_escrow_is_a_user : is_user (codes "escrow/transfer/channel-0") ≡ false
no_escrow_is_a_user = refl

short_client : is_client (codes "client-1") ≡ false
short_client = refl

-- ---- lengths

abbrev letters : ℕ → Text
letters n = replicate n 97

lengths_of_identifiers :
    map is_port (letters 1 ∷ letters 2 ∷ letters 128 ∷ letters 129 ∷ []) ++ map is_client (letters 8 ∷ letters 9 ∷ letters 64 ∷ letters 65 ∷ [])
    ++ map is_connection (letters 9 ∷ letters 10 ∷ letters 64 ∷ letters 65 ∷ []) ++ map is_channel (letters 7 ∷ letters 8 ∷ letters 64 ∷ letters 65 ∷ [])
    ≡ false ∷ true ∷ true ∷ false ∷ false ∷ true ∷ true ∷ false ∷ false ∷ true ∷ true ∷ false ∷ false ∷ true ∷ true ∷ false ∷ []
lengths_of_identifiers = refl

lengths_of_texts :
    map is_user (letters 0 ∷ letters 1 ∷ letters 32 ∷ letters 33 ∷ []) ++ map is_receiver (letters 0 ∷ letters 1 ∷ letters 64 ∷ letters 65 ∷ [])
    ++ map is_version (letters 0 ∷ letters 1 ∷ letters 32 ∷ letters 33 ∷ []) ++ map is_base_denom (letters 0 ∷ letters 1 ∷ letters 64 ∷ letters 65 ∷ [])
    ++ map is_memo (letters 0 ∷ letters 256 ∷ letters 257 ∷ [])
    ≡ false ∷ true ∷ true ∷ false ∷ false ∷ true ∷ true ∷ false ∷ false ∷ true ∷ true ∷ false ∷ false ∷ true ∷ true ∷ false
    ∷ true ∷ true ∷ false ∷ []
lengths_of_texts = refl

-- a denomination with its hops has at most 256 bytes
lengths_of_denominations : map (λ n. is_denom (hop (letters 128) (letters 64) ++ letters n)) (0 ∷ 1 ∷ 62 ∷ 63 ∷ []) ≡ false ∷ true ∷ true ∷ false ∷ []
lengths_of_denominations = refl

-- ---- bytes

bytes_of_identifiers : is_port (codes "a.b_c+d-e#f[g]h<i>Z9") ∷ is_port (codes "a/b") ∷ is_port (codes "a b") ∷ is_port (codes "a\"b") ∷ []
    ≡ true ∷ false ∷ false ∷ false ∷ []
bytes_of_identifiers = refl

bytes_of_receivers : is_receiver (codes "escrow/x !~") ∷ is_receiver (codes "a\"b") ∷ is_receiver (codes "a\\b") ∷ is_receiver (127 ∷ []) ∷ is_receiver (31 ∷ []) ∷ []
    ≡ true ∷ false ∷ false ∷ false ∷ false ∷ []
bytes_of_receivers = refl
