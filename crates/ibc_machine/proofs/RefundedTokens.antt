-- Tokens that the other chain does not take are given back, once.
use Rattle.std.proofs.Common.{◌≡◌, codes, ◌∷◌, ◌++◌, [], refl}
use Rattle.ibc_ids.specs.Texts.{Text}
use Rattle.ibc_ids.specs.declared.refusal.Refusal.TheVariants.{BadProof, NoCommitment}
use Rattle.ibc_wire.specs.declared.packet.Packet.{Packet}
use Rattle.ibc_machine.specs.chain.Machine.{World}
use Rattle.ibc_machine.specs.ics20.TokenData.{success, error}
use Rattle.ibc_machine.proofs.Computing.{computing}
use Rattle.ibc_machine.proofs.Scripts.{a, b, alice, bob, atom, atom_from_a, escrow_0, holds, alice_has_all, a_and_b, replies, balances, world_after, update, block, blocked, done, no, sent, acked}
use Rattle.ibc_machine.proofs.Openings.{with_tokens}
use Rattle.ibc_machine.proofs.PacketScripts.{send, tokens, there, recv, ack}

-- ---- alice sends 100 atom to a receiver that is no user

abbrev nowhere : Packet
nowhere = tokens a b 1 alice 100 atom escrow_0

abbrev bad_receiver : Text
bad_receiver = error (codes "bad receiver")

abbrev not_taken : World
not_taken =
    world_after a_and_b with_tokens
    (send a alice 100 atom escrow_0 ∷ block a ∷ update b a 4 ∷ recv b nowhere 4 ∷ block b ∷ update a b 3 ∷ [])

it_is_refused_with_words : replies a_and_b with_tokens
    (send a alice 100 atom escrow_0 ∷ block a ∷ update b a 4 ∷ recv b nowhere 4 ∷ block b ∷ update a b 3 ∷ [])
    ≡ sent 1 ∷ blocked 4 ∷ done ∷ acked bad_receiver ∷ blocked 3 ∷ done ∷ []
unfolding computing
it_is_refused_with_words = refl

the_words : bad_receiver ≡ codes "{\"error\":\"bad receiver\"}"
the_words = refl

-- only the acknowledgement that was written is believed, and only once
refunded_once : replies a_and_b not_taken
    (ack a nowhere success 3 ∷ ack a nowhere bad_receiver 3 ∷ ack a nowhere bad_receiver 3 ∷ [])
    ≡ no BadProof ∷ done ∷ no NoCommitment ∷ []
unfolding computing
refunded_once = refl

alice_has_them_again : balances
    (world_after a_and_b not_taken (ack a nowhere bad_receiver 3 ∷ ack a nowhere bad_receiver 3 ∷ [])) ≡ alice_has_all
unfolding computing
alice_has_them_again = refl

-- until then they are in the escrow
and_not_before : balances not_taken ≡ (holds alice 900 atom ∷ holds escrow_0 100 atom ∷ []) ∷ [] ∷ []
unfolding computing
and_not_before = refl

-- ---- vouchers that were burnt to go home are minted again

abbrev lost_vouchers : Packet
lost_vouchers = tokens b a 1 bob 30 atom_from_a escrow_0

abbrev vouchers_not_taken : World
vouchers_not_taken =
    world_after a_and_b with_tokens
    (send a alice 100 atom bob ∷ block a ∷ update b a 4 ∷ recv b there 4 ∷ send b bob 30 atom_from_a escrow_0
    ∷ block b ∷ update a b 3 ∷ recv a lost_vouchers 3 ∷ block a ∷ update b a 5 ∷ [])

vouchers_are_minted_again : balances vouchers_not_taken
    ++ balances (world_after a_and_b vouchers_not_taken (ack b lost_vouchers bad_receiver 5
    ∷ ack b lost_vouchers bad_receiver 5 ∷ []))
    ≡ (holds alice 900 atom ∷ holds escrow_0 100 atom ∷ []) ∷ (holds bob 70 atom_from_a ∷ [])
    ∷ (holds alice 900 atom ∷ holds escrow_0 100 atom ∷ []) ∷ (holds bob 100 atom_from_a ∷ []) ∷ []
unfolding computing
vouchers_are_minted_again = refl
