-- Tokens go to another chain, where vouchers of them are minted, and come home.
use Rattle.std.proofs.Common.{◌≡◌, ◌∷◌, List, [], refl}
use Rattle.ibc_ids.specs.declared.refusal.Refusal.TheVariants.{AlreadyReceived, NoCommitment}
use Rattle.ibc_machine.specs.declared.event.Event.{Event}
use Rattle.ibc_machine.specs.chain.Machine.{World}
use Rattle.ibc_machine.specs.ics20.TokenData.{success}
use Rattle.ibc_machine.proofs.Computing.{computing}
use Rattle.ibc_machine.proofs.Scripts.{a, b, alice, bob, atom, atom_from_a, escrow_0, holds, alice_has_all, a_and_b, replies, balances, world_after, update, block, blocked, done, no, sent, acked}
use Rattle.ibc_machine.proofs.Openings.{with_tokens}
use Rattle.ibc_machine.proofs.PacketScripts.{send, there, back, recv, ack}

-- ---- alice sends 100 atom to bob; what was received isn't received again, nor what was acknowledged
-- acknowledged again

abbrev to_bob : List Event
to_bob =
    send a alice 100 atom bob ∷ block a ∷ update b a 4 ∷ recv b there 4 ∷ recv b there 4
    ∷ block b ∷ update a b 3 ∷ ack a there success 3 ∷ ack a there success 3 ∷ []

they_go_to_bob : replies a_and_b with_tokens to_bob
    ≡ sent 1 ∷ blocked 4 ∷ done ∷ acked success ∷ no AlreadyReceived
    ∷ blocked 3 ∷ done ∷ done ∷ no NoCommitment ∷ []
unfolding computing
they_go_to_bob = refl

abbrev bob_has_some : World
bob_has_some = world_after a_and_b with_tokens to_bob

-- the 100 are in the escrow of the channel, and bob has vouchers
the_escrow_keeps_them : balances bob_has_some
    ≡ (holds alice 900 atom ∷ holds escrow_0 100 atom ∷ []) ∷ (holds bob 100 atom_from_a ∷ []) ∷ []
unfolding computing
the_escrow_keeps_them = refl

-- ---- bob sends them back

abbrev to_alice : List Event
to_alice =
    send b bob 100 atom_from_a alice ∷ block b ∷ update a b 4 ∷ recv a back 4
    ∷ block a ∷ update b a 5 ∷ ack b back success 5 ∷ []

they_come_home : replies a_and_b bob_has_some to_alice
    ≡ sent 1 ∷ blocked 4 ∷ done ∷ acked success ∷ blocked 5 ∷ done ∷ done ∷ []
unfolding computing
they_come_home = refl

alice_has_them_again : balances (world_after a_and_b bob_has_some to_alice) ≡ alice_has_all
unfolding computing
alice_has_them_again = refl

-- ---- on the way home the vouchers are burnt, and the escrow still holds the tokens

burnt_on_the_way : balances (world_after a_and_b bob_has_some (send b bob 100 atom_from_a alice ∷ []))
    ≡ (holds alice 900 atom ∷ holds escrow_0 100 atom ∷ []) ∷ [] ∷ []
unfolding computing
burnt_on_the_way = refl

-- ---- every message but the first is sent twice in a row

abbrev twice : List Event
twice =
    send a alice 100 atom bob ∷ block a ∷ update b a 4 ∷ update b a 4 ∷ recv b there 4 ∷ recv b there 4
    ∷ block b ∷ update a b 3 ∷ update a b 3 ∷ ack a there success 3 ∷ ack a there success 3 ∷ []

nothing_happens_twice : replies a_and_b with_tokens twice
    ≡ sent 1 ∷ blocked 4 ∷ done ∷ done ∷ acked success ∷ no AlreadyReceived
    ∷ blocked 3 ∷ done ∷ done ∷ done ∷ no NoCommitment ∷ []
unfolding computing
nothing_happens_twice = refl

with_the_same_balances : balances (world_after a_and_b with_tokens twice) ≡ balances bob_has_some
unfolding computing
with_the_same_balances = refl
