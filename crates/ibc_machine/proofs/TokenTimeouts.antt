-- A packet that is not received in time is timed out, and the tokens are given back: either the peer can still
-- receive it, or the sender can time it out, and never both.
use Rattle.std.proofs.Common.{◌≡◌, ℕ, ◌∷◌, List, [], refl}
use Rattle.ibc_ids.specs.declared.refusal.Refusal.TheVariants.{NoConsensus, BadProof, TimeoutPassed, NoCommitment, NotTimedOut}
use Rattle.ibc_wire.specs.declared.packet.Packet.{Packet}
use Rattle.ibc_machine.specs.declared.event.Event.{Event}
use Rattle.ibc_machine.specs.chain.Machine.{World}
use Rattle.ibc_machine.specs.ics20.TokenData.{success}
use Rattle.ibc_machine.proofs.Computing.{computing}
use Rattle.ibc_machine.proofs.Scripts.{a, b, alice, bob, atom, atom_from_a, escrow_0, holds, alice_has_all, a_and_b, replies, balances, world_after, update, update_at, block, block_at, blocked, done, no, sent, acked}
use Rattle.ibc_machine.proofs.Openings.{with_tokens}
use Rattle.ibc_machine.proofs.PacketScripts.{send_until, tokens_until, recv, time_out, time_out_closed}

-- ---- by height: two packets of 10 atom that b may receive in its blocks below 5

abbrev until_5 : ℕ → Packet
until_5 n = tokens_until 5 0 a b n alice 10 atom bob

-- b receives the first in its block 4, and is too late in its block 5; what b ended is height 5 only after that
abbrev by_height : List Event
by_height =
    send_until 5 0 a alice 10 atom bob ∷ send_until 5 0 a alice 10 atom bob ∷ block a ∷ update b a 4 ∷ block b
    ∷ recv b (until_5 1) 4 ∷ block b ∷ recv b (until_5 2) 4
    ∷ update a b 4 ∷ time_out a (until_5 2) 0 4 ∷ block b ∷ update a b 5 ∷ time_out a (until_5 2) 0 5 ∷ []

too_late_at_height_5 : replies a_and_b with_tokens by_height
    ≡ sent 1 ∷ sent 2 ∷ blocked 4 ∷ done ∷ blocked 3
    ∷ acked success ∷ blocked 4 ∷ no TimeoutPassed
    ∷ done ∷ no NotTimedOut ∷ blocked 5 ∷ done ∷ done ∷ []
unfolding computing
too_late_at_height_5 = refl

abbrev one_was_late : World
one_was_late = world_after a_and_b with_tokens by_height

ten_arrived_and_ten_came_back : balances one_was_late
    ≡ (holds alice 990 atom ∷ holds escrow_0 10 atom ∷ []) ∷ (holds bob 10 atom_from_a ∷ []) ∷ []
unfolding computing
ten_arrived_and_ten_came_back = refl

-- what was received can't be timed out, and what was timed out not again, nor at a height that a wasn't told of
no_refund_of_what_was_received : replies a_and_b one_was_late
    (time_out a (until_5 1) 0 5 ∷ time_out a (until_5 2) 0 5 ∷ time_out a (until_5 1) 0 6 ∷ recv b (until_5 2) 4 ∷ [])
    ≡ no BadProof ∷ no NoCommitment ∷ no NoConsensus ∷ no TimeoutPassed ∷ []
unfolding computing
no_refund_of_what_was_received = refl

-- ---- by time: a packet that b may receive in its blocks before 200

abbrev until_200 : Packet
until_200 = tokens_until 0 200 a b 1 alice 10 atom bob

-- b's block 3 has time 100, and block 4 time 200
abbrev by_time : List Event
by_time =
    send_until 0 200 a alice 10 atom bob ∷ block a ∷ update b a 4 ∷ block_at 200 b ∷ block_at 200 b
    ∷ update a b 3 ∷ time_out a until_200 0 3 ∷ update_at 200 a b 4 ∷ time_out a until_200 0 4 ∷ recv b until_200 4 ∷ []

too_late_at_time_200 : replies a_and_b with_tokens by_time
    ≡ sent 1 ∷ blocked 4 ∷ done ∷ blocked 3 ∷ blocked 4
    ∷ done ∷ no NotTimedOut ∷ done ∷ done ∷ no TimeoutPassed ∷ []
unfolding computing
too_late_at_time_200 = refl

alice_has_them_again : balances (world_after a_and_b with_tokens by_time) ≡ alice_has_all
unfolding computing
alice_has_them_again = refl

-- in a block of time 199 it is received
in_time : replies a_and_b with_tokens
    (send_until 0 200 a alice 10 atom bob ∷ block a ∷ update b a 4 ∷ block_at 199 b ∷ recv b until_200 4 ∷ [])
    ≡ sent 1 ∷ blocked 4 ∷ done ∷ blocked 3 ∷ acked success ∷ []
unfolding computing
in_time = refl

-- ---- no channel of tokens is closed, so nothing on one is timed out for that
not_on_close : replies a_and_b one_was_late (time_out_closed a (until_5 1) 0 5 ∷ [])
    ≡ no BadProof ∷ []
unfolding computing
not_on_close = refl
