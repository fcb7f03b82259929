-- Timeouts to the block: a limit is reached where the height or the time equals it.
use Rattle.std.proofs.Common.{◌≡◌, ℕ, ◌∷◌, ◌++◌, [], refl}
use Rattle.ibc_ids.specs.declared.refusal.Refusal.TheVariants.{NoTimeout, TimeoutPassed, NoCommitment, NotTimedOut}
use Rattle.ibc_wire.specs.declared.packet.Packet.{Packet}
use Rattle.ibc_machine.specs.chain.Machine.{World}
use Rattle.ibc_machine.specs.ics20.TokenData.{success}
use Rattle.ibc_machine.proofs.Computing.{computing}
use Rattle.ibc_machine.proofs.Scripts.{a, b, alice, bob, atom, a_and_b, replies, world_after, update, update_at, block, block_at, blocked, done, no, sent, acked}
use Rattle.ibc_machine.proofs.Openings.{with_tokens}
use Rattle.ibc_machine.proofs.PacketScripts.{send_until, tokens_until, recv, time_out}

-- ---- sending: a's client knows height 2 of b, whose time is 100

sending : replies a_and_b with_tokens
    (send_until 2 0 a alice 1 atom bob ∷ send_until 0 100 a alice 1 atom bob ∷ send_until 3 100 a alice 1 atom bob
    ∷ send_until 2 101 a alice 1 atom bob ∷ send_until 3 0 a alice 1 atom bob ∷ send_until 0 101 a alice 1 atom bob
    ∷ send_until 3 101 a alice 1 atom bob ∷ send_until 0 0 a alice 1 atom bob ∷ [])
    ≡ no TimeoutPassed ∷ no TimeoutPassed ∷ no TimeoutPassed ∷ no TimeoutPassed
    ∷ sent 1 ∷ sent 2 ∷ sent 3 ∷ no NoTimeout ∷ []
unfolding computing
sending = refl

-- a client that is told of a lower height, also again, still knows the greatest: 2 after 1, and 3 after 1
the_latest_counts : replies a_and_b with_tokens
    (update a b 1 ∷ send_until 2 0 a alice 1 atom bob ∷ block b ∷ update a b 3 ∷ update a b 1
    ∷ send_until 3 0 a alice 1 atom bob ∷ send_until 4 0 a alice 1 atom bob ∷ [])
    ≡ done ∷ no TimeoutPassed ∷ blocked 3 ∷ done ∷ done ∷ no TimeoutPassed ∷ sent 1 ∷ []
unfolding computing
the_latest_counts = refl

-- ---- receiving: b's working block is 3, and its time 100

abbrev five_sent : World
five_sent =
    world_after a_and_b with_tokens
    (send_until 3 0 a alice 1 atom bob ∷ send_until 4 0 a alice 1 atom bob ∷ send_until 0 101 a alice 1 atom bob
    ∷ send_until 3 101 a alice 1 atom bob ∷ send_until 4 101 a alice 1 atom bob ∷ block a ∷ update b a 4 ∷ [])

abbrev one_until : ℕ → ℕ → ℕ → Packet
one_until n height time = tokens_until height time a b n alice 1 atom bob

receiving : replies a_and_b five_sent
    (recv b (one_until 1 3 0) 4 ∷ recv b (one_until 2 4 0) 4 ∷ recv b (one_until 3 0 101) 4
    ∷ recv b (one_until 4 3 101) 4
    ∷ recv b (one_until 5 4 101) 4 ∷ [])
    ≡ no TimeoutPassed ∷ acked success ∷ acked success ∷ no TimeoutPassed ∷ acked success ∷ []
unfolding computing
receiving = refl

-- in block 4 of time 101 all limits are reached, and in block 4 of time 100 all but the time
receiving_later : replies a_and_b five_sent
    (block_at 101 b ∷ recv b (one_until 2 4 0) 4 ∷ recv b (one_until 3 0 101) 4 ∷ recv b (one_until 5 4 101) 4 ∷ [])
    ++ replies a_and_b five_sent (block b ∷ recv b (one_until 2 4 0) 4 ∷ recv b (one_until 3 0 101) 4
    ∷ recv b (one_until 5 4 101) 4 ∷ [])
    ≡ blocked 3 ∷ no TimeoutPassed ∷ no TimeoutPassed ∷ no TimeoutPassed
    ∷ blocked 3 ∷ no TimeoutPassed ∷ acked success ∷ no TimeoutPassed ∷ []
unfolding computing
receiving_later = refl

-- ---- timing out: b's height 3 has time 100, and height 4 time 101

abbrev heights_shown : World
heights_shown = world_after a_and_b five_sent
    (block_at 101 b ∷ block_at 101 b ∷ update a b 3 ∷ update_at 101 a b 4 ∷ [])

timing_out_at_3 : replies a_and_b heights_shown
    (time_out a (one_until 1 3 0) 0 2 ∷ time_out a (one_until 1 3 0) 0 3 ∷ time_out a (one_until 2 4 0) 0 3
    ∷ time_out a (one_until 3 0 101) 0 3 ∷ time_out a (one_until 4 3 101) 0 3 ∷ time_out a (one_until 5 4 101) 0 3 ∷ [])
    ≡ no NotTimedOut ∷ done ∷ no NotTimedOut ∷ no NotTimedOut ∷ done ∷ no NotTimedOut ∷ []
unfolding computing
timing_out_at_3 = refl

timing_out_at_4 : replies a_and_b heights_shown
    (time_out a (one_until 1 3 0) 0 4 ∷ time_out a (one_until 2 4 0) 0 4 ∷ time_out a (one_until 3 0 101) 0 4
    ∷ time_out a (one_until 4 3 101) 0 4 ∷ time_out a (one_until 5 4 101) 0 4 ∷ time_out a (one_until 6 4 101) 0 4 ∷ [])
    ≡ done ∷ done ∷ done ∷ done ∷ done ∷ no NoCommitment ∷ []
unfolding computing
timing_out_at_4 = refl
