-- A note that was not received in time closes its channel: the notes behind it could no longer come in order.
use Rattle.std.proofs.Common.{◌≡◌, codes, ◌∷◌, List, [], refl}
use Rattle.ibc_ids.specs.Texts.{Text}
use Rattle.ibc_ids.specs.declared.refusal.Refusal.TheVariants.{WrongState, BadProof, TimeoutPassed, OutOfOrder, NoCommitment, NotTimedOut}
use Rattle.ibc_wire.specs.declared.packet.Packet.{Packet}
use Rattle.ibc_machine.specs.declared.event.Event.{Event}
use Rattle.ibc_machine.specs.chain.Machine.{World}
use Rattle.ibc_machine.specs.ics20.TokenData.{success}
use Rattle.ibc_machine.proofs.Computing.{computing}
use Rattle.ibc_machine.proofs.Scripts.{a, b, a_and_b, for_notes, replies, notes, world_after, update, update_at, block, block_at, blocked, done, no, sent, acked}
use Rattle.ibc_machine.proofs.Openings.{with_notes, confirm_close}
use Rattle.ibc_machine.proofs.PacketScripts.{note, note_until, noted, noted_until, recv, ack, time_out}

abbrev n1 : Text
n1 = codes "n1"

abbrev n2 : Text
n2 = codes "n2"

abbrev n3 : Text
n3 = codes "n3"

-- ---- the first two of three notes are received, and the third isn't

abbrev three : List Event
three =
    note a n1 ∷ note_until 9 0 a n2 ∷ note_until 5 0 a n3 ∷ block a ∷ update b a 4
    ∷ recv b (noted_until 9 0 2 n2) 4 ∷ recv b (noted 1 n1) 4 ∷ recv b (noted_until 9 0 2 n2) 4
    ∷ block b ∷ block b ∷ block b ∷ update a b 5 ∷ time_out a (noted_until 5 0 3 n3) 3 5
    ∷ note a n1 ∷ ack a (noted 1 n1) success 5 ∷ block a ∷ update b a 5 ∷ confirm_close b for_notes 5 ∷ []

the_third_closes : replies a_and_b with_notes three
    ≡ sent 1 ∷ sent 2 ∷ sent 3 ∷ blocked 4 ∷ done
    ∷ no OutOfOrder ∷ acked success ∷ acked success
    ∷ blocked 3 ∷ blocked 4 ∷ blocked 5 ∷ done ∷ done
    ∷ no WrongState ∷ no WrongState ∷ blocked 5 ∷ done ∷ done ∷ []
unfolding computing
the_third_closes = refl

two_are_kept : notes (world_after a_and_b with_notes three) ≡ [] ∷ ((b.channel, n1 ∷ n2 ∷ []) ∷ []) ∷ []
unfolding computing
two_are_kept = refl

-- ---- by time: a note that b may receive in its blocks before 200, of which two have equal times

abbrev until_200 : Packet
until_200 = noted_until 0 200 1 n1

abbrev by_time : List Event
by_time =
    note_until 0 200 a n1 ∷ block a ∷ update b a 4 ∷ block_at 200 b ∷ block_at 200 b
    ∷ update_at 200 a b 4 ∷ time_out a until_200 1 4 ∷ recv b until_200 4 ∷ note a n2 ∷ []

too_late_at_time_200 : replies a_and_b with_notes by_time
    ≡ sent 1 ∷ blocked 4 ∷ done ∷ blocked 3 ∷ blocked 4
    ∷ done ∷ done ∷ no TimeoutPassed ∷ no WrongState ∷ []
unfolding computing
too_late_at_time_200 = refl

none_are_kept : notes (world_after a_and_b with_notes by_time) ≡ [] ∷ [] ∷ []
unfolding computing
none_are_kept = refl

-- ---- what was received is not timed out: the peer shows what it receives next, and that is behind the note

abbrev one_received : World
one_received =
    world_after a_and_b with_notes
    (note_until 4 0 a n1 ∷ note_until 4 0 a n2 ∷ block a ∷ update b a 4 ∷ recv b (noted_until 4 0 1 n1) 4
    ∷ block b ∷ block b ∷ update a b 4 ∷ [])

only_what_was_not_received : replies a_and_b one_received
    (time_out a (noted_until 4 0 1 n1) 2 4 ∷ time_out a (noted_until 4 0 1 n1) 1 4
    ∷ time_out a (noted_until 4 0 2 n2) 1 4
    ∷ time_out a (noted_until 4 0 2 n2) 3 4 ∷ time_out a (noted_until 4 0 2 n2) 2 4 ∷ [])
    ≡ no NotTimedOut ∷ no BadProof ∷ no BadProof ∷ no NotTimedOut ∷ done ∷ []
unfolding computing
only_what_was_not_received = refl

-- ---- notes of a closed channel are timed out one by one
both_are_timed_out : replies a_and_b with_notes
    (note_until 3 0 a n1 ∷ note_until 3 0 a n2 ∷ block b ∷ update a b 3
    ∷ time_out a (noted_until 3 0 2 n2) 1 3 ∷ time_out a (noted_until 3 0 1 n1) 1 3
    ∷ time_out a (noted_until 3 0 1 n1) 1 3 ∷ [])
    ≡ sent 1 ∷ sent 2 ∷ blocked 3 ∷ done ∷ done ∷ done ∷ no NoCommitment ∷ []
unfolding computing
both_are_timed_out = refl
