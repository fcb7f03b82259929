-- Where the peer closed its end, packets that it had not received are timed out at once.
use Rattle.std.proofs.Common.{◌≡◌, codes, ◌∷◌, [], refl}
use Rattle.ibc_ids.specs.Texts.{Text}
use Rattle.ibc_ids.specs.declared.refusal.Refusal.TheVariants.{WrongState, NoConsensus, BadProof, NoCommitment, NotTimedOut}
use Rattle.ibc_machine.specs.chain.Machine.{World}
use Rattle.ibc_machine.specs.ics20.TokenData.{success}
use Rattle.ibc_machine.proofs.Computing.{computing}
use Rattle.ibc_machine.proofs.Scripts.{a, b, a_and_b, for_notes, replies, world_after, update, block, blocked, done, no, sent, acked}
use Rattle.ibc_machine.proofs.Openings.{with_notes, close_channel}
use Rattle.ibc_machine.proofs.PacketScripts.{note, noted, recv, ack, time_out, time_out_closed}

abbrev n1 : Text
n1 = codes "n1"

abbrev n2 : Text
n2 = codes "n2"

abbrev closed : World
closed = world_after a_and_b with_notes (note a n1 ∷ note a n2 ∷ close_channel b for_notes ∷ block b ∷ [])

-- not as a timeout, as none is reached; but on the peer's closed end, and once
timed_out_on_close : replies a_and_b closed
    (update a b 3 ∷ time_out a (noted 1 n1) 1 3 ∷ time_out_closed a (noted 1 n1) 1 3
    ∷ time_out_closed a (noted 1 n1) 1 3
    ∷ note a n2 ∷ time_out_closed a (noted 2 n2) 1 3 ∷ [])
    ≡ done ∷ no NotTimedOut ∷ done ∷ no NoCommitment ∷ no WrongState ∷ done ∷ []
unfolding computing
timed_out_on_close = refl

-- not while the peer's end was open
not_before_it_closed : replies a_and_b closed
    (time_out_closed a (noted 1 n1) 1 2 ∷ time_out_closed a (noted 1 n1) 1 3 ∷ update a b 3
    ∷ time_out_closed a (noted 1 n1) 2 3 ∷ [])
    ≡ no BadProof ∷ no NoConsensus ∷ done ∷ no NotTimedOut ∷ []
unfolding computing
not_before_it_closed = refl

-- nor what the peer had received
not_what_was_received : replies a_and_b with_notes
    (note a n1 ∷ block a ∷ update b a 4 ∷ recv b (noted 1 n1) 4 ∷ close_channel b for_notes ∷ block b ∷ update a b 3
    ∷ time_out_closed a (noted 1 n1) 1 3 ∷ time_out_closed a (noted 1 n1) 2 3 ∷ ack a (noted 1 n1) success 3 ∷ [])
    ≡ sent 1 ∷ blocked 4 ∷ done ∷ acked success ∷ done ∷ blocked 3 ∷ done
    ∷ no BadProof ∷ no NotTimedOut ∷ done ∷ []
unfolding computing
not_what_was_received = refl

-- a closed end receives nothing and sends nothing
closed_ends_are_quiet : replies a_and_b closed
    (block a ∷ update b a 4 ∷ recv b (noted 1 n1) 4 ∷ note b n1 ∷ close_channel b for_notes ∷ [])
    ≡ blocked 4 ∷ done ∷ no WrongState ∷ no WrongState ∷ no WrongState ∷ []
unfolding computing
closed_ends_are_quiet = refl
