-- Notes are received in the order in which they were sent, and acknowledged in that order.
use Rattle.std.proofs.Common.{◌≡◌, codes, ◌∷◌, [], refl}
use Rattle.ibc_ids.specs.Texts.{Text}
use Rattle.ibc_ids.specs.declared.refusal.Refusal.TheVariants.{BadProof, AlreadyReceived, OutOfOrder, NoCommitment}
use Rattle.ibc_machine.specs.chain.Machine.{World}
use Rattle.ibc_machine.specs.ics20.TokenData.{success, error}
use Rattle.ibc_machine.proofs.Computing.{computing}
use Rattle.ibc_machine.proofs.Scripts.{a, b, a_and_b, replies, notes, world_after, update, block, blocked, done, no, acked}
use Rattle.ibc_machine.proofs.Openings.{with_notes}
use Rattle.ibc_machine.proofs.PacketScripts.{note, noted, recv, ack}

abbrev n1 : Text
n1 = codes "n1"

abbrev n2 : Text
n2 = codes "n2"

abbrev two_sent : World
two_sent = world_after a_and_b with_notes (note a n1 ∷ note a n2 ∷ block a ∷ update b a 4 ∷ [])

-- not the second first, and none twice
received_in_order : replies a_and_b two_sent
    (recv b (noted 2 n2) 4 ∷ recv b (noted 1 n1) 4 ∷ recv b (noted 1 n1) 4 ∷ recv b (noted 2 n2) 4
    ∷ recv b (noted 2 n2) 4 ∷ [])
    ≡ no OutOfOrder ∷ acked success ∷ no AlreadyReceived ∷ acked success ∷ no AlreadyReceived ∷ []
unfolding computing
received_in_order = refl

-- the acknowledgements too, whether they come at once or one after the other
acknowledged_in_order : replies a_and_b two_sent
    (recv b (noted 1 n1) 4 ∷ recv b (noted 2 n2) 4 ∷ block b ∷ update a b 3 ∷ ack a (noted 2 n2) success 3
    ∷ ack a (noted 1 n1) success 3
    ∷ ack a (noted 2 n2) success 3 ∷ ack a (noted 2 n2) success 3 ∷ ack a (noted 1 n1) success 3 ∷ [])
    ≡ acked success ∷ acked success ∷ blocked 3 ∷ done ∷ no OutOfOrder ∷ done
    ∷ done ∷ no NoCommitment ∷ no NoCommitment ∷ []
unfolding computing
acknowledged_in_order = refl

-- b keeps them under the channel that they came over
both_are_kept : notes (world_after a_and_b two_sent (recv b (noted 1 n1) 4 ∷ recv b (noted 2 n2) 4 ∷ []))
    ≡ [] ∷ ((b.channel, n1 ∷ n2 ∷ []) ∷ []) ∷ []
unfolding computing
both_are_kept = refl

-- only the acknowledgement that was written is believed, and none of what wasn't received
not_what_was_not_received : replies a_and_b two_sent
    (recv b (noted 1 n1) 4 ∷ block b ∷ update a b 3 ∷ ack a (noted 1 n1) (error n1) 3 ∷ ack a (noted 1 n1) success 3
    ∷ ack a (noted 2 n2) success 3 ∷ [])
    ≡ acked success ∷ blocked 3 ∷ done ∷ no BadProof ∷ done ∷ no BadProof ∷ []
unfolding computing
not_what_was_not_received = refl
