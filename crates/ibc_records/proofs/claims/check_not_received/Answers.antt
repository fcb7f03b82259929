-- The claim that is made is the one that the peer must meet.
use Rattle.std.proofs.Common.{subst}
use Rattle.ibc_ids.specs.Paths.{path}
use Rattle.ibc_ids.specs.declared.key.Key.TheVariants as key
use Rattle.ibc_machine.specs.ics24.Values.{NumberIs}
use Rattle.ibc_records.specs.ProofVerdicts.{IsShown}
use Rattle.ibc_records.proofs.Shown.{is_shown, is_shown_absent}
use Rattle.ibc_records.proofs.OwnEnd.{not_received_in_order, not_received_in_any_order}
use Rattle.ibc_records.proofs.claims.check_not_received.Goals as goal

pub returns-then-is_ordered : goal.returns-then-is_ordered
returns-then-is_ordered c =
    let p = c.args.packet.now in
    subst (λ claim. IsShown c.args.records.now c.args.client.now c.args.height claim c.args.proof.now c.check_present_with.result)
    (not_received_in_order c.args.mine.now p c.args.next_recv c.if-is_ordered.ensures)
    (is_shown c.args.records.now c.args.client.now c.args.height c.requires (key.NextSequenceRecv p.destination_port p.destination_channel) (NumberIs c.args.next_recv) c.args.proof.now c.check_present_with.result
    (λ i. path (key.NextSequenceRecv (c.in_ok-port.ensures.cases i) (c.in_ok-channel.ensures.cases i)))
    c.to_be_bytes-value.ensures c.check_present_with.ensures)

pub returns-else-is_ordered : goal.returns-else-is_ordered
returns-else-is_ordered c =
    let p = c.args.packet.now in
    subst (λ claim. IsShown c.args.records.now c.args.client.now c.args.height claim c.args.proof.now c.check_absent_with.result)
    (not_received_in_any_order c.args.mine.now p c.args.next_recv c.if-is_ordered.ensures)
    (is_shown_absent c.args.records.now c.args.client.now c.args.height c.requires (key.Receipt p.destination_port p.destination_channel p.sequence) c.args.proof.now c.check_absent_with.result
    (λ i. path (key.Receipt (c.in_ok-port.ensures.cases i) (c.in_ok-channel.ensures.cases i) p.sequence))
    c.check_absent_with.ensures)
