-- The claim that is made is the one that the peer must meet.
use Rattle.std.proofs.Common.{ap, ◌∙◌}
use Rattle.ibc_ids.specs.Paths.{path}
use Rattle.ibc_ids.specs.declared.key.Key.TheVariants as key
use Rattle.ibc_machine.specs.ics24.Values.{AckIs, value_bytes}
use Rattle.ibc_records.proofs.Shown.{is_shown}
use Rattle.ibc_records.proofs.claims.check_acknowledged.Goals as goal

pub returns : goal.returns
returns c =
    let p = c.args.message.now.packet in
    is_shown c.args.records.now c.args.client.now c.args.message.now.height c.requires (key.Acknowledgement p.destination_port p.destination_channel p.sequence) (AckIs c.args.message.now.ack) c.args.proof.now c.check_present_with.result
    (λ i. path (key.Acknowledgement (c.in_ok-clone.ensures.cases i) (c.in_ok-clone-2.ensures.cases i) p.sequence))
    (c.as_slice-value.ensures ∙ c.in_ok-value.ensures.ok ∙ ap (λ text. value_bytes (AckIs text)) c.as_slice.ensures)
    c.check_present_with.ensures
