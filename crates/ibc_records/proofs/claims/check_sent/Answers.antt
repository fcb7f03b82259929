-- The claim that is made is the one that the peer must meet.
use Rattle.std.proofs.Common.{◌∙◌}
use Rattle.ibc_ids.specs.Paths.{path}
use Rattle.ibc_ids.specs.declared.key.Key.TheVariants as key
use Rattle.ibc_machine.specs.chain.Records.{commitment_of}
use Rattle.ibc_machine.specs.ics24.Values.{CommitmentIs}
use Rattle.ibc_records.proofs.Shown.{is_shown}
use Rattle.ibc_records.proofs.claims.check_sent.Goals as goal

pub returns : goal.returns
returns c =
    let p = c.args.message.now.packet in
    is_shown c.args.records.now c.args.client.now c.args.message.now.height c.requires (key.Commitment p.source_port p.source_channel p.sequence) (CommitmentIs (commitment_of p)) c.args.proof.now c.check_present_with.result
    (λ i. path (key.Commitment (c.in_ok-clone.ensures.cases i) (c.in_ok-clone-2.ensures.cases i) p.sequence))
    (c.as_slice-value.ensures ∙ c.in_ok-value.ensures.ok)
    c.check_present_with.ensures
