-- The text that is hashed is written part by part.
use Rattle.std.proofs.Common.{ap, ◌∙◌, ◌++◌}
use Rattle.ibc_merkle.specs.Hash.{hash}
use Rattle.ibc_machine.specs.chain.Records.{Commitment}
use Rattle.ibc_machine.specs.ics24.Values.{value_bytes, CommitmentIs}
use Rattle.ibc_records.proofs.packet_values.commitment_value.Goals as goal

pub returns-clause-ok : goal.returns-clause-ok
returns-clause-ok c =
    let time = c.in_ok-extend_from_slice.ensures.items ∙ (λ i. c.in_ok-text.ensures.items i ++ c.to_be_bytes.ensures i) in
    let revision = c.in_ok-extend_from_slice-2.ensures.items ∙ (λ i. time i ++ c.to_be_bytes-2.ensures i) in
    let height = c.in_ok-extend_from_slice-3.ensures.items ∙ (λ i. revision i ++ c.to_be_bytes-3.ensures i) in
    let payload = c.hash_value-payload.ensures.digest ∙ ap hash c.as_slice.ensures in
    let text = c.as_slice-2.ensures.value ∙ c.in_ok-extend_from_slice-4.ensures.items ∙ (λ i. height i ++ payload i) in
    c.in_ok-copy_of.ensures ∙ c.hash_value.ensures.digest ∙ ap hash text ∙ ap (λ (plain : Commitment). value_bytes (CommitmentIs plain)) c.commitment.view_is
