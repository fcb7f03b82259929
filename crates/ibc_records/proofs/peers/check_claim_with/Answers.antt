-- The claim's path and bytes are looked for as they stand.
use Rattle.std.proofs.Common.{◌∙◌}
use Rattle.ibc_merkle.specs.Proofs.{accepts_present}
use Rattle.ibc_records.specs.Claims.{proof_checked}
use Rattle.ibc_records.proofs.peers.check_claim_with.Goals as goal

pub returns : goal.returns
returns c =
    c.check_path_with.ensures
    ∙ (λ i. proof_checked c.args.records.now c.args.client.now c.args.height (λ root. accepts_present c.args.proof.now root (c.as_str-path.ensures.value i) (c.as_slice-value.ensures i)))
