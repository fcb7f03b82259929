-- The key's path is the one where the value is looked for.
use Rattle.std.proofs.Common.{ap, ◌∙◌, inr}
use Rattle.ibc_ids.specs.Texts.{Text}
use Rattle.ibc_merkle.specs.Proofs.{accepts_present}
use Rattle.ibc_records.specs.Claims.{proof_checked}
use Rattle.ibc_records.proofs.proof_check.check_present.Goals as goal

pub returns : goal.returns
returns c =
    inr (c.check_path.ensures
    ∙ ap (λ (text : Text). proof_checked c.args.records.now c.args.client.now c.args.height (λ root. accepts_present c.args.proof.now root text c.args.value.now))
    (c.as_str.ensures.value ∙ c.in_ok-path.ensures.ok))
