use Rattle.std.proofs.Common.{subst, sym}
use Rattle.serde_json.specs.View.{view}
use Rattle.ibc_ids.specs.Texts.{Text}
use Rattle.ibc_script.specs.Faults.{OnlyWhereNone}
use Rattle.ibc_script.specs.ScriptValues.{IsDraft}
use Rattle.ibc_script.specs.declared.draft.Draft.TheVariants as draft
use Rattle.ibc_script.proofs.StepWords.{no_client}
use Rattle.ibc_script.proofs.reading.step_reader.StepReader.client_draft.Goals as goal

pub returns-in-CreateClient-clause-bad : goal.returns-in-CreateClient-clause-bad
returns-in-CreateClient-clause-bad c =
    subst (λ (k : Text). OnlyWhereNone c.create_client.result (λ d. IsDraft k c.args.self.now.names.now (view c.args.self.now.object.now) (draft.Client d))) (sym c.in-CreateClient.is) c.create_client.ensures.bad

pub returns-in-UpdateClient-clause-bad : goal.returns-in-UpdateClient-clause-bad
returns-in-UpdateClient-clause-bad c =
    subst (λ (k : Text). OnlyWhereNone c.update_client.result (λ d. IsDraft k c.args.self.now.names.now (view c.args.self.now.object.now) (draft.Client d))) (sym c.in-UpdateClient.is) c.update_client.ensures.bad

pub returns-in_default-clause-bad : goal.returns-in_default-clause-bad
returns-in_default-clause-bad c bad = no_client c.args.kind.now c.args.self.now.names.now (view c.args.self.now.object.now) c.in_default.not-CreateClient c.in_default.not-UpdateClient
