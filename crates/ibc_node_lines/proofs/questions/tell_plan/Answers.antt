-- The messages for the second chain are told.
use Rattle.std.proofs.Common.{◌∙◌, List, ap}
use Rattle.std.proofs.lemmas.Result.{IfOk-weaker}
use Rattle.ibc_wire.specs.declared.messages.Message.{Message}
use Rattle.ibc_node_lines.specs.QuestionAnswers.{plan_text}
use Rattle.ibc_node_lines.proofs.questions.tell_plan.Goals as goal

pub returns-in-Ok : goal.returns-in-Ok
returns-in-Ok g c =
    let planned = ap (λ (plans : List Message × List Message). plans.0) c.in-Ok.ensures in
    IfOk-weaker c.told_plan-told.result _ _ (λ text is. is ∙ ap plan_text (c.as_slice.ensures.value ∙ planned)) c.told_plan-told.ensures
