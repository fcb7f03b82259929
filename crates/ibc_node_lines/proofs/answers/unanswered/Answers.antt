-- The refusal stands in the line.
use Rattle.std.proofs.Common.{sym, subst}
use Rattle.std.proofs.lemmas.Result.{IfOk-weaker}
use Rattle.ibc_node_lines.specs.Told.{IsRefusedText}
use Rattle.ibc_node_lines.proofs.answers.unanswered.Goals as goal

pub returns : goal.returns
returns c =
    IfOk-weaker c.unanswered_for.result _ _ (λ text is. (c.as_str.result.now, subst (IsRefusedText c.args.refusal) (sym c.as_str.ensures.value) c.in_ok-why.ensures, is))
    c.unanswered_for.ensures
