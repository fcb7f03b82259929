-- The reply stands in the answer.
use Rattle.std.proofs.Common.{sym, subst}
use Rattle.std.proofs.lemmas.Result.{IfOk-weaker}
use Rattle.ibc_node_lines.specs.Told.{IsReplyText}
use Rattle.ibc_node_lines.proofs.lines.answer.Goals as goal

pub returns : goal.returns
returns c =
    IfOk-weaker c.with_place.result _ _ (λ text is. (c.as_str.result.now, subst (IsReplyText c.args.kept.now.reply) (sym c.as_str.ensures.value) c.in_ok-given.ensures, is))
    c.with_place.ensures
