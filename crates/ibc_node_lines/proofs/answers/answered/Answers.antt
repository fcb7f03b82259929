-- The reply stands before what was read for it.
use Rattle.std.proofs.Common.{sym, subst}
use Rattle.std.proofs.lemmas.Result.{IfOk-weaker}
use Rattle.ibc_node_lines.specs.Told.{IsReplyText}
use Rattle.ibc_node_lines.proofs.answers.answered.Goals as goal

pub returns : goal.returns
returns c =
    IfOk-weaker c.with_reading.result _ _ (λ text is. (c.as_str.result.now, subst (IsReplyText c.args.given.now.reply) (sym c.as_str.ensures.value) c.in_ok-reply.ensures, is))
    c.with_reading.ensures
