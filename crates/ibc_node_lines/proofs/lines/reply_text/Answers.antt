-- A reply is accepted or refused.
use Rattle.std.proofs.Common.{string_bytes, IfOk, sym, subst}
use Rattle.ibc_node_lines.specs.Told.{IsReplyText}
use Rattle.ibc_node_lines.proofs.lines.reply_text.Goals as goal

pub returns-in-Ok : goal.returns-in-Ok
returns-in-Ok c = subst (λ reply. IfOk c.accepted.result (λ text. IsReplyText reply (string_bytes text))) (sym c.in-Ok.is) c.accepted.ensures

pub returns-in-No : goal.returns-in-No
returns-in-No c = subst (λ reply. IfOk c.refused.result (λ text. IsReplyText reply (string_bytes text))) (sym c.in-No.is) c.refused.ensures
