-- Where an answer is due, it is told.
use Rattle.std.proofs.Common.{string_bytes, IfOk, option_copied, sym, subst}
use Rattle.ibc_node_lines.specs.OtherLines.{IsDueText}
use Rattle.ibc_node_lines.proofs.answers.due_text.Goals as goal

pub returns-in-Some : goal.returns-in-Some
returns-in-Some c = subst (λ due. IfOk c.answered.result (λ text. IsDueText (option_copied due) (string_bytes text))) (sym c.in-Some.is) c.answered.ensures

pub returns-in-None : goal.returns-in-None
returns-in-None c = subst (λ due. IfOk c.from_str.result (λ text. IsDueText (option_copied due) (string_bytes text))) (sym c.in-None.is) c.from_str.ensures.ok
