-- Totals are told, or why there are none.
use Rattle.std.proofs.Common.{IfOk, string_bytes, sym, subst}
use Rattle.ibc_node_lines.specs.QuestionAnswers.{IsTotalsText}
use Rattle.ibc_node_lines.proofs.questions.totals_line.Goals as goal

pub returns-in-Ok : goal.returns-in-Ok
returns-in-Ok c = subst (λ totals. IfOk c.totals.result (λ text. IsTotalsText totals (string_bytes text))) (sym c.in-Ok.is) c.totals.ensures

pub returns-in-Err : goal.returns-in-Err
returns-in-Err c = subst (λ totals. IfOk c.unanswered.result (λ text. IsTotalsText totals (string_bytes text))) (sym c.in-Err.is) c.unanswered.ensures
