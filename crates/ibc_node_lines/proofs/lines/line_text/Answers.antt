-- What a line has tells which text it gets.
use Rattle.std.proofs.Common.{◌≡◌, string_bytes, IfOk, sym, subst}
use Rattle.ibc_node_lines.specs.Told.{AreAnswersText, IsLineText}
use Rattle.ibc_node_lines.proofs.lines.line_text.Goals as goal

pub returns-in-Answers : goal.returns-in-Answers
returns-in-Answers c =
    subst (λ line. IfOk c.answers_line.result (λ text. IsLineText line (string_bytes text))) (sym c.in-Answers.is)
    (subst (λ answers. IfOk c.answers_line.result (λ text. AreAnswersText answers (string_bytes text))) c.as_slice.ensures.value c.answers_line.ensures)

pub returns-in-Other : goal.returns-in-Other
returns-in-Other c =
    subst (λ line. IfOk c.from_str.result (λ text. IsLineText line (string_bytes text))) (sym c.in-Other.is)
    (subst (λ it. IfOk c.from_str.result (λ text. string_bytes text ≡ it)) c.as_str.ensures.value c.from_str.ensures.ok)
