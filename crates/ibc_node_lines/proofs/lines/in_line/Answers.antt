-- One answer stands alone in its line.
use Rattle.std.proofs.Common.{string_bytes, ◌≡◌, IfOk, sym, subst}
use Rattle.ibc_node_lines.specs.Told.{answers_text}
use Rattle.ibc_node_lines.proofs.lines.in_line.Goals as goal

pub returns-then-is_alone : goal.returns-then-is_alone
returns-then-is_alone c =
    subst (λ b. IfOk c.line_of_one.result (λ text. string_bytes text ≡ answers_text b c.args.list.now)) (sym c.if-is_alone.true) c.line_of_one.ensures

pub returns-else-is_alone : goal.returns-else-is_alone
returns-else-is_alone c =
    subst (λ b. IfOk c.line_of_list.result (λ text. string_bytes text ≡ answers_text b c.args.list.now)) (sym c.if-is_alone.false) c.line_of_list.ensures
