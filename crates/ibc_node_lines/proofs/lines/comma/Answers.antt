-- A comma stands between where there is a text before.
use Rattle.std.proofs.Common.{Bool, [], sym, ap, ◌∙◌, if◌then◌else◌}
use Rattle.std.specs.Prelude.{codes}
use Rattle.ibc_node_lines.proofs.lines.comma.Goals as goal

pub returns-then-is_empty : goal.returns-then-is_empty
returns-then-is_empty c = ap (λ (b : Bool). if b then [] else codes ",") (sym (sym c.is_empty.ensures ∙ c.if-is_empty.true))

pub returns-else-is_empty : goal.returns-else-is_empty
returns-else-is_empty c = ap (λ (b : Bool). if b then [] else codes ",") (sym (sym c.is_empty.ensures ∙ c.if-is_empty.false))
