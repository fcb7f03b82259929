-- A comma stands between two steps.
use Rattle.std.proofs.Common.{Bool, sym, ap, if◌then◌else◌}
use Rattle.std.specs.Prelude.{codes}
use Rattle.ibc_random_scripts.proofs.script_texts.before_step.Goals as goal

pub returns-then-is_first : goal.returns-then-is_first
returns-then-is_first c = ap (λ (b : Bool). if b then codes "\n" else codes ",\n") (sym c.if-is_first.true)

pub returns-else-is_first : goal.returns-else-is_first
returns-else-is_first c = ap (λ (b : Bool). if b then codes "\n" else codes ",\n") (sym c.if-is_first.false)
