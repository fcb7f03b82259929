-- The supplies so far are kept.
use Rattle.std.proofs.Common.{All, IsTrue, take}
use Rattle.ibc_law_checks.specs.Supplies.{is_kept}
use Rattle.ibc_law_checks.proofs.supplies.first_changed_supply.Given as goal

abbrev pub invariant-loop-index : goal.invariant-loop-index
invariant-loop-index l = All (λ home. IsTrue (is_kept l.world home)) (take l.index l.supplies)
