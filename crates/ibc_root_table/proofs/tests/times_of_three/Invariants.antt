use Rattle.std.proofs.Common.{◌≡◌, Some}
use Rattle.ibc_root_table.proofs.tests.times_of_three.Given as goal

abbrev pub invariant-loop-height : goal.invariant-loop-height
invariant-loop-height l = (l.own.table ≡ l.table) × (l.own.own ≡ Some 0)
