use Rattle.std.proofs.Common.{◌≡◌, Some}
use Rattle.ibc_root_table.proofs.tests.races.publish_all.Given as goal

abbrev pub invariant-loop-height : goal.invariant-loop-height
invariant-loop-height l = (l.own.table ≡ l.table) × (l.own.own ≡ Some 0)
