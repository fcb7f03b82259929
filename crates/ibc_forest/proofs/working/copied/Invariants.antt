use Rattle.std.proofs.Common.{◌≡◌, take}
use Rattle.ibc_forest.specs.NodeLevels.{rows_of}
use Rattle.ibc_forest.proofs.working.copied.Given as goal

abbrev pub invariant-loop-i : goal.invariant-loop-i
invariant-loop-i l = rows_of l.copy.items ≡ rows_of (take l.i l.rows)
