use Rattle.std.proofs.Common.{◌≡◌, ◌+◌, ◌≤◌, drop}
use Rattle.ibc_forest.specs.Leaves.{differing_count}
use Rattle.ibc_forest.proofs.working.count_differing.Given as goal

abbrev pub invariant-loop-i : goal.invariant-loop-i
invariant-loop-i l = record {
  counted : l.count + differing_count (drop l.i l.row) (drop l.i l.old) ≡ differing_count l.row l.old;
  most : l.count ≤ l.i;
}
