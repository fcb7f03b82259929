use Rattle.std.proofs.Common.{◌+◌, ◌≤◌, drop}
use Rattle.ibc_forest.specs.Replacements.{AreReplaced, come_count}
use Rattle.ibc_forest.proofs.next_rows.are_replaced.Given as goal

abbrev pub invariant-loop-i : goal.invariant-loop-i
invariant-loop-i l = record {
  each : AreReplaced (drop l.i l.gaps) → AreReplaced l.gaps;
  few : come_count l.gaps + l.left ≤ come_count (drop l.i l.gaps) + l.most;
}
