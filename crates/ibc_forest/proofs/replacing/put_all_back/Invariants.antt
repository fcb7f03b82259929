use Rattle.std.proofs.Common.{◌≡◌, ◌≤◌, length, take}
use Rattle.ibc_forest.specs.NodeLevels.{rows_of}
use Rattle.ibc_forest.specs.Replacements.{put_back}
use Rattle.ibc_forest.proofs.replacing.put_all_back.Given as goal

abbrev pub invariant-loop-left : goal.invariant-loop-left
invariant-loop-left l = record {
  back : put_back (take l.left l.noted) (rows_of l.rows) ≡ put_back l.noted (rows_of l.initial.rows);
  left : l.left ≤ length l.noted;
}

abbrev pub decreases-loop-left : goal.decreases-loop-left
decreases-loop-left l = l.left
