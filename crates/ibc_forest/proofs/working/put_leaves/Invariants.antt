use Rattle.std.proofs.Common.{◌≡◌, ◌+◌, ◌-◌, ◌*◌, ◌≤◌, ◌++◌, length, take, drop}
use Rattle.ibc_forest.specs.Counts.{CountsAtLeast}
use Rattle.ibc_forest.specs.Leaves.{differing_count}
use Rattle.ibc_forest.specs.Nodes.{Grows}
use Rattle.ibc_forest.specs.NodeLevels.{IsPyramid, rows_of, first_row}
use Rattle.ibc_forest.proofs.working.put_leaves.Given as goal

abbrev pub invariant-loop-i : goal.invariant-loop-i
invariant-loop-i l =
    let old = first_row (rows_of l.initial.rows) in
    let above = length l.initial.rows - 1 in
    record {
      levels : IsPyramid l.arena.trees (rows_of l.rows);
      row : first_row (rows_of l.rows) ≡ take l.i l.row ++ drop l.i old;
      grows : Grows l.initial.arena.trees l.arena.trees;
      least : CountsAtLeast 0 l.initial.arena.steps l.arena.steps;
      steps : l.arena.steps + differing_count (drop l.i l.row) (drop l.i old) * above ≤ l.initial.arena.steps + differing_count l.row old * above;
    }
