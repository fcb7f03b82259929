use Rattle.std.proofs.Common.{◌≡◌, ◌+◌, ◌-◌, ◌*◌, ◌≤◌, length, drop}
use Rattle.ibc_forest.specs.Counts.{CountsAtLeast}
use Rattle.ibc_forest.specs.Nodes.{Grows}
use Rattle.ibc_forest.specs.NodeLevels.{IsPyramid, rows_of, first_row}
use Rattle.ibc_forest.specs.Replacements.{with_leaves, put_back, AreLong}
use Rattle.ibc_forest.proofs.replacing.put_each.Given as goal

abbrev pub invariant-loop-i : goal.invariant-loop-i
invariant-loop-i l =
    let old = first_row (rows_of l.initial.rows) in
    let now = first_row (rows_of l.rows) in
    record {
      levels : IsPyramid l.arena.trees (rows_of l.rows);
      row : with_leaves now (drop l.i l.others) ≡ with_leaves old l.others;
      width : length now ≡ length old;
      grows : Grows l.initial.arena.trees l.arena.trees;
      steps : l.arena.steps ≤ l.initial.arena.steps + l.i * (length l.initial.rows - 1);
      least : CountsAtLeast 0 l.initial.arena.steps l.arena.steps;
      noted : put_back l.noted.items (rows_of l.rows) ≡ put_back l.initial.noted.items (rows_of l.initial.rows);
      long : AreLong (length l.initial.rows) l.noted.items;
    }
