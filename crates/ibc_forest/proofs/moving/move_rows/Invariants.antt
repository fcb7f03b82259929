use Rattle.std.proofs.Common.{◌≡◌, map, take}
use Rattle.ibc_forest.specs.Levels.{trees_at}
use Rattle.ibc_forest.specs.NodeMoves.{AreMoved, AllStand}
use Rattle.ibc_forest.specs.Nodes.{Grows}
use Rattle.ibc_forest.specs.NodeLevels.{rows_of}
use Rattle.ibc_forest.proofs.moving.move_rows.Given as goal

abbrev pub invariant-loop-i : goal.invariant-loop-i
invariant-loop-i l = record {
  same : map (trees_at l.new.trees) (rows_of l.next.items) ≡ map (trees_at l.old) (rows_of (take l.i l.rows));
  stand : AllStand l.new.trees (rows_of l.next.items);
  moved : AreMoved l.old l.new.trees l.moved;
  grows : Grows l.initial.new.trees l.new.trees;
  steps : l.new.steps ≡ l.initial.new.steps;
}
