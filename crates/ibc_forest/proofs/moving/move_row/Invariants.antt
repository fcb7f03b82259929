use Rattle.std.proofs.Common.{◌≡◌, take}
use Rattle.ibc_forest.specs.Levels.{trees_at}
use Rattle.ibc_forest.specs.NodeMoves.{AreMoved}
use Rattle.ibc_forest.specs.Nodes.{Grows}
use Rattle.ibc_forest.specs.NodeLevels.{Stand}
use Rattle.ibc_forest.proofs.moving.move_row.Given as goal

abbrev pub invariant-loop-i : goal.invariant-loop-i
invariant-loop-i l = record {
  same : trees_at l.new.trees l.next.items ≡ trees_at l.old (take l.i l.row);
  stand : Stand l.new.trees l.next.items;
  moved : AreMoved l.old l.new.trees l.moved;
  grows : Grows l.initial.new.trees l.new.trees;
  steps : l.new.steps ≡ l.initial.new.steps;
}
