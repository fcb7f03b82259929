use Rattle.std.proofs.Common.{◌≡◌, take}
use Rattle.ibc_forest.specs.Forest.{AreSortedHeights, kept_pairs}
use Rattle.ibc_forest.specs.NodeMoves.{AreMoved}
use Rattle.ibc_forest.specs.Nodes.{Grows}
use Rattle.ibc_forest.proofs.moving.move_kept.Given as goal

abbrev pub invariant-loop-i : goal.invariant-loop-i
invariant-loop-i l = record {
  same : kept_pairs l.new.trees l.next.items ≡ kept_pairs l.old (take l.i l.kept.items);
  kept : AreSortedHeights l.new.trees l.next.items;
  moved : AreMoved l.old l.new.trees l.moved;
  grows : Grows l.initial.new.trees l.new.trees;
  steps : l.new.steps ≡ l.initial.new.steps;
}
