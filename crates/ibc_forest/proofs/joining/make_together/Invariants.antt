use Rattle.std.proofs.Common.{◌≡◌, length, drop}
use Rattle.ibc_forest.specs.Nodes.{Grows}
use Rattle.ibc_forest.specs.Gathered.{FrontStays, PairedBut}
use Rattle.ibc_forest.proofs.joining.make_together.Given as goal

abbrev pub invariant-loop-k : goal.invariant-loop-k
invariant-loop-k l = record {
  gathered : PairedBut l.arena.trees l.row l.above.items (drop l.k l.places);
  counted : length l.above.items ≡ length l.initial.above.items;
  grows : Grows l.initial.arena.trees l.arena.trees;
  front : FrontStays l.places l.initial.above.items l.above.items;
  steps : l.arena.steps ≡ l.initial.arena.steps;
}
