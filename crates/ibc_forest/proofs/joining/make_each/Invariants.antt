use Rattle.std.proofs.Common.{◌≡◌, ◌+◌, ◌≤◌, length, drop}
use Rattle.ibc_forest.specs.Counts.{CountsAtLeast}
use Rattle.ibc_forest.specs.Nodes.{Grows}
use Rattle.ibc_forest.specs.Gathered.{FrontStays, PairedBut}
use Rattle.ibc_forest.proofs.joining.make_each.Given as goal

abbrev pub invariant-loop-i : goal.invariant-loop-i
invariant-loop-i l = record {
  gathered : PairedBut l.arena.trees l.row l.above.items (drop l.i l.places);
  counted : length l.above.items ≡ length l.initial.above.items;
  grows : Grows l.initial.arena.trees l.arena.trees;
  front : FrontStays l.places l.initial.above.items l.above.items;
  least : CountsAtLeast l.i l.initial.arena.steps l.arena.steps;
  steps : l.arena.steps ≤ l.initial.arena.steps + l.i;
}
