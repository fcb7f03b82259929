use Rattle.std.proofs.Common.{◌≡◌, ◌+◌, ◌<◌, ◌≤◌, length, take}
use Rattle.ibc_forest.specs.Counts.{CountsAtLeast}
use Rattle.ibc_forest.specs.Nodes.{Grows}
use Rattle.ibc_forest.specs.Gathered.{PairedBut, WaitBehind}
use Rattle.ibc_forest.proofs.rows.add_pairs.Given as goal

abbrev pub invariant-loop-place : goal.invariant-loop-place
invariant-loop-place l = record {
  gathered : PairedBut l.arena.trees l.row l.above.items l.waiting;
  counted : length l.above.items ≡ l.place;
  from : length l.initial.above.items ≤ l.place;
  room : length l.waiting < 4;
  behind : WaitBehind (length l.initial.above.items) l.waiting;
  grows : Grows l.initial.arena.trees l.arena.trees;
  front : take (length l.initial.above.items) l.above.items ≡ l.initial.above.items;
  least : CountsAtLeast 0 l.initial.arena.steps l.arena.steps;
  steps : l.arena.steps + length l.waiting + length l.initial.above.items ≤ l.initial.arena.steps + l.place;
}
