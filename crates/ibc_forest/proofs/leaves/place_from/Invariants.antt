use Rattle.std.proofs.Common.{◌≡◌, drop}
use Rattle.ibc_forest.specs.Leaves.{row_pairs, from_key}
use Rattle.ibc_forest.proofs.leaves.place_from.Given as goal

abbrev pub invariant-loop-at : goal.invariant-loop-at
invariant-loop-at l = from_key l.key (drop l.at (row_pairs l.arena.trees l.row)) ≡ from_key l.key (drop l.from (row_pairs l.arena.trees l.row))
