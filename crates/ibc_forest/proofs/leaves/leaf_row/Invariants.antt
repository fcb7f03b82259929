use Rattle.std.proofs.Common.{◌≡◌, ◌+◌, ◌*◌, ◌≤◌, ◌++◌, ℕ, List, length, drop}
use Rattle.ibc_forest.specs.Counts.{CountsAtLeast}
use Rattle.ibc_forest.specs.Gaps.{DifferIn, HasFirst, IsFoundFrom}
use Rattle.ibc_forest.specs.Leaves.{row_pairs, count_new, keys, differing_count}
use Rattle.ibc_forest.specs.Nodes.{Grows}
use Rattle.ibc_forest.proofs.leaves.leaf_row.Given as goal

abbrev pub invariant-loop-i : goal.invariant-loop-i
invariant-loop-i l =
    let last = row_pairs l.initial.arena.trees l.old in
    let rest = drop (length l.row.items) l.entries in
    record {
      first : HasFirst l.arena.trees l.entries l.row.items;
      grows : Grows l.initial.arena.trees l.arena.trees;
      from : l.from ≤ length l.old;
      place : l.place ≤ length l.old;
      found : IsFoundFrom last l.place rest;
      gaps : DifferIn (drop l.i l.gaps) (drop l.from last) rest;
      splice : (others : List ℕ) → DifferIn (drop l.i l.gaps) (drop l.from l.old) others → DifferIn l.gaps l.old (l.row.items ++ others);
      steps : l.arena.steps + 2 * count_new last rest ≤ l.initial.arena.steps + 2 * count_new last l.entries;
      least : CountsAtLeast (2 * count_new last l.entries) l.initial.arena.steps (l.arena.steps + 2 * count_new last rest);
      same : keys l.entries ≡ keys last → differing_count l.row.items l.old + count_new last rest ≤ count_new last l.entries;
    }
