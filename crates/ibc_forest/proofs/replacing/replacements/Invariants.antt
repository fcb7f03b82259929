use Rattle.std.proofs.Common.{◌≡◌, ◌+◌, ◌*◌, ◌≤◌, length, drop}
use Rattle.ibc_forest.specs.Counts.{CountsAtLeast}
use Rattle.ibc_forest.specs.Gaps.{DifferIn, IsFoundFrom}
use Rattle.ibc_forest.specs.Leaves.{row_pairs, count_new, keys}
use Rattle.ibc_forest.specs.Nodes.{Grows}
use Rattle.ibc_forest.specs.Replacements.{come_count, HasReplaced}
use Rattle.ibc_forest.proofs.replacing.replacements.Given as goal

abbrev pub invariant-loop-i : goal.invariant-loop-i
invariant-loop-i l =
    let last = row_pairs l.initial.arena.trees l.old in
    let rest = drop l.from l.entries in
    record {
      replaced : HasReplaced l.arena.trees l.entries l.old l.others.items l.from;
      grows : Grows l.initial.arena.trees l.arena.trees;
      from : l.from ≤ length l.old;
      place : l.place ≤ length l.old;
      found : IsFoundFrom last l.place rest;
      gaps : DifferIn (drop l.i l.gaps) (drop l.from last) rest;
      steps : l.arena.steps + 2 * count_new last rest ≤ l.initial.arena.steps + 2 * count_new last l.entries;
      least : CountsAtLeast (2 * count_new last l.entries) l.initial.arena.steps (l.arena.steps + 2 * count_new last rest);
      few : length l.others.items + come_count (drop l.i l.gaps) ≤ come_count l.gaps;
      same : keys l.entries ≡ keys last → length l.others.items + count_new last rest ≤ count_new last l.entries;
    }
