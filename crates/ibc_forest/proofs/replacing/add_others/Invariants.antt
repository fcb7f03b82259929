use Rattle.std.proofs.Common.{◌≡◌, ◌+◌, ◌*◌, ◌≤◌, length, drop}
use Rattle.ibc_forest.specs.Counts.{CountsAtLeast}
use Rattle.ibc_forest.specs.Gaps.{IsFoundFrom}
use Rattle.ibc_forest.specs.Leaves.{row_pairs, count_new, keys}
use Rattle.ibc_forest.specs.Nodes.{Grows}
use Rattle.ibc_forest.specs.Replacements.{HasReplaced}
use Rattle.ibc_forest.proofs.replacing.add_others.Given as goal

abbrev pub invariant-loop-i : goal.invariant-loop-i
invariant-loop-i l =
    let last = row_pairs l.initial.arena.trees l.old in
    let all = count_new last (drop l.from l.entries) in
    record {
      replaced : HasReplaced l.arena.trees l.entries l.old l.others.items l.i;
      grows : Grows l.initial.arena.trees l.arena.trees;
      place : l.at ≤ length l.old;
      found : IsFoundFrom last l.at (drop l.i l.entries);
      steps : l.arena.steps + 2 * count_new last (drop l.i l.entries) ≤ l.initial.arena.steps + 2 * all;
      least : CountsAtLeast (2 * all) l.initial.arena.steps (l.arena.steps + 2 * count_new last (drop l.i l.entries));
      few : length l.others.items + l.from ≤ length l.initial.others.items + l.i;
      same : keys l.entries ≡ keys last → length l.others.items + count_new last (drop l.i l.entries) ≤ length l.initial.others.items + all;
    }
