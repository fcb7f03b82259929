use Rattle.ibc_forest.specs.Leaves.{row_pairs}
use Rattle.ibc_forest.proofs.AddedLeaves.{Going}
use Rattle.ibc_forest.proofs.leaves.add_leaves.Given as goal

abbrev pub invariant-loop-i : goal.invariant-loop-i
invariant-loop-i l =
    let start = l.initial.row.items in
    record {
      going : Going (row_pairs l.initial.arena.trees l.old) l.entries l.initial.arena.trees l.old start l.initial.arena.steps l.end l.i l.arena l.row.items l.at;
    }
