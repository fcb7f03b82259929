use Rattle.std.proofs.Common.{◌≡◌, drop}
use Rattle.ibc_merkle.specs.Tree.{Pairs}
use Rattle.ibc_forest.specs.Gaps.{DifferIn}
use Rattle.ibc_forest.proofs.next_rows.are_empty.Given as goal

abbrev pub invariant-loop-i : goal.invariant-loop-i
invariant-loop-i l =
    ((last pairs : Pairs) → DifferIn (drop l.i l.gaps) last pairs → pairs ≡ last) → (last pairs : Pairs) → DifferIn l.gaps last pairs → pairs ≡ last
