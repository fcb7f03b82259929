-- How far a count of texts goes on that stops at 2^64 - 1.
use Rattle.std.specs.Prelude.{ℕ, ◌+◌, ◌-◌, ◌*◌, ◌^◌, ◌≤◌, min}
use Rattle.ibc_merkle.specs.Tree.{Pairs}
use Rattle.ibc_forest.specs.Leaves.{count_new}

-- by so many texts at least
abbrev pub CountsAtLeast : ℕ → ℕ → ℕ → Type 0
CountsAtLeast texts before after = min (before + texts) (2 ^ 64 - 1) ≤ after

-- by the value and the leaf of each pair that the last ones lack
abbrev pub CountsEachNewLeaf : Pairs → Pairs → ℕ → ℕ → Type 0
CountsEachNewLeaf last pairs before after = CountsAtLeast (2 * count_new last pairs) before after
