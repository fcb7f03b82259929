-- What leaves that come to a row of first ones do.
use Rattle.std.specs.Prelude.{◌≡◌, ℕ, ◌+◌, ◌*◌, ◌≤◌, List, length, take, drop, Result, IfOk, Vec}
use Rattle.std.specs.declared.alloc.Global.{Global}
use Rattle.ibc_merkle.specs.Tree.{Pairs, Tree}
use Rattle.ibc_forest.specs.Codes.{ArenaModel}
use Rattle.ibc_forest.specs.Counts.{CountsAtLeast}
use Rattle.ibc_forest.specs.Gaps.{HasFirst, IsFoundFrom}
use Rattle.ibc_forest.specs.Leaves.{count_new, keys, differing_count, row_pairs}

-- the row has the leaves of more of the pairs, the pair behind them is found from the next place of the old row on, and two texts
-- were hashed for each new one
pub record AreAdded (last pairs : Pairs) (old before row : List ℕ) (trees : List Tree) (next from to : ℕ) : Type 0 where
  pub first : HasFirst trees pairs row
  pub front : take (length before) row ≡ before
  pub place : next ≤ length old
  pub found : IsFoundFrom last next (drop (length row) pairs)
  pub steps : to + 2 * count_new last (drop (length row) pairs) ≤ from + 2 * count_new last (drop (length before) pairs)
  pub least : CountsAtLeast (2 * count_new last (drop (length before) pairs)) from (to + 2 * count_new last (drop (length row) pairs))
  pub same : keys pairs ≡ keys last
      → differing_count row old + count_new last (drop (length row) pairs) ≤ differing_count before old + count_new last (drop (length before) pairs)

-- where the leaves came, these are they, and the answer is the next place of the old row
abbrev pub AddsLeavesOnOk : {E : Type 0} → List ℕ → Pairs → Vec ℕ Global → Vec ℕ Global → ArenaModel → ArenaModel → Result ℕ E → Type 0
AddsLeavesOnOk old pairs row row' before after result =
    IfOk result (λ next. AreAdded (row_pairs before.trees old) pairs old row.items row'.items after.trees next before.steps after.steps)
