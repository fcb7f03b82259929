-- What a forest holds: the pairs of the last commit, and those of each height that is kept with its time.
use Rattle.std.specs.Prelude.{◌≡◌, ℕ, List, [], ◌∷◌, map, ⊤, IsTrue}
use Rattle.std.specs.List.{All}
use Rattle.std.specs.FinMap.{is_sorted}
use Rattle.ibc_ids.specs.Texts.{text_cmp}
use Rattle.ibc_merkle.specs.Tree.{Pairs, Tree}
use Rattle.ibc_forest.specs.Levels.{leaf_of, trees_at}
use Rattle.ibc_forest.specs.Heights.{pairs_of, IsTreeOver}
use Rattle.ibc_forest.specs.Leaves.{row_pairs}
use Rattle.ibc_forest.specs.NodeLevels.{IsPyramid, first_row}
use Rattle.ibc_forest.specs.declared.forest.Height.{Height}

abbrev pub kept_pairs : List Tree → List Height → List (Pairs × ℕ)
kept_pairs trees kept = map (λ (height : Height). (pairs_of trees height.root, height.time)) kept

-- the rows are the levels of the tree over their leaves' pairs
abbrev pub IsWorking : List Tree → List (List ℕ) → Type 0
IsWorking trees rows =
    IsPyramid trees rows × (trees_at trees (first_row rows) ≡ map leaf_of (row_pairs trees (first_row rows)))

-- the same, or no row before the first commit
abbrev pub IsLast : List Tree → List (List ℕ) → Type 0
IsLast trees [] = ⊤
IsLast trees (row ∷ rows) = IsWorking trees (row ∷ rows)

-- the root of a height is that of the tree over sorted pairs
pub record IsSortedHeight (trees : List Tree) (height : Height) : Type 0 where
  pub over : IsTreeOver trees height.root height.count
  pub sorted : IsTrue (is_sorted text_cmp (pairs_of trees height.root))

abbrev pub AreSortedHeights : List Tree → List Height → Type 0
AreSortedHeights trees kept = All (IsSortedHeight trees) kept

-- the kept heights have the same pairs and times
abbrev pub HaveSamePairs : List Tree → List Tree → List Height → List Height → Type 0
HaveSamePairs old new kept next = kept_pairs new next ≡ kept_pairs old kept
