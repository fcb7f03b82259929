-- Other leaves at places of a tree, and what puts back what they replaced.
use Rattle.std.specs.Prelude.{◌≡◌, ℕ, ◌+◌, ◌/◌, ◌<◌, List, [], ◌∷◌, length, take, drop, map, slice_set, slice_index_or, Vec}
use Rattle.std.specs.List.{All}
use Rattle.std.specs.declared.alloc.Global.{Global}
use Rattle.ibc_merkle.specs.Tree.{Pairs, Tree}
use Rattle.ibc_forest.specs.Gaps.{HasFirst}
use Rattle.ibc_forest.specs.Leaves.{differ_count}
use Rattle.ibc_forest.specs.Levels.{leaf_of, trees_at}
use Rattle.ibc_forest.specs.NodeLevels.{with_replaced, rows_of}
use Rattle.ibc_forest.specs.declared.gap.Gap.{Gap}
use Rattle.ibc_forest.specs.declared.replacement.NotedPath.{NotedPath}
use Rattle.ibc_forest.specs.declared.replacement.Replacement.{Replacement}

-- in each gap as many pairs came as are gone
abbrev pub AreReplaced : List Gap → Type 0
AreReplaced gaps = All (λ (gap : Gap). gap.gone ≡ gap.come) gaps

-- how many pairs came in all gaps
abbrev pub come_count : List Gap → ℕ
come_count [] = 0
come_count (gap ∷ gaps) = gap.come + come_count gaps

-- the row with other leaves at their places
abbrev pub with_leaves : List ℕ → List Replacement → List ℕ
with_leaves row [] = row
with_leaves row (other ∷ others) = with_leaves (slice_set row other.place other.leaf) others

-- the places are those of a row of so many nodes, and the leaves are there
abbrev pub FitIn : ℕ → List Tree → List Replacement → Type 0
FitIn count trees others = All (λ (other : Replacement). (other.place < count) × (other.leaf < length trees)) others

-- with the other leaves the row has up to a place the leaves of the pairs, and from there on its own
pub record HasReplaced (trees : List Tree) (pairs : Pairs) (row : List ℕ) (others : List Replacement) (place : ℕ) : Type 0 where
  pub first : HasFirst trees pairs (take place (with_leaves row others))
  pub rest : drop place (with_leaves row others) ≡ drop place row
  pub fit : FitIn (length row) trees others

-- the nodes at a place and above it, one a row
abbrev pub nodes_at : List (List ℕ) → ℕ → List ℕ
nodes_at [] index = []
nodes_at (row ∷ rows) index = slice_index_or row index 0 ∷ nodes_at rows (index / 2)

-- the rows with the noted nodes put back, the last ones first
abbrev pub put_back : List NotedPath → List (List ℕ) → List (List ℕ)
put_back [] rows = rows
put_back (path ∷ noted) rows = with_replaced (put_back noted rows) path.place path.nodes.items

-- each noted path has a node for each of so many rows
abbrev pub AreLong : ℕ → List NotedPath → Type 0
AreLong count noted = All (λ (path : NotedPath). length path.nodes.items ≡ count) noted

-- no other leaf stands at a place of the row
abbrev pub HasOwnLeaf : List ℕ → List Replacement → ℕ → Type 0
HasOwnLeaf row others place = slice_index_or (with_leaves row others) place 0 ≡ slice_index_or row place 0

-- one more leaf stands at a place of the row
abbrev pub AddsOther : List ℕ → ℕ → ℕ → List Replacement → List Replacement → Type 0
AddsOther row place leaf before after = with_leaves row after ≡ slice_set (with_leaves row before) place leaf

-- where the leaf is there, the other leaves go on fitting into the row
abbrev pub StayFit : List ℕ → ℕ → List Replacement → List Replacement → Type 0
StayFit row leaf before after =
    (trees : List Tree) → leaf < length trees → FitIn (length row) trees before → FitIn (length row) trees after

-- there is one other leaf more if the leaf isn't that of the row at the place
abbrev pub AddsOneIfOther : List ℕ → ℕ → ℕ → List Replacement → List Replacement → Type 0
AddsOneIfOther row place leaf before after = length after ≡ length before + differ_count leaf (slice_index_or row place 0)

-- with the other leaves the row has the leaves of the pairs
abbrev pub LeadTo : List Tree → List ℕ → List Replacement → Pairs → Type 0
LeadTo trees row others pairs = trees_at trees (with_leaves row others) ≡ map leaf_of pairs

-- the rows as they stood before what was noted
abbrev pub rows_before : List NotedPath → List (Vec ℕ Global) → List (List ℕ)
rows_before noted rows = put_back noted (rows_of rows)
