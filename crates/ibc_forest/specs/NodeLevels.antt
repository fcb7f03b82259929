-- Rows of nodes: the levels of a tree.
use Rattle.std.specs.Prelude.{◌≡◌, ℕ, zero, suc, ◌+◌, ◌*◌, ◌/◌, ◌^◌, ◌<◌, ◌≤◌, List, [], ◌∷◌, ◌++◌, length, map, take, slice_set, ⊤, Vec}
use Rattle.std.specs.List.{All}
use Rattle.std.specs.declared.alloc.Global.{Global}
use Rattle.ibc_merkle.specs.Tree.{Tree}
use Rattle.ibc_forest.specs.Levels.{pair_up, tree_over, tree_at, trees_at}

-- all numbers of a row are those of nodes
abbrev pub Stand : List Tree → List ℕ → Type 0
Stand trees row = All (λ number. number < length trees) row

-- the first nodes one level above a row
abbrev pub AreFirstAbove : List Tree → List ℕ → List ℕ → Type 0
AreFirstAbove trees row above =
    Stand trees above × (2 * length above ≤ length row) × (trees_at trees above ≡ pair_up (take (2 * length above) (trees_at trees row)))

-- each row is one level above the row before it, and the last has one node
abbrev pub AreLevels : List Tree → List ℕ → List (List ℕ) → Type 0
AreLevels trees row [] = length row ≡ 1
AreLevels trees row (above ∷ rows) =
    (1 < length row) × Stand trees above × (trees_at trees above ≡ pair_up (trees_at trees row)) × AreLevels trees above rows

-- the levels of a tree, from its leaves up
abbrev pub IsPyramid : List Tree → List (List ℕ) → Type 0
IsPyramid trees [] = zero ≡ suc zero
IsPyramid trees (row ∷ rows) = Stand trees row × AreLevels trees row rows

-- the levels of a tree, or no row
abbrev pub AreKnown : List Tree → List (List ℕ) → Type 0
AreKnown trees [] = ⊤
AreKnown trees (row ∷ rows) = IsPyramid trees (row ∷ rows)

-- the rows with these nodes, one a row, at a place and above it
abbrev pub with_replaced : List (List ℕ) → ℕ → List ℕ → List (List ℕ)
with_replaced [] index nodes = []
with_replaced (row ∷ rows) index [] = row ∷ rows
with_replaced (row ∷ rows) index (node ∷ nodes) = slice_set row index node ∷ with_replaced rows (index / 2) nodes

abbrev pub rows_of : List (Vec ℕ Global) → List (List ℕ)
rows_of rows = map (λ (row : Vec ℕ Global). row.items) rows

-- the nodes of a place and above it that were added to those before
pub record Climbs (trees : List Tree) (rows : List (List ℕ)) (index node : ℕ) (before after : List ℕ) : Type 0 where
  pub above : List ℕ
  pub added : after ≡ before ++ node ∷ above
  pub counted : length above + 1 ≡ length rows
  pub levels : IsPyramid trees (with_replaced rows index (node ∷ above))

-- the logarithm to base two, rounded up
pub record IsCeilLog2 (n log : ℕ) : Type 0 where
  pub enough : n ≤ 2 ^ log
  pub least : (other : ℕ) → n ≤ 2 ^ other → log ≤ other

abbrev pub first_row : List (List ℕ) → List ℕ
first_row [] = []
first_row (row ∷ rows) = row

-- the levels over a row that were added to the rows before
pub record HasLevelsOver (trees : List Tree) (before : List (Vec ℕ Global)) (row : List ℕ) (after : List (Vec ℕ Global)) : Type 0 where
  pub above : List (Vec ℕ Global)
  pub added : rows_of after ≡ rows_of before ++ row ∷ rows_of above
  pub levels : IsPyramid trees (row ∷ rows_of above)

-- the row of the leaves, below all others
abbrev pub leaves_of : List (Vec ℕ Global) → List ℕ
leaves_of rows = first_row (rows_of rows)

-- a row is as long as that of the leaves
abbrev pub IsAsLong : List (Vec ℕ Global) → List ℕ → Type 0
IsAsLong rows row = length row ≡ length (leaves_of rows)

-- a node is the root over the leaves
abbrev pub IsRootOver : List Tree → List (Vec ℕ Global) → ℕ → Type 0
IsRootOver trees rows node = tree_at trees node ≡ tree_over (trees_at trees (leaves_of rows))

-- the leaves are those of before, but for the one at a place
abbrev pub PutsLeaf : List (Vec ℕ Global) → List (Vec ℕ Global) → ℕ → ℕ → Type 0
PutsLeaf before after place leaf = leaves_of after ≡ slice_set (leaves_of before) place leaf
