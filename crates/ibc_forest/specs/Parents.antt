-- What stands above nodes, in an arena after a change of it.
use Rattle.std.specs.Prelude.{◌≡◌, ℕ, ◌/◌, List, slice_set}
use Rattle.ibc_merkle.specs.Tree.{Node}
use Rattle.ibc_forest.specs.Codes.{ArenaModel}
use Rattle.ibc_forest.specs.Levels.{pair_up, tree_at, trees_at}

-- a node is the one over two nodes of before
abbrev pub IsParent : ArenaModel → ArenaModel → ℕ → ℕ → ℕ → Type 0
IsParent before after left right parent =
    tree_at after.trees parent ≡ Node (tree_at before.trees left) (tree_at before.trees right)

-- with another node at a place of a row, a node is the one above that place
abbrev pub IsParentAt : ArenaModel → ArenaModel → List ℕ → ℕ → ℕ → ℕ → Type 0
IsParentAt before after row index node parent =
    pair_up (slice_set (trees_at before.trees row) index (tree_at before.trees node))
    ≡ slice_set (pair_up (trees_at before.trees row)) (index / 2) (tree_at after.trees parent)

-- a row is one level above a row of before
abbrev pub IsLevelAbove : ArenaModel → ArenaModel → List ℕ → List ℕ → Type 0
IsLevelAbove before after row above = trees_at after.trees above ≡ pair_up (trees_at before.trees row)
