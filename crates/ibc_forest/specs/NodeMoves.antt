-- Nodes that were moved to other nodes.
use Rattle.std.specs.Prelude.{◌≡◌, ℕ, suc, ◌+◌, ◌<◌, List, length, map, slice_index_or, Option, Some, None, Vec, ⊤}
use Rattle.std.specs.List.{All}
use Rattle.std.specs.declared.alloc.Global.{Global}
use Rattle.ibc_merkle.specs.Tree.{Tree, Leaf, Node}
use Rattle.ibc_forest.specs.Levels.{tree_at, trees_at}
use Rattle.ibc_forest.specs.NodeLevels.{Stand, rows_of}

-- how many nodes a tree has
abbrev pub node_count : Tree → ℕ
node_count (Leaf key value) = 1
node_count (Node left right) = suc (node_count left + node_count right)

-- a node that was moved is there, as the same tree
abbrev pub IsMoved : List Tree → List Tree → ℕ → Option ℕ → Type 0
IsMoved old new number None = ⊤
IsMoved old new number (Some node) = (node < length new) × (tree_at new node ≡ tree_at old number)

-- where each node was moved to, if it was
abbrev pub AreMoved : List Tree → List Tree → List (Option ℕ) → Type 0
AreMoved old new moved =
    (number : ℕ) (d : Option ℕ) → number < length moved → IsMoved old new number (slice_index_or moved number d)

-- all numbers of all rows are those of nodes
abbrev pub AllStand : List Tree → List (List ℕ) → Type 0
AllStand trees rows = All (Stand trees) rows

-- the nodes of rows are the same trees as those of other rows
abbrev pub HaveSameTrees : List Tree → List Tree → List (Vec ℕ Global) → List (Vec ℕ Global) → Type 0
HaveSameTrees old new rows next = map (trees_at new) (rows_of next) ≡ map (trees_at old) (rows_of rows)
