-- The nodes of an arena, and the trees that they are.
use Rattle.std.specs.Prelude.{◌≡◌, ℕ, ◌<◌, ◌≤◌, List, [], ◌∷◌, ◌++◌, length, ⊤, slice_index_or}
use Rattle.ibc_ids.specs.Texts.{Text}
use Rattle.ibc_merkle.specs.Tree.{Tree, Leaf, Node, root}
use Rattle.ibc_forest.specs.Levels.{leaf_of, tree_at}
use Rattle.ibc_forest.specs.declared.node.ArenaNode.{ArenaNode}
use Rattle.ibc_forest.specs.declared.node.Below.{Below}
use Rattle.ibc_forest.specs.declared.node.Below.TheVariants.{Record, Children}
use Rattle.ibc_forest.specs.declared.node.KnownParent.{KnownParent}

-- the tree of a node, by the trees of the nodes before it
abbrev pub tree_of_node : List Tree → Below → Tree
tree_of_node trees (Record entry) = leaf_of entry
tree_of_node trees (Children left right) = Node (tree_at trees left) (tree_at trees right)

-- a node's children are there
abbrev pub ChildrenStand : List Tree → Below → Type 0
ChildrenStand trees (Record entry) = ⊤
ChildrenStand trees (Children left right) = (left < length trees) × (right < length trees)

-- the pair of the first leaf of a tree
abbrev pub first_pair : Tree → Text × Text
first_pair (Leaf key value) = (key, value)
first_pair (Node left right) = first_pair left

-- the number is that of the first leaf below the node, which comes behind the others
abbrev pub IsFirst : List Tree → ArenaNode → Type 0
IsFirst trees node =
    (node.first ≤ length trees) × (tree_at (trees ++ tree_of_node trees node.below ∷ []) node.first ≡ leaf_of (first_pair (tree_of_node trees node.below)))

-- the children are there, the digest is that of the tree, and the first leaf is its own
abbrev pub IsRight : List Tree → ArenaNode → Type 0
IsRight trees node = ChildrenStand trees node.below × (node.digest ≡ root (tree_of_node trees node.below)) × IsFirst trees node

abbrev pub AreRight : List Tree → List ArenaNode → Type 0
AreRight trees [] = ⊤
AreRight trees (node ∷ nodes) = IsRight trees node × AreRight (trees ++ tree_of_node trees node.below ∷ []) nodes

-- the trees of nodes, behind the trees of those before them
abbrev pub trees_after : List Tree → List ArenaNode → List Tree
trees_after trees [] = trees
trees_after trees (node ∷ nodes) = trees_after (trees ++ tree_of_node trees node.below ∷ []) nodes

abbrev pub trees_of : List ArenaNode → List Tree
trees_of nodes = trees_after [] nodes

-- What a node remembers: the right partner with which it was last paired, and the parent that came of it. A parent
-- of number 0 stands for none.
abbrev pub Remembers : List Tree → ℕ → KnownParent → Type 0
Remembers trees left known =
    0 < known.parent → (known.right < length trees) × (known.parent < length trees)
    × (tree_at trees known.parent ≡ Node (tree_at trees left) (tree_at trees known.right))

abbrev pub AllRemember : List Tree → List KnownParent → Type 0
AllRemember trees known = (left : ℕ) (d : KnownParent) → left < length known → Remembers trees left (slice_index_or known left d)

-- all trees stay, and more come behind them
abbrev pub Grows : List Tree → List Tree → Type 0
Grows before after = (more : List Tree) × (after ≡ before ++ more)

-- behind the trees of before stands that of one more node
abbrev pub AddsNode : ArenaNode → List Tree → List Tree → Type 0
AddsNode node before after = after ≡ before ++ tree_of_node before node.below ∷ []
