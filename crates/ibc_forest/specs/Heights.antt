-- The tree over the pairs of a height, by the number of its root.
use Rattle.std.specs.Prelude.{◌≡◌, ℕ, ◌<◌, List, length}
use Rattle.ibc_merkle.specs.Tree.{Pairs, Tree, tree, leaves}
use Rattle.ibc_forest.specs.Levels.{tree_at}

-- the pairs below a node
abbrev pub pairs_of : List Tree → ℕ → Pairs
pairs_of trees node = leaves (tree_at trees node)

-- the node is that of the tree over its pairs, of which there are so many
pub record IsTreeOver (trees : List Tree) (node count : ℕ) : Type 0 where
  pub there : node < length trees
  pub some : 0 < count
  pub counted : length (pairs_of trees node) ≡ count
  pub is : tree_at trees node ≡ tree (pairs_of trees node)
