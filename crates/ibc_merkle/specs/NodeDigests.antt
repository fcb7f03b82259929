-- The digests of a tree's nodes, in the order in which they are kept.
use Rattle.std.specs.Prelude.{List, [], ◌∷◌, ◌++◌}
use Rattle.ibc_ids.specs.Texts.{Text}
use Rattle.ibc_merkle.specs.Tree.{Pairs, Tree, Leaf, Node, tree, root}

-- those of the left half, those of the right half, and the node's own
abbrev pub node_digests : Tree → List Text
node_digests (Leaf key value) = root (Leaf key value) ∷ []
node_digests (Node left right) = node_digests left ++ node_digests right ++ root (Node left right) ∷ []

-- those of the tree over pairs; of no pairs there are none
abbrev pub digests_of : Pairs → List Text
digests_of [] = []
digests_of (pair ∷ pairs) = node_digests (tree (pair ∷ pairs))
