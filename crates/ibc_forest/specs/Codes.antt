-- Trees as plain lists, by which they are told apart.
use Rattle.std.specs.Prelude.{◌≡◌, ℕ, List, [], ◌∷◌, Option, Some, None, refl}
use Rattle.std.specs.Coded.{Coded, code_by, coded×, coded_ℕ, coded_list, coded_option}
use Rattle.std.proofs.Common.{ap, ◌∙◌}
use Rattle.ibc_ids.specs.Texts.{Text}
use Rattle.ibc_merkle.specs.Tree.{Tree, Leaf, Node}

-- a leaf's pair, or none for a node over the two trees before it
abbrev pub marks : Tree → List (Option (Text × Text)) → List (Option (Text × Text))
marks (Leaf key value) rest = Some (key, value) ∷ rest
marks (Node left right) rest = marks left (marks right (None ∷ rest))

abbrev pub read : List Tree → List (Option (Text × Text)) → List Tree
read trees [] = trees
read trees (Some pair ∷ rest) = read (Leaf pair.0 pair.1 ∷ trees) rest
read [] (None ∷ rest) = []
read (tree ∷ []) (None ∷ rest) = []
read (right ∷ left ∷ trees) (None ∷ rest) = read (Node left right ∷ trees) rest

pub read-marks : (tree : Tree) (trees : List Tree) (rest : List (Option (Text × Text))) → read trees (marks tree rest) ≡ read (tree ∷ trees) rest
read-marks (Leaf key value) trees rest = refl
read-marks (Node left right) trees rest = read-marks left trees (marks right (None ∷ rest)) ∙ read-marks right (left ∷ trees) (None ∷ rest)

abbrev pub first_tree : List Tree → Tree
first_tree [] = Leaf [] []
first_tree (tree ∷ trees) = tree

abbrev pub tree_code : Coded Tree
tree_code =
    code_by (List (Option (Text × Text))) (coded_list (coded_option (coded× (coded_list coded_ℕ) (coded_list coded_ℕ)))) (λ tree. marks tree [])
    (λ rest. first_tree (read [] rest)) (λ tree. ap first_tree (read-marks tree [] []))

abbrev pub trees_code : Coded (List Tree)
trees_code = coded_list tree_code

-- An arena: the trees that its nodes are, each by the node's number, and how many texts were hashed for them.
pub record ArenaModel : Type 0 where
  pub trees : List Tree
  pub steps : ℕ

abbrev pub arena_code : Coded ArenaModel
arena_code =
    code_by (List Tree × ℕ) (coded× (coded_list tree_code) coded_ℕ) (λ arena. (arena.trees, arena.steps)) (λ p. record { trees = p.0; steps = p.1 }) (λ _. refl)
