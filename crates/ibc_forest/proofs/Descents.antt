-- From a node down to its children, by the pairs.
use Rattle.std.proofs.Common.{◌≡◌, ℕ, ◌+◌, ◌-◌, ◌<◌, ◌≤◌, List, [], ◌∷◌, length, get_or, take, drop, refl, sym, ap, ◌∙◌, subst, arith, length-take, length-drop, length-append}
use Rattle.std.proofs.lemmas.List.{get_or-take, get_or-drop, get_or_append_left}
use Rattle.ibc_ids.specs.Texts.{Text}
use Rattle.ibc_merkle.specs.Tree.{Pairs, Tree, Leaf, Node, tree, tree_root, root, largest_power_below, leaves}
use Rattle.ibc_merkle.specs.PairPlaces.{key_at}
use Rattle.ibc_merkle.proofs.Trees.{leaves-tree, tree-halves, split_within}
use Rattle.ibc_forest.specs.Levels.{leaf_of, tree_at}
use Rattle.ibc_forest.specs.declared.node.Below.{Below}
use Rattle.ibc_forest.specs.declared.node.Below.TheVariants.{Record, Children}
use Rattle.ibc_forest.specs.Nodes.{tree_of_node, ChildrenStand, first_pair}
use Rattle.ibc_forest.specs.Heights.{pairs_of, IsTreeOver}

-- a leaf has one pair
pub leaf_pairs : (trees : List Tree) (node : ℕ) (pair : Text × Text) → tree_at trees node ≡ leaf_of pair → pairs_of trees node ≡ pair ∷ []
leaf_pairs trees node pair is = ap leaves is

-- a node over children has more than one
leaves_some : (t : Tree) → 0 < length (leaves t)
leaves_some (Leaf key value) = omega arith
leaves_some (Node left right) = let l = leaves_some left in let c = length-append (leaves left) (leaves right) in omega arith

-- the first pair below a node is that of its first leaf
first_of : (t : Tree) (d : Text × Text) → get_or (leaves t) 0 d ≡ first_pair t
first_of (Leaf key value) d = refl
first_of (Node left right) d = get_or_append_left (leaves left) (leaves right) d 0 (leaves_some left) ∙ first_of left d

pub first_key : (trees : List Tree) (node : ℕ) → key_at (pairs_of trees node) 0 ≡ (first_pair (tree_at trees node)).0
first_key trees node = ap (λ (p : Text × Text). p.0) (first_of (tree_at trees node) ([], []))

pub more_than_one : (trees : List Tree) (node count left right : ℕ) → IsTreeOver trees node count → tree_at trees node ≡ Node (tree_at trees left) (tree_at trees right) → 1 < count
more_than_one trees node count left right over is =
    let l = leaves_some (tree_at trees left) in
    let r = leaves_some (tree_at trees right) in
    let c = ap (λ t. length (leaves t)) is ∙ length-append (leaves (tree_at trees left)) (leaves (tree_at trees right)) in
    let n = over.counted in
    omega arith

-- the trees of the children, and their pairs
pub record Halves (trees : List Tree) (node left right split count : ℕ) : Type 0 where
  pub on_left : IsTreeOver trees left split
  pub on_right : IsTreeOver trees right (count - split)
  pub more : 1 < count
  pub left_pairs : pairs_of trees left ≡ take split (pairs_of trees node)
  pub right_pairs : pairs_of trees right ≡ drop split (pairs_of trees node)
  pub left_root : root (tree_at trees left) ≡ tree_root (take split (pairs_of trees node))
  pub right_root : root (tree_at trees right) ≡ tree_root (drop split (pairs_of trees node))

half : (trees : List Tree) (node count : ℕ) (pairs : Pairs) → node < length trees → tree_at trees node ≡ tree pairs → length pairs ≡ count → 0 < count
    → IsTreeOver trees node count × (pairs_of trees node ≡ pairs)
half trees node count pairs there is counted some =
    let same : pairs_of trees node ≡ pairs = ap leaves is ∙ leaves-tree pairs (omega arith) in
    (record { there = there; some = some; counted = ap length same ∙ counted; is = is ∙ ap tree (sym same) }, same)

pub halved : (trees : List Tree) (node count left right split : ℕ) → IsTreeOver trees node count → tree_at trees node ≡ Node (tree_at trees left) (tree_at trees right)
    → left < length trees → right < length trees → split ≡ largest_power_below count → Halves trees node left right split count
halved trees node count left right split over is l r power =
    let pairs : Pairs = pairs_of trees node in
    let more = more_than_one trees node count left right over is in
    let counted : length pairs ≡ count = over.counted in
    let within = split_within count (omega arith) in
    let lpb : split ≡ largest_power_below (length pairs) = power ∙ ap largest_power_below (sym counted) in
    let both : Node (tree_at trees left) (tree_at trees right) ≡ Node (tree (take split pairs)) (tree (drop split pairs)) =
    sym is ∙ over.is ∙ tree-halves pairs (omega arith) ∙ ap (λ split. Node (tree (take split pairs)) (tree (drop split pairs))) (sym lpb)
    in
    let left_is : tree_at trees left ≡ tree (take split pairs) = cc in
    let right_is : tree_at trees right ≡ tree (drop split pairs) = cc in
    let a = half trees left split (take split pairs) l left_is (simp length-take (omega arith)) (omega arith) in
    let b = half trees right (count - split) (drop split pairs) r right_is (simp length-drop (omega arith)) (omega arith) in
    record { on_left = a.0; on_right = b.0; more = more; left_pairs = a.1; right_pairs = b.1; left_root = ap root left_is; right_root = ap root right_is }

pub halved_below : (trees : List Tree) (node count : ℕ) (below : Below) (left right split : ℕ) → IsTreeOver trees node count → tree_at trees node ≡ tree_of_node trees below
    → ChildrenStand trees below → below ≡ Children left right → split ≡ largest_power_below count → Halves trees node left right split count
halved_below trees node count below left right split over is stand children power =
    let both = subst (ChildrenStand trees) children stand in
    halved trees node count left right split over (is ∙ ap (tree_of_node trees) children) both.0 both.1 power

pub one_below : (trees : List Tree) (node count : ℕ) (below : Below) (entry : Text × Text) → IsTreeOver trees node count → tree_at trees node ≡ tree_of_node trees below
    → below ≡ Record entry → (pairs_of trees node ≡ entry ∷ []) × (count ≡ 1)
one_below trees node count below entry over is children =
    let one = leaf_pairs trees node entry (is ∙ ap (tree_of_node trees) children) in
    (one, sym over.counted ∙ ap length one)

-- a pair of a half is a pair of the whole
pub left_pair : (pairs half : Pairs) (split index : ℕ) (pair : Text × Text) → half ≡ take split pairs → index < split → pair ≡ get_or half index pair → pair ≡ get_or pairs index pair
left_pair pairs half split index pair is l there = there ∙ ap (λ xs. get_or xs index pair) is ∙ get_or-take split pairs index pair l

pub right_pair : (pairs half : Pairs) (split index : ℕ) (pair : Text × Text) → half ≡ drop split pairs → split ≤ index → pair ≡ get_or half (index - split) pair → pair ≡ get_or pairs index pair
right_pair pairs half split index pair is l there =
    there ∙ ap (λ xs. get_or xs (index - split) pair) is ∙ get_or-drop split pairs (index - split) pair ∙ ap (λ i. get_or pairs i pair) (let e : split + (index - split) ≡ index = omega arith in e)
