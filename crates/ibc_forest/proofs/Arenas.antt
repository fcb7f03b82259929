-- The trees of nodes as nodes come.
use Rattle.std.proofs.Common.{◌≡◌, ℕ, zero, suc, ◌+◌, ◌<◌, ◌≤◌, List, [], ◌∷◌, ◌++◌, length, get_or, set, refl, sym, ap, ap₂, ◌∙◌, subst, arith, length-append, inl, inr, get_or-set_same, get_or-set_other}
use Rattle.std.proofs.lemmas.List.{get_or_append_left, get_or_push, length_push, length-set}
use Rattle.std.proofs.lemmas.Bool.{cases_eq, cases_lt}
use Rattle.ibc_ids.specs.Texts.{Text}
use Rattle.ibc_merkle.specs.Tree.{Tree, Leaf, Node, root}
use Rattle.ibc_forest.specs.Levels.{leaf_of, tree_at}
use Rattle.ibc_forest.specs.declared.node.ArenaNode.{ArenaNode}
use Rattle.ibc_forest.specs.declared.node.Below.{Below}
use Rattle.ibc_forest.specs.declared.node.Below.TheVariants.{Record, Children}
use Rattle.ibc_forest.specs.declared.node.KnownParent.{KnownParent}
use Rattle.ibc_forest.specs.Nodes.{tree_of_node, ChildrenStand, first_pair, IsRight, AreRight, trees_after, trees_of, Remembers, AllRemember}

pub length-trees_after : (trees : List Tree) (nodes : List ArenaNode) → length (trees_after trees nodes) ≡ length trees + length nodes
length-trees_after trees [] = omega arith
length-trees_after trees (node ∷ nodes) =
    let h = length-trees_after (trees ++ tree_of_node trees node.below ∷ []) nodes in
    let more = length_push trees (tree_of_node trees node.below) in
    omega arith

pub length-trees_of : (nodes : List ArenaNode) → length (trees_of nodes) ≡ length nodes
length-trees_of nodes = let h = length-trees_after [] nodes in omega arith

pub trees_after-push : (trees : List Tree) (nodes : List ArenaNode) (node : ArenaNode)
    → trees_after trees (nodes ++ node ∷ []) ≡ trees_after trees nodes ++ tree_of_node (trees_after trees nodes) node.below ∷ []
trees_after-push trees [] node = refl
trees_after-push trees (first ∷ nodes) node = trees_after-push (trees ++ tree_of_node trees first.below ∷ []) nodes node

pub right-push : (trees : List Tree) (nodes : List ArenaNode) (node : ArenaNode) → AreRight trees nodes → IsRight (trees_after trees nodes) node
    → AreRight trees (nodes ++ node ∷ [])
right-push trees [] node right last = (last, tt)
right-push trees (first ∷ nodes) node right last = (right.0, right-push (trees ++ tree_of_node trees first.below ∷ []) nodes node right.1 last)

-- ---- what stands below stays

pub tree_at-append : (trees more : List Tree) (i : ℕ) → i < length trees → tree_at (trees ++ more) i ≡ tree_at trees i
tree_at-append trees more i l = get_or_append_left trees more (Leaf [] []) i l

stays : (trees : List Tree) (nodes : List ArenaNode) (i : ℕ) → i < length trees → tree_at (trees_after trees nodes) i ≡ tree_at trees i
stays trees [] i l = refl
stays trees (node ∷ nodes) i l =
    let tree = tree_of_node trees node.below in
    let more = length_push trees tree in
    stays (trees ++ tree ∷ []) nodes i (omega arith) ∙ tree_at-append trees (tree ∷ []) i l

built-stays : (trees after : List Tree) (below : Below) → length trees ≤ length after → ((i : ℕ) → i < length trees → tree_at after i ≡ tree_at trees i)
    → ChildrenStand trees below → (tree_of_node after below ≡ tree_of_node trees below) × ChildrenStand after below
built-stays trees after (Record entry) longer same stand = (refl, tt)
built-stays trees after (Children left right) longer same stand = (ap₂ Node (same left stand.0) (same right stand.1), (omega (arith, stand.0), omega (arith, stand.1)))

-- what is read of a node
pub record Reads (trees : List Tree) (i : ℕ) (node : ArenaNode) : Type 0 where
  pub tree : tree_at trees i ≡ tree_of_node trees node.below
  pub stand : ChildrenStand trees node.below
  pub digest : node.digest ≡ root (tree_at trees i)
  pub first_there : node.first < length trees
  pub first_leaf : tree_at trees node.first ≡ leaf_of (first_pair (tree_at trees i))

reads_after : (trees : List Tree) (nodes : List ArenaNode) (i : ℕ) (node : ArenaNode) → AreRight trees nodes → i < length nodes → node ≡ get_or nodes i node
    → Reads (trees_after trees nodes) (length trees + i) node
reads_after trees [] i node right l is = absurd (omega arith)
reads_after trees (first ∷ nodes) zero node right l is =
    let tree = tree_of_node trees first.below in
    let behind : List Tree = trees ++ tree ∷ [] in
    let after : List Tree = trees_after behind nodes in
    let more = length_push trees tree in
    let counted = length-trees_after behind nodes in
    let kept = built-stays trees after first.below (omega arith) (λ i l. stays behind nodes i (omega arith) ∙ tree_at-append trees (tree ∷ []) i l) right.0.0 in
    let at : tree_at after (length trees) ≡ tree = stays behind nodes (length trees) (omega arith) ∙ get_or_push trees tree (Leaf [] []) (length trees) refl in
    let place : length trees + 0 ≡ length trees = omega arith in
    let leaf : tree_at after first.first ≡ leaf_of (first_pair tree) = stays behind nodes first.first (let l = right.0.2.0 in omega arith) ∙ right.0.2.1 in
    let its : Reads after (length trees) first = record {
      tree = at ∙ sym kept.0;
      stand = kept.1;
      digest = right.0.1 ∙ ap root (sym at);
      first_there = let l = right.0.2.0 in omega arith;
      first_leaf = leaf ∙ ap (λ t. leaf_of (first_pair t)) (sym at);
    }
    in
    subst (λ n. Reads after n node) (sym place) (subst (Reads after (length trees)) (sym is) its)
reads_after trees (first ∷ nodes) (suc i) node right l is =
    let tree = tree_of_node trees first.below in
    let behind : List Tree = trees ++ tree ∷ [] in
    let more = length_push trees tree in
    let place : length behind + i ≡ length trees + suc i = omega arith in
    subst (λ n. Reads (trees_after behind nodes) n node) place (reads_after behind nodes i node right.1 (omega arith) is)

pub reads : (nodes : List ArenaNode) (i : ℕ) (node : ArenaNode) → AreRight [] nodes → i < length (trees_of nodes) → node ≡ get_or nodes i node → Reads (trees_of nodes) i node
reads nodes i node right l is =
    let counted = length-trees_of nodes in
    let none : List Tree = [] in
    let place : length none + i ≡ i = omega arith in
    subst (λ n. Reads (trees_of nodes) n node) place (reads_after [] nodes i node right (omega arith) is)

-- ---- what is remembered

pub remembers-append : (trees more : List Tree) (left : ℕ) (known : KnownParent) → left < length trees → Remembers trees left known → Remembers (trees ++ more) left known
remembers-append trees more left known l remembers some =
    let w = remembers some in
    let counted = length-append trees more in (
      omega (arith, w.0),
      omega (arith, w.1),
      tree_at-append trees more known.parent w.1 ∙ w.2 ∙ sym (ap₂ Node (tree_at-append trees more left l) (tree_at-append trees more known.right w.0)),
    )

pub remember-push : (trees : List Tree) (tree : Tree) (known : List KnownParent) (last : KnownParent) → length known ≡ length trees → last.parent ≡ 0 → AllRemember trees known
    → AllRemember (trees ++ tree ∷ []) (known ++ last ∷ [])
remember-push trees tree known last same none all left d l =
    elim (cases_lt left (length known)) [
      | inl within ↦
          subst (Remembers (trees ++ tree ∷ []) left) (sym (get_or_append_left known (last ∷ []) d left within))
          (remembers-append trees (tree ∷ []) left _ (omega arith) (all left d within))
      | inr over ↦
          let counted = length_push known last in
          subst (Remembers (trees ++ tree ∷ []) left) (sym (get_or_push known last d left (omega arith))) (λ some. absurd (omega arith))
    ]

pub remember-set : (trees : List Tree) (known : List KnownParent) (left : ℕ) (new : KnownParent) → left < length known → Remembers trees left new → AllRemember trees known
    → AllRemember trees (set known left new)
remember-set trees known left new there remembers all k d l =
    let counted = length-set known left new in
    elim (cases_eq k left) [
      | inl same ↦
          subst (λ k. Remembers trees k (get_or (set known left new) k d)) (sym same)
          (subst (Remembers trees left) (sym (get_or-set_same known left new d there)) remembers)
      | inr other ↦ subst (Remembers trees k) (sym (get_or-set_other known left k new d other)) (all k d (omega arith))
    ]

-- ---- as steps of the code

pub trees_of-push : (nodes : List ArenaNode) (node : ArenaNode) → trees_of (nodes ++ node ∷ []) ≡ trees_of nodes ++ tree_of_node (trees_of nodes) node.below ∷ []
trees_of-push nodes node = trees_after-push [] nodes node

pub right_after : (nodes : List ArenaNode) (node : ArenaNode) (after : List ArenaNode) → after ≡ nodes ++ node ∷ [] → AreRight [] nodes → IsRight (trees_of nodes) node → AreRight [] after
right_after nodes node after is right last = subst (AreRight []) (sym is) (right-push [] nodes node right last)

pub remembered : (trees : List Tree) (known : List KnownParent) (left : ℕ) (k : KnownParent) → AllRemember trees known → left < length known → k ≡ get_or known left k → 0 < k.parent
    → (k.right < length trees) × (k.parent < length trees) × (tree_at trees k.parent ≡ Node (tree_at trees left) (tree_at trees k.right))
remembered trees known left k all l is some = subst (Remembers trees left) (sym is) (all left k l) some

pub new_pair : (before after : List Tree) (left right parent : ℕ) → after ≡ before ++ Node (tree_at before left) (tree_at before right) ∷ [] → parent ≡ length before
    → left < length before → right < length before
    → (right < length after) × (parent < length after) × (tree_at after parent ≡ Node (tree_at after left) (tree_at after right))
new_pair before after left right parent made number l r =
    let pair = Node (tree_at before left) (tree_at before right) in
    let counted = ap length made ∙ length_push before pair in
    let stays : (i : ℕ) → i < length before → tree_at after i ≡ tree_at before i = λ i l. ap (λ trees. tree_at trees i) made ∙ tree_at-append before (pair ∷ []) i l in (
      omega arith,
      omega arith,
      ap (λ trees. tree_at trees parent) made ∙ get_or_push before pair (Leaf [] []) parent (sym number) ∙ sym (ap₂ Node (stays left l) (stays right r)),
    )

-- ---- the first leaf

pub first_own : (trees : List Tree) (key value : Text) (number : ℕ) → number ≡ length trees
    → (number ≤ length trees) × (tree_at (trees ++ Leaf key value ∷ []) number ≡ Leaf key value)
first_own trees key value number is = (omega arith, get_or_push trees (Leaf key value) (Leaf [] []) number (sym is))

pub first_left : (trees : List Tree) (left right first : ℕ) → first < length trees → tree_at trees first ≡ leaf_of (first_pair (tree_at trees left))
    → (first ≤ length trees) × (tree_at (trees ++ Node (tree_at trees left) (tree_at trees right) ∷ []) first ≡ leaf_of (first_pair (tree_at trees left)))
first_left trees left right first l is = (omega arith, tree_at-append trees (Node (tree_at trees left) (tree_at trees right) ∷ []) first l ∙ is)
