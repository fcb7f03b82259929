-- Where the digests of both halves stand among the kept ones.
use Rattle.std.proofs.Common.{◌≡◌, ℕ, ◌+◌, ◌-◌, ◌*◌, ◌<◌, List, [], ◌∷◌, ◌++◌, length, take, drop, get_or, refl, sym, ap, ap₂, ◌∙◌, arith, length-take, length-drop, length-append, append_assoc}
use Rattle.std.proofs.lemmas.List.{take_at, drop_at, get_or_at}
use Rattle.ibc_ids.specs.Texts.{Text}
use Rattle.ibc_merkle.specs.Tree.{Pairs, Tree, Leaf, Node, tree, root, tree_root, largest_power_below, leaves}
use Rattle.ibc_merkle.specs.NodeDigests.{node_digests, digests_of}
use Rattle.ibc_merkle.proofs.Trees.{leaves-tree, tree-halves}

-- ---- of a tree

-- the root's digest is the last
abbrev node_digests_before : Tree → List Text
node_digests_before (Leaf key value) = []
node_digests_before (Node left right) = node_digests left ++ node_digests right

root_is_last : (t : Tree) → node_digests t ≡ node_digests_before t ++ root t ∷ []
root_is_last (Leaf key value) = refl
root_is_last (Node left right) = refl

length-node_digests : (t : Tree) → length (node_digests t) + 1 ≡ 2 * length (leaves t)
length-node_digests (Leaf key value) = refl
length-node_digests (Node left right) =
    let l = length-node_digests left in
    let r = length-node_digests right in
    let own = root (Node left right) ∷ [] in
    let nodes : length (node_digests left ++ node_digests right ++ own) ≡ length (node_digests left ++ node_digests right) + 1 = length-append (node_digests left ++ node_digests right) own in
    let children : length (node_digests left ++ node_digests right) ≡ length (node_digests left) + length (node_digests right) = length-append (node_digests left) (node_digests right) in
    let both : length (leaves left ++ leaves right) ≡ length (leaves left) + length (leaves right) = length-append (leaves left) (leaves right) in
    omega arith

-- ---- of pairs

digests-some : (pairs : Pairs) → 0 < length pairs → digests_of pairs ≡ node_digests (tree pairs)
digests-some [] some = absurd (omega arith)
digests-some (pair ∷ pairs) some = refl

pub length-digests : (pairs : Pairs) → 0 < length pairs → length (digests_of pairs) + 1 ≡ 2 * length pairs
length-digests pairs some =
    ap (λ digests. length digests + 1) (digests-some pairs some) ∙ length-node_digests (tree pairs) ∙ ap (λ pairs. 2 * length pairs) (leaves-tree pairs some)

pub digests-leaf : (pairs : Pairs) → length pairs ≡ 1 → digests_of pairs ≡ tree_root pairs ∷ []
digests-leaf [] one = absurd (omega arith)
digests-leaf (pair ∷ []) one = refl
digests-leaf (pair ∷ next ∷ pairs) one = absurd (omega arith)

pub last_digest : (pairs : Pairs) (index : ℕ) (d : Text) → 0 < length pairs → index + 1 ≡ length (digests_of pairs) → get_or (digests_of pairs) index d ≡ tree_root pairs
last_digest pairs index d some last =
    let t = tree pairs in
    let digests : digests_of pairs ≡ node_digests_before t ++ root t ∷ [] = digests-some pairs some ∙ root_is_last t in
    let counted : length (digests_of pairs) ≡ length (node_digests_before t) + 1 = ap length digests ∙ length-append (node_digests_before t) (root t ∷ []) in
    ap (λ digests. get_or digests index d) digests ∙ get_or_at (node_digests_before t) (root t) [] d index (omega arith)

some_left : (pairs : Pairs) (split : ℕ) → 0 < split → split < length pairs → 0 < length (take split pairs)
some_left pairs split some below = simp length-take (omega arith)

some_right : (pairs : Pairs) (split : ℕ) → split < length pairs → 0 < length (drop split pairs)
some_right pairs split below = simp length-drop (omega arith)

pub digests-halves : (pairs : Pairs) (split : ℕ) → 0 < split → split < length pairs → split ≡ largest_power_below (length pairs)
    → digests_of pairs ≡ digests_of (take split pairs) ++ digests_of (drop split pairs) ++ tree_root pairs ∷ []
digests-halves pairs split some below is =
    let halves : tree pairs ≡ Node (tree (take split pairs)) (tree (drop split pairs)) =
    tree-halves pairs (omega arith) ∙ ap (λ split. Node (tree (take split pairs)) (tree (drop split pairs))) (sym is)
    in
    digests-some pairs (omega arith)
    ∙ ap node_digests halves
    ∙ ap₂ (λ left right. left ++ right ++ root (Node (tree (take split pairs)) (tree (drop split pairs))) ∷ [])
    (sym (digests-some (take split pairs) (some_left pairs split some below)))
    (sym (digests-some (drop split pairs) (some_right pairs split below)))
    ∙ ap (λ root. digests_of (take split pairs) ++ digests_of (drop split pairs) ++ root ∷ []) (sym (ap root halves))

pub length-left : (pairs : Pairs) (split : ℕ) → 0 < split → split < length pairs → length (digests_of (take split pairs)) + 1 ≡ 2 * split
length-left pairs split some below =
    length-digests (take split pairs) (some_left pairs split some below)
    ∙ ap (λ n. 2 * n) (let l : length (take split pairs) ≡ split = simp length-take (omega arith) in l)

pub length-right : (pairs : Pairs) (split : ℕ) → split < length pairs → length (digests_of (drop split pairs)) + 1 ≡ 2 * (length pairs - split)
length-right pairs split below =
    length-digests (drop split pairs) (some_right pairs split below)
    ∙ ap (λ n. 2 * n) (let l : length (drop split pairs) ≡ length pairs - split = simp length-drop (omega arith) in l)

parted : (pairs : Pairs) (split : ℕ) → 0 < split → split < length pairs → split ≡ largest_power_below (length pairs)
    → digests_of pairs ≡ digests_of (take split pairs) ++ (digests_of (drop split pairs) ++ tree_root pairs ∷ [])
parted pairs split some below is =
    digests-halves pairs split some below is ∙ append_assoc (digests_of (take split pairs)) (digests_of (drop split pairs)) (tree_root pairs ∷ [])

-- ---- as steps of the code: kept digests that are cut behind those of the left half

pub length-rest : (pairs : Pairs) (split : ℕ) (digests rest : List Text) → 0 < split → split < length pairs → digests ≡ digests_of pairs
    → rest ≡ drop (2 * split - 1) digests → length rest ≡ 2 * (length pairs - split)
length-rest pairs split digests rest some below kept is =
    let counted = ap (λ digests. length digests + 1) kept ∙ length-digests pairs (omega arith) in
    ap length is ∙ simp length-drop (omega arith)

pub left_digests : (pairs : Pairs) (split : ℕ) (digests left : List Text) → 0 < split → split < length pairs → split ≡ largest_power_below (length pairs)
    → digests ≡ digests_of pairs → left ≡ take (2 * split - 1) digests → left ≡ digests_of (take split pairs)
left_digests pairs split digests left some below power kept is =
    let counted = length-left pairs split some below in
    is
    ∙ ap (take (2 * split - 1)) (kept ∙ parted pairs split some below power)
    ∙ take_at (digests_of (take split pairs)) (digests_of (drop split pairs) ++ tree_root pairs ∷ []) (2 * split - 1) (omega arith)

pub right_digests : (pairs : Pairs) (split : ℕ) (digests rest : List Text) → 0 < split → split < length pairs → split ≡ largest_power_below (length pairs)
    → digests ≡ digests_of pairs → rest ≡ drop (2 * split - 1) digests → take (length rest - 1) rest ≡ digests_of (drop split pairs)
right_digests pairs split digests rest some below power kept is =
    let counted = length-left pairs split some below in
    let right = digests_of (drop split pairs) in
    let rest_is : rest ≡ right ++ tree_root pairs ∷ [] =
    is
    ∙ ap (drop (2 * split - 1)) (kept ∙ parted pairs split some below power)
    ∙ drop_at (digests_of (take split pairs)) (right ++ tree_root pairs ∷ []) (2 * split - 1) (omega arith)
    in
    let counted_rest : length rest ≡ length right + 1 = ap length rest_is ∙ length-append right (tree_root pairs ∷ []) in
    ap (take (length rest - 1)) rest_is ∙ take_at right (tree_root pairs ∷ []) (length rest - 1) (omega arith)

pub added_halves : (pairs : Pairs) (split : ℕ) (before : List Text) → 0 < split → split < length pairs → split ≡ largest_power_below (length pairs)
    → before ++ digests_of (take split pairs) ++ digests_of (drop split pairs) ++ tree_root pairs ∷ [] ≡ before ++ digests_of pairs
added_halves pairs split before some below is =
    let left = digests_of (take split pairs) in
    let right = digests_of (drop split pairs) in
    ap (λ digests. digests ++ tree_root pairs ∷ []) (append_assoc before left right)
    ∙ append_assoc before (left ++ right) (tree_root pairs ∷ [])
    ∙ ap (λ digests. before ++ digests) (sym (digests-halves pairs split some below is))

-- the last of what is before the root's digest
pub last_of_right : (pairs : Pairs) (split : ℕ) (right : List Text) → split < length pairs → right ≡ digests_of (drop split pairs)
    → get_or right (length right - 1) [] ≡ tree_root (drop split pairs)
last_of_right pairs split right below is =
    let counted = length-right pairs split below in
    ap (λ digests. get_or digests (length digests - 1) []) is
    ∙ last_digest (drop split pairs) (length (digests_of (drop split pairs)) - 1) [] (some_right pairs split below) (omega arith)

pub last_of_left : (pairs : Pairs) (split : ℕ) (left : List Text) → 0 < split → split < length pairs → left ≡ digests_of (take split pairs)
    → get_or left (length left - 1) [] ≡ tree_root (take split pairs)
last_of_left pairs split left some below is =
    let counted = length-left pairs split some below in
    ap (λ digests. get_or digests (length digests - 1) []) is
    ∙ last_digest (take split pairs) (length (digests_of (take split pairs)) - 1) [] (some_left pairs split some below) (omega arith)
