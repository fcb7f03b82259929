-- From the rows of one tree to those of the next.
use Rattle.std.proofs.Common.{◌≡◌, ℕ, ◌+◌, ◌-◌, ◌*◌, ◌^◌, ◌≤◌, List, [], ◌∷◌, length, map, refl, sym, ap, ap₂, ◌∙◌, arith, Vec}
use Rattle.std.proofs.lemmas.Nat.{mul-le}
use Rattle.std.proofs.lemmas.List.{length-map}
use Rattle.std.proofs.lemmas.List.Elements.{All-weaker, All-head, All-tail}
use Rattle.std.specs.declared.alloc.Global.{Global}
use Rattle.std.specs.FinMap.{is_sorted}
use Rattle.ibc_ids.specs.Texts.{Text, text_cmp}
use Rattle.ibc_merkle.specs.Tree.{Pairs, Tree, tree, leaves}
use Rattle.ibc_forest.specs.Levels.{leaf_of, tree_at, trees_at}
use Rattle.ibc_forest.specs.Leaves.{pair_of, row_pairs, AreLeaves, keys}
use Rattle.ibc_forest.specs.Heights.{pairs_of, IsTreeOver}
use Rattle.ibc_forest.specs.Nodes.{Grows}
use Rattle.ibc_forest.specs.NodeLevels.{Stand, IsPyramid, rows_of, first_row}
use Rattle.ibc_forest.specs.Forest.{IsWorking, IsLast, IsSortedHeight, AreSortedHeights, kept_pairs}
use Rattle.ibc_forest.specs.declared.forest.Height.{Height}
use Rattle.ibc_forest.proofs.Pairing.{trees_at-grows, tree_at-grows, grows_longer}
use Rattle.ibc_forest.proofs.Climbing.{length-trees_at}
use Rattle.ibc_forest.proofs.Workings.{pyramid-grows, few_levels}
use Rattle.ibc_forest.proofs.LeafRows.{pairs-grows}

-- ---- rows as trees come

last_stand : (trees : List Tree) (rows : List (List ℕ)) → IsLast trees rows → Stand trees (first_row rows)
last_stand trees [] last = λ k d l. absurd (omega arith)
last_stand trees (row ∷ rows) last = last.0.0

pub last_leaves : (trees : List Tree) (rows : List (List ℕ)) → IsLast trees rows → AreLeaves trees (first_row rows)
last_leaves trees [] last = ((λ k d l. absurd (omega arith)), refl)
last_leaves trees (row ∷ rows) last = (last.0.0, last.1)

pub last-grows : (a b : List Tree) (rows : List (List ℕ)) → Grows a b → IsLast a rows → IsLast b rows
last-grows a b [] g last = tt
last-grows a b (row ∷ rows) g last =
    (pyramid-grows a b (row ∷ rows) g last.0, trees_at-grows a b row g last.0.0 ∙ last.1 ∙ ap (map leaf_of) (sym (pairs-grows a b row g last.0.0)))

pub last_pairs-grows : (a b : List Tree) (rows : List (List ℕ)) → Grows a b → IsLast a rows → row_pairs b (first_row rows) ≡ row_pairs a (first_row rows)
last_pairs-grows a b rows g last = pairs-grows a b (first_row rows) g (last_stand a rows last)

pub working_last : (trees : List Tree) (rows : List (List ℕ)) → IsWorking trees rows → IsLast trees rows
working_last trees [] working = tt
working_last trees (row ∷ rows) working = working

-- ---- the rows over the leaves of pairs

pairs_of_leaves : (pairs : Pairs) → map pair_of (map leaf_of pairs) ≡ pairs
pairs_of_leaves [] = refl
pairs_of_leaves (pair ∷ pairs) = ap (λ rest. pair ∷ rest) (pairs_of_leaves pairs)

pub over_pairs : (middle after : List Tree) (row : List ℕ) (rows : List (List ℕ)) (pairs : Pairs) → trees_at middle row ≡ map leaf_of pairs → Stand middle row → Grows middle after
    → IsPyramid after rows → first_row rows ≡ row → IsWorking after rows × (row_pairs after (first_row rows) ≡ pairs)
over_pairs middle after row rows pairs leaves stand g pyramid is =
    let same : trees_at after (first_row rows) ≡ map leaf_of pairs = ap (trees_at after) is ∙ trees_at-grows middle after row g stand ∙ leaves in
    let held : row_pairs after (first_row rows) ≡ pairs = ap (map pair_of) same ∙ pairs_of_leaves pairs in
    ((pyramid, same ∙ ap (map leaf_of) (sym held)), held)

pub row_count : (trees : List Tree) (row : List ℕ) (pairs : Pairs) → trees_at trees row ≡ map leaf_of pairs → length row ≡ length pairs
row_count trees row pairs leaves =
    let a = length-trees_at trees row in
    let b = ap length leaves in
    let c = length-map pairs leaf_of in
    omega arith

pub same_keys_count : (pairs last : Pairs) → keys pairs ≡ keys last → length pairs ≡ length last
same_keys_count pairs last same =
    let a = length-map pairs (λ (pair : Text × Text). pair.0) in
    let b = length-map last (λ (pair : Text × Text). pair.0) in
    let c = ap length same in
    omega arith

-- ---- how many texts

pub levels_few : (trees : List Tree) (rows : List (Vec ℕ Global)) (log : ℕ) → IsLast trees (rows_of rows) → length (first_row (rows_of rows)) ≤ 2 ^ log → length rows - 1 ≤ log
levels_few trees [] log last few = omega arith
levels_few trees (row ∷ rows) log last few = let h = few_levels trees (row ∷ rows) log last.0 few in omega arith

pub all_texts : (new before middle after differ above log : ℕ) → middle ≤ before + 2 * new → after ≤ middle + differ * above → differ ≤ new → above ≤ log
    → after ≤ before + new * (2 + log)
all_texts new before middle after differ above log leaves rows few low =
    let most = mul-le differ above new log few low in
    let share : new * (2 + log) ≡ 2 * new + new * log = omega arith in
    omega arith

-- ---- heights as trees come

tree_over-grows : (a b : List Tree) (node count : ℕ) → Grows a b → IsTreeOver a node count → IsTreeOver b node count
tree_over-grows a b node count g over =
    let same : tree_at b node ≡ tree_at a node = tree_at-grows a b node g over.there in
    let pairs : pairs_of b node ≡ pairs_of a node = ap leaves same in
    let longer = grows_longer a b g in
    record { there = let l = over.there in omega arith; some = over.some; counted = ap length pairs ∙ over.counted; is = same ∙ over.is ∙ ap tree (sym pairs) }

kept_one-grows : (a b : List Tree) (height : Height) → Grows a b → IsSortedHeight a height → IsSortedHeight b height
kept_one-grows a b height g kept = record {
  over = tree_over-grows a b height.root height.count g kept.over;
  sorted = ap (λ (tree : Tree). is_sorted text_cmp (leaves tree)) (tree_at-grows a b height.root g kept.over.there) ∙ kept.sorted;
}

pub kept-grows : (a b : List Tree) (kept : List Height) → Grows a b → AreSortedHeights a kept → AreSortedHeights b kept
kept-grows a b kept g all = All-weaker (IsSortedHeight a) (IsSortedHeight b) (λ h is. kept_one-grows a b h g is) kept all

pub kept_pairs-grows : (a b : List Tree) (kept : List Height) → Grows a b → AreSortedHeights a kept → kept_pairs b kept ≡ kept_pairs a kept
kept_pairs-grows a b [] g all = refl
kept_pairs-grows a b (height ∷ kept) g all =
    let is : IsSortedHeight a height = All-head (IsSortedHeight a) height kept all in
    ap₂ (λ (pairs : Pairs) (rest : List (Pairs × ℕ)). (pairs, height.time) ∷ rest)
    (ap leaves (tree_at-grows a b height.root g is.over.there))
    (kept_pairs-grows a b kept g (All-tail (IsSortedHeight a) height kept all))
