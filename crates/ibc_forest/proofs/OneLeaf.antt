-- One leaf that may be another, and how many texts it takes.
use Rattle.std.proofs.Common.{◌≡◌, ℕ, ◌+◌, ◌*◌, ◌<◌, ◌≤◌, List, [], ◌∷◌, ◌++◌, length, get_or, set, take, drop, map, sym, ap, ap₂, ◌∙◌, subst, arith, inl, inr, take-append-drop, Result, Ok, Err, IfOk, Vec}
use Rattle.std.proofs.lemmas.Nat.{mul-le}
use Rattle.std.specs.declared.alloc.Global.{Global}
use Rattle.std.proofs.lemmas.Bool.{cases_eq}
use Rattle.std.specs.declared.alloc.AllocError.{AllocError}
use Rattle.std.proofs.lemmas.List.{length-map, drop_more, length-take-le, set_at, map-set}
use Rattle.std.proofs.lemmas.List.Elements.{All-set}
use Rattle.ibc_ids.specs.Texts.{Text}
use Rattle.ibc_merkle.specs.Tree.{Pairs, Tree}
use Rattle.ibc_merkle.proofs.Sorted.{AreRising}
use Rattle.ibc_forest.specs.Gaps.{DifferIn, IsOneOther, IsFoundFrom}
use Rattle.ibc_forest.specs.Leaves.{row_pairs, AreLeaves, differ_count}
use Rattle.ibc_forest.specs.Levels.{leaf_of, tree_at, trees_at}
use Rattle.ibc_forest.specs.Nodes.{Grows}
use Rattle.ibc_forest.specs.NodeLevels.{Stand, AreLevels, IsPyramid, rows_of, first_row}
use Rattle.ibc_forest.specs.Forest.{IsWorking, IsLast}
use Rattle.ibc_forest.specs.declared.gap.Gap.{Gap}
use Rattle.ibc_forest.proofs.Climbing.{length-trees_at}
use Rattle.ibc_forest.proofs.Finding.{passed, first_found}
use Rattle.ibc_forest.proofs.LeafRows.{unlike_not, unlike_most}
use Rattle.ibc_forest.proofs.Levels.{length-pair_up}
use Rattle.ibc_forest.proofs.OverGaps.{found_past}
use Rattle.ibc_forest.proofs.Pairing.{stand-grows, trees_at-grows}

pub one_other : (gaps : List Gap) (d : Gap) → length gaps ≡ 1 → (get_or gaps 0 d).gone ≡ 1 → (get_or gaps 0 d).come ≡ 1
    → (last pairs : Pairs) → DifferIn gaps last pairs → IsOneOther (get_or gaps 0 d).kept last pairs
one_other [] d one gone come last pairs differ = absurd (omega arith)
one_other (gap ∷ next ∷ gaps) d one gone come last pairs differ = absurd (omega arith)
one_other (gap ∷ []) d one gone come last pairs differ =
    let kept : ℕ = gap.kept in
    let none : Text × Text = ([], []) in
    let there : kept < length last = let l = differ.0 in omega arith in
    let here : kept < length pairs = let l = differ.1 in omega arith in
    let pair = get_or pairs kept none in
    let old = get_or last kept none in
    let rest : drop (kept + 1) pairs ≡ drop (kept + 1) last =
    sym (ap (λ n. drop (kept + n) pairs) come) ∙ differ.3 ∙ ap (λ n. drop (kept + n) last) gone
    in
    let was : last ≡ take kept last ++ old ∷ drop (kept + 1) last = sym (take-append-drop kept last) ∙ ap (λ (xs : Pairs). take kept last ++ xs) (drop_more last kept none there) in
    let is : pairs ≡ take kept last ++ pair ∷ drop (kept + 1) last =
    sym (take-append-drop kept pairs)
    ∙ ap₂ (λ (xs ys : Pairs). xs ++ ys) differ.2 (drop_more pairs kept none here ∙ ap (λ (xs : Pairs). pair ∷ xs) rest)
    in
    record {
      there = there;
      here = here;
      front = differ.2;
      same =
          is
          ∙ sym (ap (λ (xs : Pairs). set xs kept pair) was ∙ set_at (take kept last) old (drop (kept + 1) last) pair kept (length-take-le kept last (omega arith)));
    }

-- the key of the pair there is found from there on
pub found_here : (last pairs : Pairs) (index : ℕ) → AreRising last → AreRising pairs → index < length last → index < length pairs → take index pairs ≡ take index last
    → IsFoundFrom last index (drop index pairs)
found_here last pairs index last_rises rises there here front =
    let e : 0 + index ≡ index = omega arith in
    subst (λ n. IsFoundFrom last index (drop n pairs)) e
    (found_past last pairs 0 0 index 0 index (passed last pairs 0 0 index last_rises rises (omega arith) (omega arith) front) (first_found last pairs) (λ none. none) (λ some. sym e))

-- the leaf that is there, or one of a new pair
pub kept_or_new : (r : Result ℕ AllocError) (new count old : ℕ) → new ≤ count → (new ≡ 0 → r ≡ Ok old) → IfOk r (λ leaf. differ_count leaf old ≤ count)
kept_or_new (Err e) new count old few kept = tt
kept_or_new (Ok leaf) new count old few kept =
    elim (cases_eq new 0) [
      | inl none ↦ let is = kept none in let same : leaf ≡ old = cc in let zero = unlike_not leaf old same in omega arith
      | inr some ↦ let most = unlike_most leaf old in omega arith
    ]

-- the leaves with another one are those of the pairs with another one
pub other_leaves : (before after : List Tree) (old : List ℕ) (pairs : Pairs) (index leaf : ℕ) → AreLeaves before old → Grows before after → IsOneOther index (row_pairs before old) pairs
    → tree_at after leaf ≡ leaf_of (get_or pairs index ([], [])) → leaf < length after → (trees_at after (set old index leaf) ≡ map leaf_of pairs) × Stand after (set old index leaf)
other_leaves before after old pairs index leaf leaves g other its there =
    let last : Pairs = row_pairs before old in (
      map-set (tree_at after) old index leaf
          ∙ ap₂ (λ (ts : List Tree) (t : Tree). set ts index t) (trees_at-grows before after old g leaves.0 ∙ leaves.1) its
          ∙ sym (map-set leaf_of last index (get_or pairs index ([], [])))
          ∙ ap (map leaf_of) (sym other.same),
      All-set (λ n. n < length after) old index leaf there (stand-grows before after old g leaves.0),
    )

-- no more rows than leaves
pub levels_low : (trees : List Tree) (row : List ℕ) (rows : List (List ℕ)) → AreLevels trees row rows → length rows + 1 ≤ length row
levels_low trees row [] levels = let one : length row ≡ 1 = levels in omega arith
levels_low trees row (above ∷ rows) levels =
    let h = levels_low trees above rows levels.3 in
    let a = length-trees_at trees above in
    let b = length-trees_at trees row in
    let e = ap length levels.2 in
    let most = (length-pair_up (trees_at trees row)).1 in
    let least = (length-pair_up (trees_at trees row)).0 in
    let more = levels.0 in
    omega arith

pub rows_few : (trees : List Tree) (rows : List (Vec ℕ Global)) → IsPyramid trees (rows_of rows) → length rows ≤ length (first_row (rows_of rows))
rows_few trees [] pyramid = absurd (omega arith)
rows_few trees (row ∷ rows) pyramid =
    let low = levels_low trees row.items (rows_of rows) pyramid.1 in
    let counted : length (rows_of rows) ≡ length rows = length-map rows (λ (row : Vec ℕ Global). row.items) in
    omega arith

pub few_texts : (new before middle after differ above n : ℕ) → middle ≤ before + 2 * new → after ≤ middle + differ * above → differ ≤ 1 → above + 1 ≤ n → after + 1 ≤ before + 2 * new + n
few_texts new before middle after differ above n leaf rows few low =
    let most = mul-le differ above 1 above few (omega arith) in
    let one : 1 * above ≡ above = omega arith in
    omega arith

-- where there is a pair there are rows
pub last_some : (trees : List Tree) (rows : List (List ℕ)) (index : ℕ) → IsLast trees rows → index < length (row_pairs trees (first_row rows)) → IsWorking trees rows
last_some trees [] index last there = absurd (omega arith)
last_some trees (row ∷ rows) index last there = last
