-- A row of the leaves of first pairs, to which more come.
use Rattle.std.proofs.Common.{◌≡◌, ℕ, zero, suc, ◌+◌, ◌<◌, ◌≤◌, List, [], ◌∷◌, ◌++◌, length, get_or, take, drop, map, refl, sym, ap, ap₂, ◌∙◌, subst, arith, length-append, length-drop}
use Rattle.std.proofs.Math.Seq.{take-add}
use Rattle.std.proofs.lemmas.List.{length_push, length-take-le, take-map, drop-map, take_more, map_push, map-append}
use Rattle.std.proofs.lemmas.List.Elements.{All-append, All-drop, All-push, All-take}
use Rattle.ibc_ids.specs.Texts.{Text}
use Rattle.ibc_merkle.specs.Tree.{Pairs, Tree}
use Rattle.ibc_forest.specs.Levels.{leaf_of, tree_at, trees_at}
use Rattle.ibc_forest.specs.Nodes.{Grows}
use Rattle.ibc_forest.specs.Leaves.{row_pairs, AreLeaves, differing_count}
use Rattle.ibc_forest.specs.Gaps.{HasFirst}
use Rattle.ibc_forest.proofs.LeafRows.{unlike_not}
use Rattle.ibc_forest.proofs.Pairing.{trees_at-grows, stand-grows}

pub first_none : (trees : List Tree) (pairs : Pairs) (row : List ℕ) → row ≡ [] → HasFirst trees pairs row
first_none trees pairs row is = subst (HasFirst trees pairs) (sym is) (record { leaves = refl; stand = λ k d l. absurd (omega arith); within = omega arith })

pub first-grows : (before after : List Tree) (pairs : Pairs) (row : List ℕ) → Grows before after → HasFirst before pairs row → HasFirst after pairs row
first-grows before after pairs row g first = record {
  leaves = trees_at-grows before after row g first.stand ∙ first.leaves;
  stand = stand-grows before after row g first.stand;
  within = first.within;
}

-- ---- one leaf more

pub first_more : (before after : List Tree) (pairs : Pairs) (row : List ℕ) (leaf : ℕ) (pair : Text × Text) → HasFirst before pairs row → Grows before after
    → length row < length pairs → pair ≡ get_or pairs (length row) pair → tree_at after leaf ≡ leaf_of pair → leaf < length after
    → HasFirst after pairs (row ++ leaf ∷ [])
first_more before after pairs row leaf pair first g l is its there =
    let so_far = first-grows before after pairs row g first in
    let counted = length_push row leaf in
    let all : take (length (row ++ leaf ∷ [])) pairs ≡ take (length row) pairs ++ pair ∷ [] =
    ap (λ n. take n pairs) counted ∙ take_more pairs (length row) pair l ∙ ap (λ (p : Text × Text). take (length row) pairs ++ p ∷ []) (sym is)
    in
    record {
      leaves =
          map_push (tree_at after) row leaf
          ∙ ap₂ (λ xs t. xs ++ t ∷ []) so_far.leaves its
          ∙ sym (ap (map leaf_of) all ∙ map_push leaf_of (take (length row) pairs) pair);
      stand = All-push (λ n. n < length after) row leaf so_far.stand there;
      within = omega arith;
    }

-- ---- leaves that stay

pub first_kept : (trees : List Tree) (old row : List ℕ) (pairs : Pairs) (from kept : ℕ) → AreLeaves trees old → HasFirst trees pairs row → from + kept ≤ length old
    → length row + kept ≤ length pairs → take kept (drop (length row) pairs) ≡ take kept (drop from (row_pairs trees old))
    → HasFirst trees pairs (row ++ take kept (drop from old)) × (length (row ++ take kept (drop from old)) ≡ length row + kept)
first_kept trees old row pairs from kept leaves first there within same =
    let last : Pairs = row_pairs trees old in
    let slice : List ℕ = take kept (drop from old) in
    let rest = length-drop from old in
    let its : length slice ≡ kept = length-take-le kept (drop from old) (omega arith) in
    let both = length-append row slice in
    let counted : length (row ++ slice) ≡ length row + kept = omega arith in
    let slice_leaves : trees_at trees slice ≡ map leaf_of (take kept (drop (length row) pairs)) =
    sym (take-map (tree_at trees) kept (drop from old))
    ∙ ap (take kept) (sym (drop-map (tree_at trees) from old))
    ∙ ap (λ (ts : List Tree). take kept (drop from ts)) leaves.1
    ∙ ap (take kept) (drop-map leaf_of from last)
    ∙ take-map leaf_of kept (drop from last)
    ∙ ap (map leaf_of) (sym same)
    in (
      record {
        leaves =
            map-append (tree_at trees) row slice
            ∙ ap₂ ◌++◌ first.leaves slice_leaves
            ∙ sym (map-append leaf_of (take (length row) pairs) (take kept (drop (length row) pairs)))
            ∙ ap (map leaf_of) (sym (take-add (length row) kept pairs) ∙ ap (λ n. take n pairs) (sym counted));
        stand = All-append (λ n. n < length trees) row slice first.stand (All-take (λ n. n < length trees) kept (drop from old) (All-drop (λ n. n < length trees) from old leaves.0));
        within = omega arith;
      },
      counted,
    )

differing-none : (n : ℕ) (old : List ℕ) → differing_count (take n old) old ≡ 0
differing-none zero old = refl
differing-none (suc n) [] = refl
differing-none (suc n) (number ∷ old) =
    let one = unlike_not number number refl in
    let rest = differing-none n old in
    omega arith

pub differing-kept : (row old : List ℕ) (n : ℕ) → length row ≤ length old → differing_count (row ++ take n (drop (length row) old)) old ≤ differing_count row old
differing-kept [] old n l = let none = differing-none n old in omega arith
differing-kept (number ∷ row) [] n l = absurd (omega arith)
differing-kept (number ∷ row) (other ∷ old) n l = let rest = differing-kept row old n (omega arith) in omega arith
