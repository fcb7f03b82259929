-- How many pairs are new: one by one, in parts, and where pairs are set or removed.
use Rattle.std.proofs.Common.{◌≡◌, ℕ, ◌+◌, ◌≤◌, Bool, true, false, cond, not, is_lt, is_eq, Less, Equal, Greater, [], ◌∷◌, ◌++◌, length, get_or, set, take, drop, refl, sym, ap, ◌∙◌, arith, inl, inr, take-append-drop}
use Rattle.std.specs.Prelude.{filter, ◌||◌}
use Rattle.std.specs.Ordering.{match_ordering}
use Rattle.std.proofs.lemmas.Bool.{cases_Bool, and_parts, and_from, or_from, or_left, or_right, false≢true}
use Rattle.std.proofs.lemmas.List.{append_assoc, drop_more, drop-drop, length-take-le, set_at}
use Rattle.ibc_ids.specs.Maps.{with, without}
use Rattle.ibc_ids.specs.Texts.{Text, same_text, text_cmp}
use Rattle.ibc_ids.proofs.Texts.{text_same, same_text_itself, text_ties}
use Rattle.ibc_merkle.specs.Proofs.{is_below}
use Rattle.ibc_merkle.specs.Tree.{Pairs}
use Rattle.ibc_merkle.proofs.Sorted.{AreRising, AllAbove}
use Rattle.ibc_forest.specs.Gaps.{IsOneOther}
use Rattle.ibc_forest.specs.Leaves.{same_pair, from_key, begins_with, is_new, is_among, count_new}
use Rattle.ibc_forest.proofs.LeafRows.{passes, stops, one_at_most}

-- 0 if a pair is among the last ones, and else 1
abbrev pub lacks : Pairs → Text × Text → ℕ
lacks last pair = elim (is_among last pair) [ true ↦ 0 | false ↦ 1 ]

lacks_most : (last : Pairs) (pair : Text × Text) → lacks last pair ≤ 1
lacks_most last pair = one_at_most (is_among last pair)

new_none : (last : Pairs) → count_new last [] ≡ 0
unfolding count_new
new_none last = refl

pub new_one : (last : Pairs) (pair : Text × Text) (pairs : Pairs) → count_new last (pair ∷ pairs) ≡ lacks last pair + count_new last pairs
unfolding count_new
new_one last pair pairs =
    let rest : Pairs = filter (λ (p : Text × Text). not (is_among last p)) pairs in
    elim (is_among last pair) as (λ b. length (cond (not b) (pair ∷ rest) rest) ≡ elim b as (λ _. ℕ) [ true ↦ 0 | false ↦ 1 ] + length rest) [
      | true ↦ omega arith
      | false ↦ omega arith
    ]

-- ---- among sorted pairs a pair stands where its key is found

below_other : (first pair : Text × Text) → is_below first.0 pair.0 ≡ true → same_pair first pair ≡ false
below_other first pair below =
    elim (cases_Bool (same_pair first pair)) [
      | inl same ↦
          let key = text_same first.0 pair.0 (and_parts (same_text first.0 pair.0) (same_text first.1 pair.1) same).0 in
          absurd (false≢true (sym (ap is_lt (text_ties first.0)) ∙ ap (λ k. is_lt (text_cmp first.0 k)) key ∙ below))
      | inr other ↦ other
    ]

apart : (first pair : Text × Text) (low : Text) → text_cmp low first.0 ≡ Less → is_below low pair.0 ≡ false → same_pair first pair ≡ false
apart first pair low less above =
    elim (cases_Bool (same_pair first pair)) [
      | inl same ↦
          let key = text_same first.0 pair.0 (and_parts (same_text first.0 pair.0) (same_text first.1 pair.1) same).0 in
          absurd (false≢true (sym above ∙ ap (λ k. is_lt (text_cmp low k)) (sym key) ∙ ap is_lt less))
      | inr other ↦ other
    ]

absent : (last : Pairs) (low : Text) (pair : Text × Text) → AllAbove low last → is_below low pair.0 ≡ false → is_among last pair ≡ false
absent [] low pair all above = refl
absent (first ∷ last) low pair all above =
    or_from (same_pair first pair) (is_among last pair) (apart first pair low all.0 above) (absent last low pair all.1 above)

found_among : (last : Pairs) (pair : Text × Text) → AreRising last → begins_with pair (from_key pair.0 last) ≡ is_among last pair
found_among [] pair rising = refl
found_among (first ∷ last) pair rising =
    let all : Pairs = first ∷ last in
    elim (cases_Bool (is_below first.0 pair.0)) [
      | inl below ↦
          ap (begins_with pair) (passes pair.0 all last first refl below)
          ∙ found_among last pair rising.1
          ∙ sym (ap (λ (b : Bool). b || is_among last pair) (below_other first pair below))
      | inr above ↦
          ap (begins_with pair) (stops pair.0 all last first refl above)
          ∙ elim (cases_Bool (same_pair first pair)) [
            | inl same ↦ same ∙ sym (or_left (same_pair first pair) (is_among last pair) same)
            | inr other ↦ other ∙ sym (or_from (same_pair first pair) (is_among last pair) other (absent last first.0 pair rising.0 above))
          ]
    ]

pub new_found : (last : Pairs) (pair : Text × Text) → AreRising last → is_new pair (from_key pair.0 last) ≡ lacks last pair
new_found last pair rising = ap (λ (b : Bool). elim b [ true ↦ 0 | false ↦ 1 ]) (found_among last pair rising)

-- ---- in parts

new_both : (last xs ys : Pairs) → count_new last (xs ++ ys) ≡ count_new last xs + count_new last ys
new_both last [] ys = let none = new_none last in omega arith
new_both last (x ∷ xs) ys =
    let all : count_new last ((x ∷ xs) ++ ys) ≡ lacks last x + count_new last (xs ++ ys) = new_one last x (xs ++ ys) in
    let one = new_one last x xs in
    let rest = new_both last xs ys in
    omega arith

new_cut : (last pairs : Pairs) (n : ℕ) → count_new last pairs ≡ count_new last (take n pairs) + count_new last (drop n pairs)
new_cut last pairs n = ap (count_new last) (sym (take-append-drop n pairs)) ∙ new_both last (take n pairs) (drop n pairs)

among_at : (front : Pairs) (x : Text × Text) (back : Pairs) → is_among (front ++ x ∷ back) x ≡ true
among_at [] x back =
    or_left (same_pair x x) (is_among back x) (and_from (same_text x.0 x.0) (same_text x.1 x.1) (same_text_itself x.0) (same_text_itself x.1))
among_at (first ∷ front) x back = or_right (same_pair first x) (is_among (front ++ x ∷ back) x) (among_at front x back)

new_of_own : (front back : Pairs) → count_new (front ++ back) back ≡ 0
new_of_own front [] = new_none (front ++ [])
new_of_own front (x ∷ back) =
    let one = new_one (front ++ x ∷ back) x back in
    let there : lacks (front ++ x ∷ back) x ≡ 0 = ap (λ (b : Bool). elim b [ true ↦ 0 | false ↦ 1 ]) (among_at front x back) in
    let rest : count_new (front ++ x ∷ back) back ≡ 0 =
    ap (λ (all : Pairs). count_new all back) (sym (append_assoc front (x ∷ []) back)) ∙ new_of_own (front ++ x ∷ []) back
    in
    omega arith

-- of what is there nothing is new
pub new_unchanged : (pairs : Pairs) → count_new pairs pairs ≡ 0
new_unchanged pairs = new_of_own [] pairs

pub new_rest : (last : Pairs) (n : ℕ) → count_new last (drop n last) ≡ 0
new_rest last n = let all = new_unchanged last in let cut = new_cut last last n in omega arith

new_front : (last : Pairs) (n : ℕ) → count_new last (take n last) ≡ 0
new_front last n = let all = new_unchanged last in let cut = new_cut last last n in omega arith

-- what stayed is not new
pub new_past : (last entries : Pairs) (from i kept : ℕ) → take kept (drop i entries) ≡ take kept (drop from last)
    → count_new last (drop (i + kept) entries) ≡ count_new last (drop i entries)
new_past last entries from i kept same =
    let cut = new_cut last (drop i entries) kept in
    let own = new_cut last (drop from last) kept in
    let none = new_rest last from in
    let stayed : count_new last (take kept (drop i entries)) ≡ count_new last (take kept (drop from last)) = ap (count_new last) same in
    let behind : count_new last (drop kept (drop i entries)) ≡ count_new last (drop (i + kept) entries) = ap (count_new last) (drop-drop kept i entries) in
    omega arith

-- only the one pair may be new
pub new_one_other : (last entries : Pairs) (index : ℕ) → IsOneOther index last entries → count_new last entries ≡ lacks last (get_or entries index ([], []))
new_one_other last entries index other =
    let entry = get_or entries index ([], []) in
    let old = get_or last index ([], []) in
    let front : Pairs = take index last in
    let back : Pairs = drop (index + 1) last in
    let there = other.there in
    let was : last ≡ front ++ old ∷ back = sym (take-append-drop index last) ∙ ap (λ (xs : Pairs). front ++ xs) (drop_more last index ([], []) there) in
    let is : entries ≡ front ++ entry ∷ back =
    other.same ∙ ap (λ (xs : Pairs). set xs index entry) was ∙ set_at front old back entry index (length-take-le index last (omega arith))
    in
    let all : count_new last entries ≡ count_new last front + count_new last (entry ∷ back) = ap (count_new last) is ∙ new_both last front (entry ∷ back) in
    let one = new_one last entry back in
    let before = new_front last index in
    let behind = new_rest last (index + 1) in
    omega arith

-- ---- a pair is set or removed

pub new_with : (last pairs : Pairs) (key value : Text) → count_new last (with text_cmp key value pairs) ≤ count_new last pairs + 1
new_with last [] key value =
    let one : count_new last (with text_cmp key value []) ≡ lacks last (key, value) + count_new last [] = new_one last (key, value) [] in
    let most = lacks_most last (key, value) in
    omega arith
new_with last (x ∷ es) key value =
    let one = new_one last x es in
    let rest = new_with last es key value in
    let new = new_one last (key, value) (x ∷ es) in
    let again = new_one last (x.0, value) es in
    let next = new_one last x (with text_cmp key value es) in
    let most = lacks_most last (key, value) in
    let most_again = lacks_most last (x.0, value) in
    elim (text_cmp key x.0) as (λ o. count_new last (match_ordering o ((key, value) ∷ x ∷ es) ((x.0, value) ∷ es) (x ∷ with text_cmp key value es)) ≤ count_new last (x ∷ es) + 1) [
      | Less ↦ omega arith
      | Equal ↦ omega arith
      | Greater ↦ omega arith
    ]

pub new_without : (last pairs : Pairs) (key : Text) → count_new last (without text_cmp key pairs) ≤ count_new last pairs
new_without last [] key = omega arith
new_without last (x ∷ es) key =
    let one = new_one last x es in
    let rest = new_without last es key in
    let next = new_one last x (without text_cmp key es) in
    elim (is_eq (text_cmp key x.0)) as (λ b. count_new last (cond b es (x ∷ without text_cmp key es)) ≤ count_new last (x ∷ es)) [
      | true ↦ omega arith
      | false ↦ omega arith
    ]
