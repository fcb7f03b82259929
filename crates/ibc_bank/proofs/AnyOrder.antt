-- Holdings are as fair in another order, and references show the holdings at their places.
use Rattle.std.proofs.Common.{◌≡◌, ◌∙◌, ℕ, Bool, ◌<◌, ◌^◌, ◌&&◌, true, false, cond, eqb, ltb, List, length, get_or, map, refl, sym, ap, arith}
use Rattle.std.specs.Borrow.{Bor}
use Rattle.std.specs.List.{list_all, count_by}
use Rattle.std.specs.List.Sorted.{IsPermutation}
use Rattle.std.proofs.lemmas.List.{get_or-map, length-map}
use Rattle.std.proofs.lemmas.List.Sorted.{sum_by-IsPermutation, All-permutation, IsPermutation-sym}
use Rattle.std.proofs.lemmas.List.Sums.{AllPass-from_list_all, list_all-from_AllPass}
use Rattle.ibc_ids.specs.Texts.{same_text}
use Rattle.ibc_ids.specs.Names.{is_user, is_base_denom}
use Rattle.ibc_machine.specs.chain.Genesis.{Holding, is_same_holding, is_fair, total_of}
use Rattle.ibc_bank.specs.SortedStarts.{shown}

-- two tests that imply each other give the same answer
pub same_answer : (a b : Bool) → (a ≡ true → b ≡ true) → (b ≡ true → a ≡ true) → a ≡ b
same_answer true b f g = sym (f refl)
same_answer false true f g = g refl
same_answer false false f g = refl

module _ (xs ys : List Holding) (same : IsPermutation xs ys) where
  as_fair : (h : Holding) → is_fair ys h ≡ is_fair xs h
  as_fair h =
      ap (λ n. ((is_user h.0 && is_base_denom h.1) && eqb n 1) && ltb (total_of h.1 ys) (2 ^ 128)) (sum_by-IsPermutation (λ x. cond (is_same_holding h x) 1 0) xs ys same)
      ∙ ap (λ n. ((is_user h.0 && is_base_denom h.1) && eqb (count_by (is_same_holding h) xs) 1) && ltb n (2 ^ 128)) (sum_by-IsPermutation (λ (x : Holding). cond (same_text x.1 h.1) x.2 0) xs ys same)

  pub pass_alike : (p : Holding → Bool) → list_all p ys ≡ list_all p xs
  pass_alike p =
      same_answer (list_all p ys) (list_all p xs)
      (λ e. list_all-from_AllPass p xs (All-permutation (λ x. p x ≡ true) ys xs (IsPermutation-sym xs ys same) (AllPass-from_list_all p ys e)))
      (λ e. list_all-from_AllPass p ys (All-permutation (λ x. p x ≡ true) xs ys same (AllPass-from_list_all p xs e)))

  pub fair_in_any_order : list_all (is_fair ys) ys ≡ list_all (is_fair xs) xs
  fair_in_any_order = ap (λ p. list_all p ys) (λ i h. as_fair h i) ∙ pass_alike (is_fair xs)

-- the holding at place i, read through a reference
pub read_at : (row : List (Bor Holding)) (i : ℕ) (r : Bor Holding) → i < length row → r ≡ get_or row i r → (d : Holding) → get_or (map shown row) i d ≡ r.now
read_at row i r inside is d = get_or-map shown row i r d inside ∙ ap shown (sym is)

pub shown_inside : (row : List (Bor Holding)) (i : ℕ) → i < length row → i < length (map shown row)
shown_inside row i inside = let many = length-map row shown in omega arith
