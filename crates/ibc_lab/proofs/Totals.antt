-- The amounts of a denomination among holdings, one holding more at a time.
use Rattle.std.proofs.Common.{◌≡◌, ◌∙◌, ◌+◌, ◌<◌, ◌≤◌, ◌&&◌, ℕ, Bool, true, false, cond, eqb, ltb, List, [], ◌∷◌, length, get_or, take, refl, sym, ap, subst, arith}
use Rattle.std.specs.Str.{bytes_eq}
use Rattle.std.proofs.lemmas.Bool.{le-ltb, lt-ltb}
use Rattle.std.proofs.lemmas.List.{take_all}
use Rattle.std.proofs.lemmas.List.Sums.{sum_by_more, sum_by_more_le}
use Rattle.ibc_ids.specs.Texts.{Text, same_text}
use Rattle.ibc_machine.specs.chain.Genesis.{Holding, is_same_holding, total_of}

bytes_eq-same : (x y : Text) → bytes_eq x y ≡ same_text x y
bytes_eq-same [] [] = refl
bytes_eq-same [] (y ∷ ys) = refl
bytes_eq-same (x ∷ xs) [] = refl
bytes_eq-same (x ∷ xs) (y ∷ ys) = ap (λ b. eqb x y && b) (bytes_eq-same xs ys)

pub same_holding : (a b : Holding) → (bytes_eq a.0 b.0 && bytes_eq a.1 b.1) ≡ is_same_holding a b
same_holding a b = ap (λ x. x && bytes_eq a.1 b.1) (bytes_eq-same a.0 b.0) ∙ ap (λ x. same_text a.0 b.0 && x) (bytes_eq-same a.1 b.1)

abbrev amount : Text → Holding → ℕ
amount denom h = cond (same_text h.1 denom) h.2 0

-- one more holding, h at the place i
module _ (denom : Text) (holdings : List Holding) (i : ℕ) (h : Holding) (inside : i < length holdings) (here : h ≡ get_or holdings i h) where
  more : total_of denom (take (i + 1) holdings) ≡ total_of denom (take i holdings) + amount denom h
  more = sum_by_more (amount denom) holdings i h inside ∙ ap (λ x. total_of denom (take i holdings) + amount denom x) (sym here)

  within : total_of denom (take i holdings) + amount denom h ≤ total_of denom holdings
  within = subst (λ x. total_of denom (take i holdings) + amount denom x ≤ total_of denom holdings) (sym here) (sum_by_more_le (amount denom) holdings i h inside)

  counts : (b : Bool) → b ≡ bytes_eq h.1 denom → amount denom h ≡ cond b h.2 0
  counts b is = ap (λ x. cond x h.2 0) (sym (bytes_eq-same h.1 denom) ∙ sym is)

  pub total_more : (b : Bool) → b ≡ bytes_eq h.1 denom → total_of denom (take (i + 1) holdings) ≡ total_of denom (take i holdings) + cond b h.2 0
  total_more b is = more ∙ ap (λ x. total_of denom (take i holdings) + x) (counts b is)

  pub too_large : (top : ℕ) → true ≡ bytes_eq h.1 denom → top ≤ total_of denom (take i holdings) + h.2 → false ≡ ltb (total_of denom holdings) top
  too_large top is past = let e = counts true is in sym (le-ltb (total_of denom holdings) top (omega (arith, within, e, past)))

pub total_all : (denom : Text) (holdings : List Holding) (i total top : ℕ) → length holdings ≤ i → total ≡ total_of denom (take i holdings) → total < top → true ≡ ltb (total_of denom holdings) top
total_all denom holdings i total top done is small =
    let e = ap (total_of denom) (take_all i holdings done) in
    sym (lt-ltb (total_of denom holdings) top (omega (arith, is, e)))
