-- Lists with one entry put into its place.
use Rattle.std.proofs.Common.{◌≡◌, ℕ, zero, suc, ◌<◌, Bool, true, false, refl, ap, sym, ◌∙◌, subst, List, [], ◌∷◌, ◌++◌, length, Option, Some, ◌⊎◌, inl, inr, arith, ◌==◌, eqb-true, slice_get, slice_set}
use Rattle.ibc_laws.proofs.basics.PassedTests.{number-self}

pub some_is : {A : Type 0} {x y : A} {o : Option A} → o ≡ Some x → o ≡ Some y → x ≡ y
some_is e f = cc (e, f)

pub get-set_same : {A : Type 0} (xs : List A) (k : ℕ) (a b : A) → slice_get xs k ≡ Some a
    → slice_get (slice_set xs k b) k ≡ Some b
get-set_same [] k a b e = absurd (cc e)
get-set_same (x ∷ xs) zero a b e = refl
get-set_same (x ∷ xs) (suc k) a b e = get-set_same xs k a b e

pub get-set_other : {A : Type 0} (xs : List A) (k j : ℕ) (b : A) → (j ≡ k → ⊥)
    → slice_get (slice_set xs k b) j ≡ slice_get xs j
get-set_other [] k j b other = refl
get-set_other (x ∷ xs) zero zero b other = absurd (other refl)
get-set_other (x ∷ xs) zero (suc j) b other = refl
get-set_other (x ∷ xs) (suc k) zero b other = refl
get-set_other (x ∷ xs) (suc k) (suc j) b other = get-set_other xs k j b (λ e. other (ap suc e))

pub set-same : {A : Type 0} (xs : List A) (k : ℕ) (a : A) → slice_get xs k ≡ Some a → slice_set xs k a ≡ xs
set-same [] k a e = absurd (cc e)
set-same (x ∷ xs) zero a e = ap (λ y. y ∷ xs) (some_is refl (sym e))
set-same (x ∷ xs) (suc k) a e = ap (λ ys. x ∷ ys) (set-same xs k a e)

pub same_or_not : (j k : ℕ) → (j ≡ k) ⊎ (j ≡ k → ⊥)
same_or_not j k = go (j == k) refl
  where
    go : (b : Bool) → (j == k) ≡ b → (j ≡ k) ⊎ (j ≡ k → ⊥)
    go true same = inl (eqb-true j k same)
    go false other = inr (λ jk. absurd (cc (sym other, subst (λ z. (j == z) ≡ true) jk (number-self j))))

-- what is found afterwards is the new entry, or was there
pub placed : {A : Type 0} (xs : List A) (k : ℕ) (a b : A) → slice_get xs k ≡ Some a → (j : ℕ) (c : A)
    → slice_get (slice_set xs k b) j ≡ Some c → ((j ≡ k) × (b ≡ c)) ⊎ ((j ≡ k → ⊥) × (slice_get xs j ≡ Some c))
placed xs k a b there j c is = elim (same_or_not j k) [
  | inl jk ↦ inl (jk, some_is (get-set_same xs k a b there) (subst (λ z. slice_get (slice_set xs k b) z ≡ Some c) jk is))
  | inr other ↦ inr (other, sym (get-set_other xs k j b other) ∙ is)
]

-- an entry of a list with one more at its end
pub last_or_before : {A : Type 0} (xs : List A) (y : A) (i : ℕ) (z : A) → slice_get (xs ++ y ∷ []) i ≡ Some z
    → (slice_get xs i ≡ Some z) ⊎ ((i ≡ length xs) × (y ≡ z))
last_or_before [] y zero z e = inr (refl, some_is refl e)
last_or_before [] y (suc i) z e = absurd (cc e)
last_or_before (x ∷ xs) y zero z e = inl e
last_or_before (x ∷ xs) y (suc i) z e = elim (last_or_before xs y i z e) [
  | inl was ↦ inl was
  | inr new ↦ inr (ap suc new.0, new.1)
]

-- an entry that is there is at a place below the length
pub got_below : {A : Type 0} (xs : List A) (i : ℕ) (z : A) → slice_get xs i ≡ Some z → i < length xs
got_below [] i z e = absurd (cc e)
got_below (x ∷ xs) zero z e = omega arith
got_below (x ∷ xs) (suc i) z e = let lt = got_below xs i z e in omega arith
