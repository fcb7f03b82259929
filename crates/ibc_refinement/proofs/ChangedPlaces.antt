-- What stands at a place of a list that was changed, mapped or made longer.
use Rattle.std.proofs.Common.{◌≡◌, ℕ, zero, suc, ◌<◌, List, [], ◌∷◌, ◌++◌, length, refl, sym, ap, Some, slice_get, slice_set, arith, inl, inr, ◌⊎◌, subst}
use Rattle.std.specs.List.{AllByRecursion}
use Rattle.ibc_machine.proofs.Members.{Is_in}

pub get_set : {A : Type 0} (xs : List A) (k : ℕ) (x : A) → k < length xs → slice_get (slice_set xs k x) k ≡ Some x
get_set [] k x h = absurd (omega arith)
get_set (y ∷ xs) zero x h = refl
get_set (y ∷ xs) (suc k) x h = get_set xs k x (omega arith)

pub get_set_other : {A : Type 0} (xs : List A) (k j : ℕ) (x : A) → (k ≡ j → ⊥) → slice_get (slice_set xs k x) j ≡ slice_get xs j
get_set_other [] k j x h = refl
get_set_other (y ∷ xs) zero zero x h = absurd (h refl)
get_set_other (y ∷ xs) zero (suc j) x h = refl
get_set_other (y ∷ xs) (suc k) zero x h = refl
get_set_other (y ∷ xs) (suc k) (suc j) x h = get_set_other xs k j x (λ e. h (ap suc e))

pub length_set : {A : Type 0} (xs : List A) (k : ℕ) (x : A) → length (slice_set xs k x) ≡ length xs
length_set [] k x = refl
length_set (y ∷ xs) zero x = refl
length_set (y ∷ xs) (suc k) x = ap suc (length_set xs k x)

pub get_last : {A : Type 0} (xs : List A) (x : A) → slice_get (xs ++ x ∷ []) (length xs) ≡ Some x
get_last [] x = refl
get_last (y ∷ xs) x = get_last xs x

-- what stood before stands there too
pub get_more : {A : Type 0} (xs ys : List A) (n : ℕ) (x : A) → slice_get xs n ≡ Some x → slice_get (xs ++ ys) n ≡ Some x
get_more [] ys n x e = absurd (cc)
get_more (y ∷ xs) ys zero x e = e
get_more (y ∷ xs) ys (suc n) x e = get_more xs ys n x e

-- it stands before, or it is the one behind
pub get_cases : {A : Type 0} (xs : List A) (y : A) (n : ℕ) (x : A) → slice_get (xs ++ y ∷ []) n ≡ Some x → (slice_get xs n ≡ Some x) ⊎ (y ≡ x)
get_cases [] y zero x e = inr (cc)
get_cases [] y (suc n) x e = absurd (cc)
get_cases (z ∷ xs) y zero x e = inl e
get_cases (z ∷ xs) y (suc n) x e = get_cases xs y n x e

pub get_within : {A : Type 0} (xs : List A) (n : ℕ) (x : A) → slice_get xs n ≡ Some x → n < length xs
get_within [] n x e = absurd (cc)
get_within (y ∷ xs) zero x e = omega arith
get_within (y ∷ xs) (suc n) x e = let h = get_within xs n x e in omega arith

pub get_there : {A : Type 0} (xs : List A) (n : ℕ) → n < length xs → (x : A) × (slice_get xs n ≡ Some x)
get_there [] n h = absurd (omega arith)
get_there (y ∷ xs) zero h = (y, refl)
get_there (y ∷ xs) (suc n) h = get_there xs n (omega arith)

pub get_in : {A : Type 0} (xs : List A) (n : ℕ) (x : A) → slice_get xs n ≡ Some x → Is_in x xs
get_in [] n x e = absurd (cc)
get_in (y ∷ xs) zero x e = inl (cc)
get_in (y ∷ xs) (suc n) x e = inr (get_in xs n x e)

pub same_places : {A : Type 0} (xs ys : List A) → length xs ≡ length ys → ((n : ℕ) (x y : A) → slice_get xs n ≡ Some x → slice_get ys n ≡ Some y → x ≡ y) → xs ≡ ys
same_places [] [] l h = refl
same_places [] (y ∷ ys) l h = absurd (omega arith)
same_places (x ∷ xs) [] l h = absurd (omega arith)
same_places (x ∷ xs) (y ∷ ys) l h =
    let head = h 0 x y refl refl in
    let tail = same_places xs ys (omega arith) (λ n. h (suc n)) in
    λ i. head i ∷ tail i

pub all_in : {A : Type 0} (P : A → Type 0) (x : A) (xs : List A) → Is_in x xs → AllByRecursion P xs → P x
all_in P x [] i h = absurd i
all_in P x (y ∷ xs) (inl e) h = subst P (sym e) h.0
all_in P x (y ∷ xs) (inr i) h = all_in P x xs i h.1
