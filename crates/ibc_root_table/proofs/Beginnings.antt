-- Beginnings of one list.
use Rattle.std.proofs.Common.{◌≡◌, ℕ, zero, suc, ◌≤◌, ◌⊎◌, inl, inr, List, [], ◌∷◌, ◌++◌, length, take, Some, slice_get, refl, ap, sym, ◌∙◌, arith, append_assoc, length-append}
use Rattle.std.proofs.lemmas.List.{take-append-le, take_all}
use mathlib.Core.List.{IsPrefix}

pub prefix_none : {A : Type 0} (xs : List A) → IsPrefix [] xs
prefix_none xs = (xs, refl)

pub prefix_longer : {A : Type 0} (xs ys zs : List A) → IsPrefix xs ys → IsPrefix xs (ys ++ zs)
prefix_longer xs ys zs p = (p.0 ++ zs, sym (append_assoc xs p.0 zs) ∙ ap (λ w. w ++ zs) p.1)

pub prefix_length : {A : Type 0} (xs ys : List A) → IsPrefix xs ys → length xs ≤ length ys
prefix_length xs ys p = omega (arith, sym (ap length p.1) ∙ length-append xs p.0)

-- of two beginnings of one list the shorter begins the longer
pub prefix_shorter : {A : Type 0} (xs ys zs : List A) → IsPrefix xs zs → IsPrefix ys zs → length xs ≤ length ys → IsPrefix xs ys
prefix_shorter [] ys zs p q le = (ys, refl)
prefix_shorter (x ∷ xs) [] zs p q le = absurd (omega arith)
prefix_shorter (x ∷ xs) (y ∷ ys) [] p q le = absurd (cc (p.1))
prefix_shorter (x ∷ xs) (y ∷ ys) (z ∷ zs) p q le =
    let heads : x ≡ y = cc (p.1, q.1) in
    let rest = prefix_shorter xs ys zs (p.0, cc (p.1)) (q.0, cc (q.1)) (omega arith) in
    (rest.0, cc (heads, rest.1))

-- a beginning as long as the whole is the whole
pub prefix_whole : {A : Type 0} (xs ys : List A) → IsPrefix xs ys → length xs ≡ length ys → xs ≡ ys
prefix_whole [] [] p same = refl
prefix_whole [] (y ∷ ys) p same = absurd (omega arith)
prefix_whole (x ∷ xs) [] p same = absurd (omega arith)
prefix_whole (x ∷ xs) (y ∷ ys) p same = let rest = prefix_whole xs ys (p.0, cc (p.1)) (omega arith) in cc (p.1, rest)

-- what stands in a beginning stands in the whole, at the same place
pub prefix_get : {A : Type 0} (xs ys : List A) (k : ℕ) (x : A) → IsPrefix xs ys → slice_get xs k ≡ Some x → slice_get ys k ≡ Some x
prefix_get [] ys k x p h = absurd cc
prefix_get (y ∷ xs) [] k x p h = absurd (cc (p.1))
prefix_get (y ∷ xs) (z ∷ ys) zero x p h = cc (p.1, h)
prefix_get (y ∷ xs) (z ∷ ys) (suc k) x p h = prefix_get xs ys k x (p.0, cc (p.1)) h

-- the first elements of the whole are those of the beginning
pub take-prefix : {A : Type 0} (n : ℕ) (xs ys : List A) → IsPrefix xs ys → n ≤ length xs → take n ys ≡ take n xs
take-prefix n xs ys p l = ap (take n) (sym p.1) ∙ take-append-le n xs p.0 l

pub take-prefix_whole : {A : Type 0} (xs ys : List A) → IsPrefix xs ys → take (length xs) ys ≡ xs
take-prefix_whole xs ys p = take-prefix (length xs) xs ys p (omega arith) ∙ take_all (length xs) xs (omega arith)

-- an element of a list with one more at its end
pub get_snoc : {A : Type 0} (xs : List A) (y x : A) (k : ℕ) → slice_get (xs ++ y ∷ []) k ≡ Some x → (slice_get xs k ≡ Some x) ⊎ ((k ≡ length xs) × (y ≡ x))
get_snoc [] y x zero h = inr (refl, cc)
get_snoc [] y x (suc k) h = absurd cc
get_snoc (z ∷ xs) y x zero h = inl h
get_snoc (z ∷ xs) y x (suc k) h = elim (get_snoc xs y x k h) [ inl e ↦ inl e | inr e ↦ inr (ap suc e.0, e.1) ]

pub some_at : {A : Type 0} (xs : List A) (k : ℕ) → suc k ≤ length xs → (x : A) × (slice_get xs k ≡ Some x)
some_at [] k l = absurd (omega arith)
some_at (x ∷ xs) zero l = (x, refl)
some_at (x ∷ xs) (suc k) l = some_at xs k (omega arith)
