-- Tests of lists, and what is so where they are passed.
use Rattle.std.proofs.Common.{◌≡◌, zero, suc, ◌<◌, Bool, true, false, refl, ap, ◌∙◌, subst, List, [], ◌∷◌, ◌++◌, length, inl, inr, arith, ◌&&◌, cond, filter, Contains}
use Rattle.std.specs.List.{list_all, list_any}
use Rattle.ibc_machine.proofs.Members.{Is_in}
use Rattle.ibc_laws.proofs.basics.PassedTests.{both, either}

-- ---- each element, and some element

pub lemma_passes : {A : Type 0} (test : A → Bool) (xs : List A) (x : A) → list_all test xs ≡ true → Contains xs x → test x ≡ true
lemma_passes test [] x all has = absurd (let lt = has.1 in omega arith)
lemma_passes test (y ∷ xs) x all (zero, lt, e) = subst (λ z. test z ≡ true) e (both (test y) (list_all test xs) all).0
lemma_passes test (y ∷ xs) x all (suc k, lt, e) =
    lemma_passes test xs x (both (test y) (list_all test xs) all).1 (k, (let l : suc k < length (y ∷ xs) = lt in omega arith), e)

pub lemma_passes_in : {A : Type 0} (test : A → Bool) (xs : List A) (x : A) → list_all test xs ≡ true → Is_in x xs → test x ≡ true
lemma_passes_in test [] x all has = absurd has
lemma_passes_in test (y ∷ xs) x all (inl same) = ap test same ∙ (both (test y) (list_all test xs) all).0
lemma_passes_in test (y ∷ xs) x all (inr later) = lemma_passes_in test xs x (both (test y) (list_all test xs) all).1 later

pub lemma_some_passes : {A : Type 0} (test : A → Bool) (xs : List A) → list_any test xs ≡ true → (x : A) × (test x ≡ true)
lemma_some_passes test [] any = absurd (cc any)
lemma_some_passes test (x ∷ xs) any = elim (either (test x) (list_any test xs) any) [
  | inl here ↦ (x, here)
  | inr later ↦ lemma_some_passes test xs later
]

-- ---- what a filter has left

pub in_filter_from : {A : Type 0} (test : A → Bool) (x : A) (xs : List A) → Is_in x (filter test xs) → Is_in x xs × (test x ≡ true)
in_filter_from test x [] has = absurd has
in_filter_from {A} test x (y ∷ xs) has = go (test y) refl (in_filter_from test x xs) has
  where
    go : (b : Bool) → test y ≡ b → (Is_in x (filter test xs) → Is_in x xs × (test x ≡ true))
        → Is_in x (cond b (y ∷ filter test xs) (filter test xs)) → Is_in x (y ∷ xs) × (test x ≡ true)
    go true is rest (inl same) = (inl same, ap test same ∙ is)
    go true is rest (inr later) = (inr (rest later).0, (rest later).1)
    go false is rest later = (inr (rest later).0, (rest later).1)

-- ---- one list is the front of another, or the same, by a test of elements

abbrev pub is_front : {A : Type 0} → (A → A → Bool) → List A → List A → Bool
is_front same [] ys = true
is_front same (x ∷ xs) [] = false
is_front same (x ∷ xs) (y ∷ ys) = same x y && is_front same xs ys

pub lemma_is_front : {A : Type 0} (same : A → A → Bool) → ((x y : A) → same x y ≡ true → x ≡ y) → (xs ys : List A) → is_front same xs ys ≡ true
    → (rest : List A) × (xs ++ rest ≡ ys)
lemma_is_front same exact [] ys front = (ys, refl)
lemma_is_front same exact (x ∷ xs) [] front = absurd (cc front)
lemma_is_front same exact (x ∷ xs) (y ∷ ys) front =
    let parts = both (same x y) (is_front same xs ys) front in
    let head = exact x y parts.0 in
    let tail = lemma_is_front same exact xs ys parts.1 in
    (tail.0, λ i. head i ∷ tail.1 i)

abbrev pub are_same : {A : Type 0} → (A → A → Bool) → List A → List A → Bool
are_same same [] [] = true
are_same same (x ∷ xs) (y ∷ ys) = same x y && are_same same xs ys
are_same same _ _ = false

pub lemma_are_same : {A : Type 0} (same : A → A → Bool) → ((x y : A) → same x y ≡ true → x ≡ y) → (xs ys : List A) → are_same same xs ys ≡ true → xs ≡ ys
lemma_are_same same exact [] [] alike = refl
lemma_are_same same exact [] (y ∷ ys) alike = absurd (cc alike)
lemma_are_same same exact (x ∷ xs) [] alike = absurd (cc alike)
lemma_are_same same exact (x ∷ xs) (y ∷ ys) alike =
    let parts = both (same x y) (are_same same xs ys) alike in
    let head = exact x y parts.0 in
    let tail = lemma_are_same same exact xs ys parts.1 in
    λ i. head i ∷ tail i
