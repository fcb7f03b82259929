-- A list that is cut at its first place where a test passes, and a text that is cut at its slashes.
use Rattle.std.proofs.Common.{◌≡◌, ℕ, ◌+◌, ◌<◌, ◌≤◌, Bool, true, false, cond, List, [], ◌∷◌, length, take, drop, Option, Some, None, Bor, refl, sym, ap, ◌∙◌, subst, arith}
use Rattle.std.specs.Prelude.{MatchOption}
use Rattle.std.specs.List.{slice_split, join_with_byte, position, position_or_len}
use Rattle.std.proofs.lemmas.Bool.{ltb-true, ltb-false}
use Rattle.std.proofs.lemmas.List.Splits.{slice_split_none, slice_split_first, length-slice_split, join_with_byte-slice_split}
use Rattle.std.proofs.lemmas.List.Sums.{fails_before_first}
use Rattle.std.proofs.lemmas.Str.Pattern.{IsSplitOnceResult, split_once_first}
use Rattle.ibc_ids.specs.Texts.{Text}
use Rattle.ibc_ids.specs.Names.{is_slash}

no_place : {A : Type 0} (b : Bool) (x : A) → cond b (Some x) None ≡ None → b ≡ false
no_place true x e = absurd cc
no_place false x e = refl

a_place : {A : Type 0} (b : Bool) (x y : A) → cond b (Some x) None ≡ Some y → (b ≡ true) × (x ≡ y)
a_place true x y e = (refl, cc)
a_place false x y e = absurd cc

-- where the test passes nowhere, the list is one part
pub one_part : {A : Type 0} (p : A → Bool) (xs : List A) → position p xs ≡ None → slice_split p xs ≡ xs ∷ []
one_part p xs e =
    let far : length xs ≤ position_or_len p xs = ltb-false _ _ (no_place _ (position_or_len p xs) e) in
    slice_split_none p xs (λ k d lt. fails_before_first p xs k d (omega arith))

-- where it passes at a place, a part ends there
pub part_and_rest : {A : Type 0} (p : A → Bool) (xs : List A) (i : ℕ) → position p xs ≡ Some i → (i < length xs) × (slice_split p xs ≡ take i xs ∷ slice_split p (drop (i + 1) xs))
part_and_rest p [] i e = absurd cc
part_and_rest p (x ∷ xs) i e =
    let found = a_place _ (position_or_len p (x ∷ xs)) i e in
    let near : position_or_len p (x ∷ xs) < length (x ∷ xs) = ltb-true _ _ found.0 in
    subst (λ j. (j < length (x ∷ xs)) × (slice_split p (x ∷ xs) ≡ take j (x ∷ xs) ∷ slice_split p (drop (j + 1) (x ∷ xs)))) found.1
    (near, slice_split_first p (x ∷ xs) x near)

-- ---- texts and their slashes

-- what `split_once` gives at a slash
pub cut_once : (bs : Text) (r : Option (Bor Text × Bor Text)) → IsSplitOnceResult 47 bs r
    → MatchOption r (slice_split is_slash bs ≡ bs ∷ []) (λ x. slice_split is_slash bs ≡ x.0.now ∷ slice_split is_slash x.1.now)
cut_once bs None h =
    let far = split_once_first 47 bs None h (omega arith) in
    slice_split_none is_slash bs (λ k d lt. fails_before_first is_slash bs k d (omega arith))
cut_once bs (Some x) h =
    let found = split_once_first 47 bs (Some x) h (omega arith) in
    let front = sym found.1 in
    let back = sym found.2 in
    slice_split_first is_slash bs 0 found.0 ∙ (λ i. front i ∷ slice_split is_slash (back i))

pub some_part : (t : Text) → slice_split is_slash t ≡ [] → ⊥
some_part t e = let none = sym (length-slice_split is_slash t) ∙ ap length e in omega (arith, none)

-- a text with one part is that part
pub only_part : (x t : Text) → slice_split is_slash t ≡ x ∷ [] → t ≡ x
only_part x t e = sym (join_with_byte-slice_split 47 t) ∙ ap (join_with_byte 47) e
