-- Where one of a list fails a test, not all pass it.
use Rattle.std.proofs.Common.{◌≡◌, ℕ, zero, suc, ◌&&◌, Bool, true, false, refl, sym, subst, List, [], ◌∷◌, Option, Some, None, slice_get, IsSomeAnd}
use Rattle.std.proofs.lemmas.Option.{same_Some}
use Rattle.ibc_refinement.specs.World.{WorldState}
use Rattle.std.specs.List.{list_all}
use Rattle.ibc_law_checks.specs.declared.finding.BrokenLaw.{BrokenLaw}
use Rattle.ibc_law_checks.specs.declared.finding.BrokenLaw.TheVariants as broken
use Rattle.ibc_law_checks.specs.declared.supplies.HomeSupply.{HomeSupply}
use Rattle.ibc_law_checks.specs.declared.token_places.TokenPlace.{TokenPlace}
use Rattle.ibc_law_checks.specs.Supplies.{IsFirstChanged, is_kept}
use Rattle.ibc_law_checks.specs.ToldEntries.{IsTokenFinding}
use Rattle.ibc_law_checks.specs.TokenPlaces.{IsFirstUneven, is_balanced_at}

no_and : (b : Bool) → (b && false) ≡ false
no_and true = refl
no_and false = refl

pub not_all : {X : Type 0} (test : X → Bool) (xs : List X) (k : ℕ) → IsSomeAnd (slice_get xs k) (λ x. test x ≡ false) → list_all test xs ≡ false
not_all test [] k h = absurd h
not_all test (x ∷ xs) zero h = rw h refl
not_all test (x ∷ xs) (suc k) h = let rest = not_all test xs k h in rw rest (no_and (test x))

-- a place that fails is what is told
pub told_uneven : (is_even : TokenPlace → Bool) (is_same : HomeSupply → Bool) (places : List TokenPlace) (supplies : List HomeSupply) (law : BrokenLaw) (k : ℕ)
    → law ≡ broken.Conserved → IsSomeAnd (slice_get places k) (λ place. is_even place ≡ false) → IsTokenFinding is_even is_same places supplies law
told_uneven is_even is_same places supplies law k e h =
    subst (λ (l : BrokenLaw). IsTokenFinding is_even is_same places supplies l) (sym e) (not_all is_even places k h)

-- a supply that fails is
pub told_changed : (is_even : TokenPlace → Bool) (is_same : HomeSupply → Bool) (places : List TokenPlace) (supplies : List HomeSupply) (law : BrokenLaw) (k : ℕ)
    → law ≡ broken.SupplyStays → IsSomeAnd (slice_get supplies k) (λ home. is_same home ≡ false) → IsTokenFinding is_even is_same places supplies law
told_changed is_even is_same places supplies law k e h =
    subst (λ (l : BrokenLaw). IsTokenFinding is_even is_same places supplies l) (sym e) (not_all is_same supplies k h)

-- the first place that isn't balanced fails the test
pub uneven_at : (world : WorldState) (all : Bool) (places read : List TokenPlace) (found : Option ℕ) (k : ℕ) → read ≡ places → IsFirstUneven world all read found
    → found ≡ Some k → IsSomeAnd (slice_get places k) (λ place. is_balanced_at world all place ≡ false)
uneven_at world all places read None k same first e = absurd (cc e)
uneven_at world all places read (Some j) k same first e =
    subst (λ (l : List TokenPlace). IsSomeAnd (slice_get l k) (λ place. is_balanced_at world all place ≡ false)) same
    (subst (λ n. IsSomeAnd (slice_get read n) (λ place. is_balanced_at world all place ≡ false)) (same_Some j k e) first.1)

-- the first supply that has changed fails the test
pub changed_at : (world : WorldState) (supplies read : List HomeSupply) (k : ℕ) → read ≡ supplies → IsFirstChanged world read (Some k)
    → IsSomeAnd (slice_get supplies k) (λ home. is_kept world home ≡ false)
changed_at world supplies read k same first =
    subst (λ (l : List HomeSupply). IsSomeAnd (slice_get l k) (λ home. is_kept world home ≡ false)) same first.1
