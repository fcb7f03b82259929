-- No step is kept that wasn't, along several changes.
use Rattle.std.proofs.Common.{◌≡◌, ℕ, zero, suc, Bool, true, false, refl, ap, ◌∙◌, sym, List, [], ◌∷◌, length, set, Some, slice_get, subst, inl, inr}
use Rattle.ibc_sim.specs.Shrinking.{KeepsNoMore, StillDo}

pub keeps_all : (kept : List Bool) → KeepsNoMore kept kept
keeps_all kept = record { as_many = refl; fewer = λ k h. h }

pub keeps_along : (a b c : List Bool) → KeepsNoMore a b → KeepsNoMore b c → KeepsNoMore a c
keeps_along a b c first second =
    record { as_many = second.as_many ∙ first.as_many; fewer = λ k h. first.fewer k (second.fewer k h) }

-- what a copy keeps
pub keeps_as : (a b c : List Bool) → a ≡ b → KeepsNoMore a c → KeepsNoMore b c
keeps_as a b c same kept = subst (λ (from : List Bool). KeepsNoMore from c) same kept

left-out : (kept : List Bool) (place k : ℕ) → slice_get (set kept place false) k ≡ Some true → slice_get kept k ≡ Some true
left-out [] place k h = h
left-out (x ∷ kept) zero zero h = absurd (cc h)
left-out (x ∷ kept) zero (suc k) h = h
left-out (x ∷ kept) (suc place) zero h = h
left-out (x ∷ kept) (suc place) (suc k) h = left-out kept place k h

length-left_out : (kept : List Bool) (place : ℕ) → length (set kept place false) ≡ length kept
length-left_out [] place = refl
length-left_out (x ∷ kept) zero = refl
length-left_out (x ∷ kept) (suc place) = ap suc (length-left_out kept place)

-- one step is left out
keeps-set : (kept : List Bool) (place : ℕ) → KeepsNoMore kept (set kept place false)
keeps-set kept place = record { as_many = length-left_out kept place; fewer = left-out kept place }

-- one step more is left out
pub keeps_without : (a b : List Bool) (place : ℕ) → KeepsNoMore a b → KeepsNoMore a (set b place false)
keeps_without a b place kept = keeps_along a b (set b place false) kept (keeps-set b place)

-- ---- what they do

pub still_same : (Does : List Bool → Type 0) (kept : List Bool) → StillDo Does kept kept
still_same Does kept = inl refl

pub still_along : (Does : List Bool → Type 0) (a b c : List Bool) → StillDo Does a b → StillDo Does b c → StillDo Does a c
still_along Does a b c first (inr does) = inr does
still_along Does a b c (inl e) (inl f) = inl (f ∙ e)
still_along Does a b c (inr does) (inl f) = inr (subst Does (sym f) does)
