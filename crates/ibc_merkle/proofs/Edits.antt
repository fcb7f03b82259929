-- Sorted pairs, edited at a key.
use Rattle.std.proofs.Common.{◌≡◌, true, cond, [], ◌∷◌, ◌++◌, refl, ap, ◌∙◌, ◌<◌, ℕ, length, take, drop, take-append-drop, arith, Less, Equal, Greater, is_lt, is_eq}
use Rattle.std.specs.FinMap.{is_sorted}
use Rattle.std.specs.FinMap.Entries.{below_all}
use Rattle.std.specs.Ordering.{match_ordering}
use Rattle.std.proofs.lemmas.Bool.{and_from}
use Rattle.ibc_ids.specs.Texts.{Text, text_cmp}
use Rattle.ibc_ids.specs.Maps.{with, without}
use Rattle.ibc_merkle.specs.Tree.{Pairs}
use Rattle.ibc_merkle.proofs.Sorted.{AreRising, AllBelow, AllAbove, rising_from_sorted, above-left, above-right, rising-left, rising-right, greater_from}

-- ---- the test, and the same by recursion

below_all_from_above : (key : Text) (es : Pairs) → AllAbove key es → below_all text_cmp key es ≡ true
below_all_from_above key [] h = refl
below_all_from_above key (e ∷ es) h = and_from (is_lt (text_cmp key e.0)) (below_all text_cmp key es) (ap is_lt h.0) (below_all_from_above key es h.1)

pub sorted_from_rising : (es : Pairs) → AreRising es → is_sorted text_cmp es ≡ true
sorted_from_rising [] h = refl
sorted_from_rising (e ∷ es) h = and_from (below_all text_cmp e.0 es) (is_sorted text_cmp es) (below_all_from_above e.0 es h.0) (sorted_from_rising es h.1)

-- ---- joined

above-both : (key : Text) (xs ys : Pairs) → AllAbove key xs → AllAbove key ys → AllAbove key (xs ++ ys)
above-both key [] ys f g = g
above-both key (x ∷ xs) ys f g = (f.0, above-both key xs ys f.1 g)

-- a pair that stands above the lower ones and below the higher ones
rising-between : (low high : Pairs) (key value : Text) → AreRising (low ++ high) → AllBelow key low → AllAbove key high → AreRising (low ++ (key, value) ∷ high)
rising-between [] high key value h below above = (above, h)
rising-between (x ∷ low) high key value h below above =
    (above-both x.0 low ((key, value) ∷ high) (above-left x.0 low high h.0) (below.0, above-right x.0 low high h.0), rising-between low high key value h.1 below.1 above)

rising-middle : (low : Pairs) (x : Text × Text) (high : Pairs) → AreRising (low ++ x ∷ high) → AreRising (low ++ high)
rising-middle [] x high h = h.1
rising-middle (y ∷ low) x high h =
    (above-both y.0 low high (above-left y.0 low (x ∷ high) h.0) (above-right y.0 low (x ∷ high) h.0).1, rising-middle low x high h.1)

rising-again : (low : Pairs) (x : Text × Text) (high : Pairs) (value : Text) → AreRising (low ++ x ∷ high) → AreRising (low ++ (x.0, value) ∷ high)
rising-again [] x high value h = h
rising-again (y ∷ low) x high value h =
    (above-both y.0 low ((x.0, value) ∷ high) (above-left y.0 low (x ∷ high) h.0) (above-right y.0 low (x ∷ high) h.0), rising-again low x high value h.1)

-- ---- at a key that is there

with-step : (key value : Text) (x : Text × Text) (es : Pairs) → text_cmp x.0 key ≡ Less → with text_cmp key value (x ∷ es) ≡ x ∷ with text_cmp key value es
with-step key value x es h =
    ap (λ o. match_ordering o ((key, value) ∷ x ∷ es) ((x.0, value) ∷ es) (x ∷ with text_cmp key value es)) (greater_from x.0 key h)

without-step : (key : Text) (x : Text × Text) (es : Pairs) → text_cmp x.0 key ≡ Less → without text_cmp key (x ∷ es) ≡ x ∷ without text_cmp key es
without-step key x es h = ap (λ o. cond (is_eq o) es (x ∷ without text_cmp key es)) (greater_from x.0 key h)

pub with-here : (low : Pairs) (x : Text × Text) (high : Pairs) (key value : Text) → AllBelow key low → text_cmp key x.0 ≡ Equal
    → with text_cmp key value (low ++ x ∷ high) ≡ low ++ (x.0, value) ∷ high
with-here [] x high key value below here = ap (λ o. match_ordering o ((key, value) ∷ x ∷ high) ((x.0, value) ∷ high) (x ∷ with text_cmp key value high)) here
with-here (y ∷ low) x high key value below here = with-step key value y (low ++ x ∷ high) below.0 ∙ ap (λ es. y ∷ es) (with-here low x high key value below.1 here)

pub without-here : (low : Pairs) (x : Text × Text) (high : Pairs) (key : Text) → AllBelow key low → text_cmp key x.0 ≡ Equal
    → without text_cmp key (low ++ x ∷ high) ≡ low ++ high
without-here [] x high key below here = ap (λ o. cond (is_eq o) high (x ∷ without text_cmp key high)) here
without-here (y ∷ low) x high key below here = without-step key y (low ++ x ∷ high) below.0 ∙ ap (λ es. y ∷ es) (without-here low x high key below.1 here)

-- ---- at a key that is not there

pub with-gap : (low high : Pairs) (key value : Text) → AllBelow key low → AllAbove key high → with text_cmp key value (low ++ high) ≡ low ++ (key, value) ∷ high
with-gap [] [] key value below above = refl
with-gap [] (x ∷ high) key value below above = ap (λ o. match_ordering o ((key, value) ∷ x ∷ high) ((x.0, value) ∷ high) (x ∷ with text_cmp key value high)) above.0
with-gap (y ∷ low) high key value below above = with-step key value y (low ++ high) below.0 ∙ ap (λ es. y ∷ es) (with-gap low high key value below.1 above)

without-above : (high : Pairs) (key : Text) → AllAbove key high → without text_cmp key high ≡ high
without-above [] key above = refl
without-above (x ∷ high) key above = ap (λ o. cond (is_eq o) high (x ∷ without text_cmp key high)) above.0 ∙ ap (λ es. x ∷ es) (without-above high key above.1)

pub without-gap : (low high : Pairs) (key : Text) → AllBelow key low → AllAbove key high → without text_cmp key (low ++ high) ≡ low ++ high
without-gap [] high key below above = without-above high key above
without-gap (y ∷ low) high key below above = without-step key y (low ++ high) below.0 ∙ ap (λ es. y ∷ es) (without-gap low high key below.1 above)

-- ---- the pairs stay sorted

pub again_is_sorted : (low : Pairs) (x : Text × Text) (high : Pairs) (value : Text) → is_sorted text_cmp (low ++ x ∷ high) ≡ true → is_sorted text_cmp (low ++ (x.0, value) ∷ high) ≡ true
again_is_sorted low x high value h = sorted_from_rising _ (rising-again low x high value (rising_from_sorted _ h))

pub between_is_sorted : (low high : Pairs) (key value : Text) → is_sorted text_cmp (low ++ high) ≡ true → AllBelow key low → AllAbove key high → is_sorted text_cmp (low ++ (key, value) ∷ high) ≡ true
between_is_sorted low high key value h below above = sorted_from_rising _ (rising-between low high key value (rising_from_sorted _ h) below above)

pub middle_is_sorted : (low : Pairs) (x : Text × Text) (high : Pairs) → is_sorted text_cmp (low ++ x ∷ high) ≡ true → is_sorted text_cmp (low ++ high) ≡ true
middle_is_sorted low x high h = sorted_from_rising _ (rising-middle low x high (rising_from_sorted _ h))

-- ---- with a pair the pairs are not empty

pub with_some : (key value : Text) (es : Pairs) → 0 < length (with text_cmp key value es)
with_some key value [] = omega arith
with_some key value (x ∷ es) =
    elim (text_cmp key x.0) as (λ o. 0 < length (match_ordering o ((key, value) ∷ x ∷ es) ((x.0, value) ∷ es) (x ∷ with text_cmp key value es))) [
      | Less ↦ omega arith
      | Equal ↦ omega arith
      | Greater ↦ omega arith
    ]

-- ---- both halves are sorted

pub take_is_sorted : (n : ℕ) (es : Pairs) → is_sorted text_cmp es ≡ true → is_sorted text_cmp (take n es) ≡ true
take_is_sorted n es h = sorted_from_rising _ (rising-left (take n es) (drop n es) (rising_from_sorted _ (ap (is_sorted text_cmp) (take-append-drop n es) ∙ h)))

pub drop_is_sorted : (n : ℕ) (es : Pairs) → is_sorted text_cmp es ≡ true → is_sorted text_cmp (drop n es) ≡ true
drop_is_sorted n es h = sorted_from_rising _ (rising-right (take n es) (drop n es) (rising_from_sorted _ (ap (is_sorted text_cmp) (take-append-drop n es) ∙ h)))
