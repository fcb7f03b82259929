-- Sorted pairs, edited at a key.
use Rattle.std.proofs.Common.{◌≡◌, ℕ, zero, suc, take, drop, true, cond, [], ◌∷◌, ◌++◌, refl, ap, ◌∙◌, Ordering, Less, Equal, is_lt, is_eq}
use Rattle.std.specs.Cmp.{IsTotalOrder}
use Rattle.std.specs.FinMap.{is_sorted}
use Rattle.std.specs.FinMap.Entries.{below_all}
use Rattle.std.specs.Ordering.{match_ordering}
use Rattle.std.proofs.lemmas.Bool.{and_from}
use Rattle.ibc_ids.specs.Maps.{Map, with, without}
use Rattle.ibc_maps.specs.Sides.{AllBelow, AllAbove}
use Rattle.ibc_maps.proofs.Sorted.{AreRising, rising_from_sorted, above-left, above-right, greater_from}

module _ {K V : Type 0} (order : K → K → Ordering) where
  -- ---- the test, and the same by recursion

  below_all_from_above : (key : K) (es : Map K V) → AllAbove order key es → below_all order key es ≡ true
  below_all_from_above key [] h = refl
  below_all_from_above key (e ∷ es) h = and_from (is_lt (order key e.0)) (below_all order key es) (ap is_lt h.0) (below_all_from_above key es h.1)

  pub sorted_from_rising : (es : Map K V) → AreRising order es → is_sorted order es ≡ true
  sorted_from_rising [] h = refl
  sorted_from_rising (e ∷ es) h = and_from (below_all order e.0 es) (is_sorted order es) (below_all_from_above e.0 es h.0) (sorted_from_rising es h.1)

  -- ---- joined

  above-both : (key : K) (xs ys : Map K V) → AllAbove order key xs → AllAbove order key ys → AllAbove order key (xs ++ ys)
  above-both key [] ys f g = g
  above-both key (x ∷ xs) ys f g = (f.0, above-both key xs ys f.1 g)

  -- a pair that stands above the lower ones and below the higher ones
  rising-between : (low high : Map K V) (key : K) (value : V) → AreRising order (low ++ high) → AllBelow order key low → AllAbove order key high
      → AreRising order (low ++ (key, value) ∷ high)
  rising-between [] high key value h below above = (above, h)
  rising-between (x ∷ low) high key value h below above =
      (above-both x.0 low ((key, value) ∷ high) (above-left order x.0 low high h.0) (below.0, above-right order x.0 low high h.0), rising-between low high key value h.1 below.1 above)

  rising-middle : (low : Map K V) (x : K × V) (high : Map K V) → AreRising order (low ++ x ∷ high) → AreRising order (low ++ high)
  rising-middle [] x high h = h.1
  rising-middle (y ∷ low) x high h =
      (above-both y.0 low high (above-left order y.0 low (x ∷ high) h.0) (above-right order y.0 low (x ∷ high) h.0).1, rising-middle low x high h.1)

  rising-again : (low : Map K V) (x : K × V) (high : Map K V) (value : V) → AreRising order (low ++ x ∷ high) → AreRising order (low ++ (x.0, value) ∷ high)
  rising-again [] x high value h = h
  rising-again (y ∷ low) x high value h =
      (above-both y.0 low ((x.0, value) ∷ high) (above-left order y.0 low (x ∷ high) h.0) (above-right order y.0 low (x ∷ high) h.0), rising-again low x high value h.1)

  -- ---- the pairs stay sorted

  pub again_is_sorted : (low : Map K V) (x : K × V) (high : Map K V) (value : V) → is_sorted order (low ++ x ∷ high) ≡ true → is_sorted order (low ++ (x.0, value) ∷ high) ≡ true
  again_is_sorted low x high value h = sorted_from_rising _ (rising-again low x high value (rising_from_sorted order _ h))

  pub between_is_sorted : (low high : Map K V) (key : K) (value : V) → is_sorted order (low ++ high) ≡ true → AllBelow order key low → AllAbove order key high
      → is_sorted order (low ++ (key, value) ∷ high) ≡ true
  between_is_sorted low high key value h below above = sorted_from_rising _ (rising-between low high key value (rising_from_sorted order _ h) below above)

  pub middle_is_sorted : (low : Map K V) (x : K × V) (high : Map K V) → is_sorted order (low ++ x ∷ high) ≡ true → is_sorted order (low ++ high) ≡ true
  middle_is_sorted low x high h = sorted_from_rising _ (rising-middle low x high (rising_from_sorted order _ h))

  -- ---- a part of the pairs

  above-take : (key : K) (n : ℕ) (es : Map K V) → AllAbove order key es → AllAbove order key (take n es)
  above-take key zero es h = tt
  above-take key (suc n) [] h = tt
  above-take key (suc n) (e ∷ es) h = (h.0, above-take key n es h.1)

  rising-take : (n : ℕ) (es : Map K V) → AreRising order es → AreRising order (take n es)
  rising-take zero es h = tt
  rising-take (suc n) [] h = tt
  rising-take (suc n) (e ∷ es) h = (above-take e.0 n es h.0, rising-take n es h.1)

  rising-drop : (n : ℕ) (es : Map K V) → AreRising order es → AreRising order (drop n es)
  rising-drop zero es h = h
  rising-drop (suc n) [] h = tt
  rising-drop (suc n) (e ∷ es) h = rising-drop n es h.1

  pub part_is_sorted : (es : Map K V) (m n : ℕ) → is_sorted order es ≡ true → is_sorted order (take n (drop m es)) ≡ true
  part_is_sorted es m n h = sorted_from_rising _ (rising-take n (drop m es) (rising-drop m es (rising_from_sorted order es h)))

module _ {K V : Type 0} {order : K → K → Ordering} (total : IsTotalOrder order) where
  -- ---- at a key that is there

  pub with-step : (key : K) (value : V) (x : K × V) (es : Map K V) → order x.0 key ≡ Less → with order key value (x ∷ es) ≡ x ∷ with order key value es
  with-step key value x es h =
      ap (λ o. match_ordering o ((key, value) ∷ x ∷ es) ((x.0, value) ∷ es) (x ∷ with order key value es)) (greater_from total x.0 key h)

  pub without-step : (key : K) (x : K × V) (es : Map K V) → order x.0 key ≡ Less → without order key (x ∷ es) ≡ x ∷ without order key es
  without-step key x es h = ap (λ o. cond (is_eq o) es (x ∷ without order key es)) (greater_from total x.0 key h)

  pub with-here : (low : Map K V) (x : K × V) (high : Map K V) (key : K) (value : V) → AllBelow order key low → order key x.0 ≡ Equal
      → with order key value (low ++ x ∷ high) ≡ low ++ (x.0, value) ∷ high
  with-here [] x high key value below here = ap (λ o. match_ordering o ((key, value) ∷ x ∷ high) ((x.0, value) ∷ high) (x ∷ with order key value high)) here
  with-here (y ∷ low) x high key value below here = with-step key value y (low ++ x ∷ high) below.0 ∙ ap (λ es. y ∷ es) (with-here low x high key value below.1 here)

  pub without-here : (low : Map K V) (x : K × V) (high : Map K V) (key : K) → AllBelow order key low → order key x.0 ≡ Equal
      → without order key (low ++ x ∷ high) ≡ low ++ high
  without-here [] x high key below here = ap (λ o. cond (is_eq o) high (x ∷ without order key high)) here
  without-here (y ∷ low) x high key below here = without-step key y (low ++ x ∷ high) below.0 ∙ ap (λ es. y ∷ es) (without-here low x high key below.1 here)

  -- ---- at a key that is not there

  pub with-gap : (low high : Map K V) (key : K) (value : V) → AllBelow order key low → AllAbove order key high → with order key value (low ++ high) ≡ low ++ (key, value) ∷ high
  with-gap [] [] key value below above = refl
  with-gap [] (x ∷ high) key value below above = ap (λ o. match_ordering o ((key, value) ∷ x ∷ high) ((x.0, value) ∷ high) (x ∷ with order key value high)) above.0
  with-gap (y ∷ low) high key value below above = with-step key value y (low ++ high) below.0 ∙ ap (λ es. y ∷ es) (with-gap low high key value below.1 above)

  pub without-above : (high : Map K V) (key : K) → AllAbove order key high → without order key high ≡ high
  without-above [] key above = refl
  without-above (x ∷ high) key above = ap (λ o. cond (is_eq o) high (x ∷ without order key high)) above.0 ∙ ap (λ es. x ∷ es) (without-above high key above.1)

  pub without-gap : (low high : Map K V) (key : K) → AllBelow order key low → AllAbove order key high → without order key (low ++ high) ≡ low ++ high
  without-gap [] high key below above = without-above high key above
  without-gap (y ∷ low) high key below above = without-step key y (low ++ high) below.0 ∙ ap (λ es. y ∷ es) (without-gap low high key below.1 above)
