-- Pairs in the order of their keys, cut at a key: what stands before and behind, and what is found there.
use Rattle.std.proofs.Common.{◌≡◌, true, cond, [], ◌∷◌, ◌++◌, refl, ap, ◌∙◌, Ordering, Less, Equal, Greater, is_lt, is_eq, Some, None}
use Rattle.std.specs.Prelude.{⊤}
use Rattle.std.specs.Cmp.{IsTotalOrder, alike_right}
use Rattle.std.specs.FinMap.{is_sorted}
use Rattle.std.specs.FinMap.Entries.{below_all}
use Rattle.std.specs.Ordering.{ordering_reverse}
use Rattle.std.proofs.lemmas.Bool.{and_parts}
use Rattle.ibc_ids.specs.Maps.{Map, at}
use Rattle.ibc_ids.proofs.Texts.{lt_is_less}
use Rattle.ibc_maps.specs.Sides.{AllBelow, AllAbove}

module _ {K V : Type 0} (order : K → K → Ordering) where
  abbrev pub AreRising : Map K V → Type 0
  AreRising [] = ⊤
  AreRising (e ∷ es) = AllAbove order e.0 es × AreRising es

  above_from_below_all : (key : K) (es : Map K V) → below_all order key es ≡ true → AllAbove order key es
  above_from_below_all key [] h = tt
  above_from_below_all key (e ∷ es) h =
      let parts = and_parts (is_lt (order key e.0)) (below_all order key es) h in
      (lt_is_less _ parts.0, above_from_below_all key es parts.1)

  pub rising_from_sorted : (es : Map K V) → is_sorted order es ≡ true → AreRising es
  rising_from_sorted [] h = tt
  rising_from_sorted (e ∷ es) h =
      let parts = and_parts (below_all order e.0 es) (is_sorted order es) h in
      (above_from_below_all e.0 es parts.0, rising_from_sorted es parts.1)

  pub above-left : (key : K) (xs ys : Map K V) → AllAbove order key (xs ++ ys) → AllAbove order key xs
  above-left key [] ys h = tt
  above-left key (x ∷ xs) ys h = (h.0, above-left key xs ys h.1)

  pub above-right : (key : K) (xs ys : Map K V) → AllAbove order key (xs ++ ys) → AllAbove order key ys
  above-right key [] ys h = h
  above-right key (x ∷ xs) ys h = above-right key xs ys h.1

  -- what stands before a pair is below it
  pub before_is_below : (xs : Map K V) (y : K × V) (ys : Map K V) → AreRising (xs ++ y ∷ ys) → AllBelow order y.0 xs
  before_is_below [] y ys h = tt
  before_is_below (x ∷ xs) y ys h = ((above-right x.0 xs (y ∷ ys) h.0).0, before_is_below xs y ys h.1)

module _ {K : Type 0} {order : K → K → Ordering} (total : IsTotalOrder order) where
  -- ---- the way round

  pub greater_from : (x y : K) → order x y ≡ Less → order y x ≡ Greater
  greater_from x y l = total.antisymm y x ∙ ap ordering_reverse l

  pub less_from : (x y : K) → order x y ≡ Greater → order y x ≡ Less
  less_from x y l = total.antisymm y x ∙ ap ordering_reverse l

  -- what is below a key is below each key that ties with it
  pub below_tied : {V : Type 0} (key other : K) (es : Map K V) → order key other ≡ Equal → AllBelow order other es → AllBelow order key es
  below_tied key other [] tie h = tt
  below_tied key other (e ∷ es) tie h = (alike_right total key other e.0 tie ∙ h.0, below_tied key other es tie h.1)

  -- ---- what is at a key

  pub at-none : {V : Type 0} (key : K) (es : Map K V) → AllAbove order key es → at order key es ≡ None
  at-none key [] h = refl
  at-none key (e ∷ es) h = ap (λ o. cond (is_eq o) (Some e.1) (at order key es)) h.0 ∙ at-none key es h.1

  pub at-behind : {V : Type 0} (key : K) (xs ys : Map K V) → AllBelow order key xs → at order key (xs ++ ys) ≡ at order key ys
  at-behind key [] ys h = refl
  at-behind key (x ∷ xs) ys h = ap (λ o. cond (is_eq o) (Some x.1) (at order key (xs ++ ys))) (greater_from x.0 key h.0) ∙ at-behind key xs ys h.1
