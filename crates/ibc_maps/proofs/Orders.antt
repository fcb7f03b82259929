-- Pairs in the order of their keys: they stay so, and what is found after a change.
use Rattle.std.proofs.Common.{◌≡◌, Bool, true, false, Option, Some, None, [], ◌∷◌, ◌++◌, refl, sym, ap, ap₂, ◌∙◌, Ordering, Less, Equal, Greater, cond, is_eq}
use Rattle.std.specs.Cmp.{IsTotalOrder, alike_right, tied_itself}
use Rattle.std.specs.Ordering.{match_ordering, ordering_reverse}
use Rattle.std.proofs.lemmas.Map.Lookups.{CmpEqualImpliesEq}
use Rattle.ibc_ids.specs.Maps.{Map, at, with, without}
use Rattle.ibc_maps.specs.Sides.{AllBelow, AllAbove}
use Rattle.ibc_maps.proofs.Sorted.{AreRising, at-none}

equal : (o : Ordering) → is_eq o ≡ true → o ≡ Equal
equal Equal e = refl
equal Less e = absurd (cc e)
equal Greater e = absurd (cc e)

module _ {K V : Type 0} {order : K → K → Ordering} (total : IsTotalOrder order) where
  -- ---- what is above and below

  pub above-less : (key other : K) (es : Map K V) → order key other ≡ Less → AllAbove order other es → AllAbove order key es
  above-less key other [] less h = tt
  above-less key other (e ∷ es) less h = (total.trans key other e.0 less h.0, above-less key other es less h.1)

  pub above-tied : (key other : K) (es : Map K V) → order key other ≡ Equal → AllAbove order other es → AllAbove order key es
  above-tied key other [] tie h = tt
  above-tied key other (e ∷ es) tie h = (total.congr key other e.0 tie ∙ h.0, above-tied key other es tie h.1)

  pub below-less : (key other : K) (es : Map K V) → order other key ≡ Less → AllBelow order other es → AllBelow order key es
  below-less key other [] less h = tt
  below-less key other (e ∷ es) less h = (total.trans e.0 other key h.0 less, below-less key other es less h.1)

  pub rising-right : (xs ys : Map K V) → AreRising order (xs ++ ys) → AreRising order ys
  rising-right [] ys h = h
  rising-right (x ∷ xs) ys h = rising-right xs ys h.1

  -- ---- they stay in order

  above-with : (j k : K) (v : V) (m : Map K V) → order j k ≡ Less → AllAbove order j m → AllAbove order j (with order k v m)
  above-with j k v [] less h = (less, tt)
  above-with j k v (e ∷ es) less h =
      elim (order k e.0) as (λ o. AllAbove order j (match_ordering o ((k, v) ∷ e ∷ es) ((e.0, v) ∷ es) (e ∷ with order k v es))) [
        | Less ↦ (less, h)
        | Equal ↦ (h.0, h.1)
        | Greater ↦ (h.0, above-with j k v es less h.1)
      ]

  pub rising-with : (k : K) (v : V) (m : Map K V) → AreRising order m → AreRising order (with order k v m)
  rising-with k v [] h = (tt, tt)
  rising-with k v (e ∷ es) h = go (rising-with k v es h.1) (order k e.0) refl
    where
      go : AreRising order (with order k v es) → (o : Ordering) → order k e.0 ≡ o
          → AreRising order (match_ordering o ((k, v) ∷ e ∷ es) ((e.0, v) ∷ es) (e ∷ with order k v es))
      go rest Less is = ((is, above-less k e.0 es is h.0), h)
      go rest Equal is = h
      go rest Greater is = (above-with e.0 k v es (total.antisymm e.0 k ∙ ap ordering_reverse is) h.0, rest)

  above-without : (j k : K) (m : Map K V) → AllAbove order j m → AllAbove order j (without order k m)
  above-without j k [] h = tt
  above-without j k (e ∷ es) h =
      elim (is_eq (order k e.0)) as (λ b. AllAbove order j (cond b es (e ∷ without order k es))) [
        | true ↦ h.1
        | false ↦ (h.0, above-without j k es h.1)
      ]

  pub rising-without : (k : K) (m : Map K V) → AreRising order m → AreRising order (without order k m)
  rising-without k [] h = tt
  rising-without k (e ∷ es) h =
      elim (is_eq (order k e.0)) as (λ b. AreRising order (cond b es (e ∷ without order k es))) [
        | true ↦ h.1
        | false ↦ (above-without e.0 k es h.0, rising-without k es h.1)
      ]

  -- ---- what is found after a change

  twice : (b : Bool) (v w : Option V) (x : Option V) → cond b v x ≡ cond b v (cond b w x)
  twice true v w x = refl
  twice false v w x = refl

  -- two tests that don't both pass
  swapped : (k q r : K) (v w x : Option V) → is_eq (order k r) ≡ false
      → cond (is_eq (order q r)) w (cond (is_eq (order q k)) v x) ≡ cond (is_eq (order q k)) v (cond (is_eq (order q r)) w x)
  swapped k q r v w x apart = go (is_eq (order q r)) refl (is_eq (order q k)) refl
    where
      go : (b : Bool) → is_eq (order q r) ≡ b → (c : Bool) → is_eq (order q k) ≡ c → cond b w (cond c v x) ≡ cond c v (cond b w x)
      go true is true was = absurd (cc (apart, ap is_eq (sym (total.congr q k r (equal (order q k) was)) ∙ equal (order q r) is)))
      go true is false was = refl
      go false is true was = refl
      go false is false was = refl

  pub at-with : (q k : K) (v : V) (m : Map K V) → at order q (with order k v m) ≡ cond (is_eq (order q k)) (Some v) (at order q m)
  at-with q k v [] = refl
  at-with q k v (e ∷ es) = go (at-with q k v es) (order k e.0) refl
    where
      go : at order q (with order k v es) ≡ cond (is_eq (order q k)) (Some v) (at order q es) → (o : Ordering) → order k e.0 ≡ o
          → at order q (match_ordering o ((k, v) ∷ e ∷ es) ((e.0, v) ∷ es) (e ∷ with order k v es))
          ≡ cond (is_eq (order q k)) (Some v) (cond (is_eq (order q e.0)) (Some e.1) (at order q es))
      go rest Less is = refl
      go rest Equal is =
          twice (is_eq (order q e.0)) (Some v) (Some e.1) (at order q es)
          ∙ ap (λ o. cond (is_eq o) (Some v) (cond (is_eq (order q e.0)) (Some e.1) (at order q es))) (sym (alike_right total k e.0 q is))
      go rest Greater is =
          ap (λ x. cond (is_eq (order q e.0)) (Some e.1) x) rest
          ∙ swapped k q e.0 (Some v) (Some e.1) (at order q es) (ap is_eq is)

  nothing : (b : Bool) → ◌≡◌ {A = Option V} None (cond b None None)
  nothing true = refl
  nothing false = refl

  pub at-without : (q k : K) (m : Map K V) → AreRising order m → at order q (without order k m) ≡ cond (is_eq (order q k)) None (at order q m)
  at-without q k [] h = nothing (is_eq (order q k))
  at-without q k (e ∷ es) h = go (at-without q k es h.1) (is_eq (order k e.0)) refl
    where
      here : (o : Ordering) → order q e.0 ≡ o → at order q es ≡ cond (is_eq o) None (cond (is_eq o) (Some e.1) (at order q es))
      here Equal is = at-none total q es (above-tied q e.0 es is h.0)
      here Less is = refl
      here Greater is = refl

      go : at order q (without order k es) ≡ cond (is_eq (order q k)) None (at order q es) → (b : Bool) → is_eq (order k e.0) ≡ b
          → at order q (cond b es (e ∷ without order k es)) ≡ cond (is_eq (order q k)) None (cond (is_eq (order q e.0)) (Some e.1) (at order q es))
      go rest true is =
          here (order q e.0) refl
          ∙ ap (λ o. cond (is_eq o) None (cond (is_eq (order q e.0)) (Some e.1) (at order q es))) (sym (alike_right total k e.0 q (equal (order k e.0) is)))
      go rest false is =
          ap (λ x. cond (is_eq (order q e.0)) (Some e.1) x) rest
          ∙ swapped k q e.0 None (Some e.1) (at order q es) is

  -- ---- the same is found in both, so they are the same

  found_first : (e : K × V) (es : Map K V) → at order e.0 (e ∷ es) ≡ Some e.1
  found_first e es = ap (λ o. cond (is_eq o) (Some e.1) (at order e.0 es)) (tied_itself total e.0)

  some_is : (x y : V) → ◌≡◌ {A = Option V} (Some x) (Some y) → x ≡ y
  some_is x y e = cc e

  none_is : {A : Type 0} (o : Option V) (x : V) → o ≡ None → o ≡ Some x → A
  none_is o x none some = absurd (cc (none, some))

  pub same_pairs : CmpEqualImpliesEq order → (xs ys : Map K V) → AreRising order xs → AreRising order ys → ((q : K) → at order q xs ≡ at order q ys) → xs ≡ ys
  same_pairs exact [] [] hx hy same = refl
  same_pairs exact [] (y ∷ ys) hx hy same = none_is (at order y.0 (y ∷ ys)) y.1 (sym (same y.0)) (found_first y ys)
  same_pairs exact (x ∷ xs) [] hx hy same = none_is (at order x.0 (x ∷ xs)) x.1 (same x.0) (found_first x xs)
  same_pairs exact (x ∷ xs) (y ∷ ys) hx hy same = go (λ others. same_pairs exact xs ys hx.1 hy.1 others) (order x.0 y.0) refl
    where
      rest : order x.0 y.0 ≡ Equal → (q : K) → at order q xs ≡ at order q ys
      rest tie q = by (order q x.0) refl
        where
          kept : is_eq (order q x.0) ≡ false → at order q xs ≡ at order q ys
          kept other =
              let a : at order q (x ∷ xs) ≡ at order q xs = ap (λ b. cond b (Some x.1) (at order q xs)) other in
              let b : at order q (y ∷ ys) ≡ at order q ys = ap (λ b. cond b (Some y.1) (at order q ys)) (ap is_eq (sym (alike_right total x.0 y.0 q tie)) ∙ other) in
              sym a ∙ same q ∙ b

          by : (o : Ordering) → order q x.0 ≡ o → at order q xs ≡ at order q ys
          by Equal is = at-none total q xs (above-tied q x.0 xs is hx.0) ∙ sym (at-none total q ys (above-tied q y.0 ys (sym (alike_right total x.0 y.0 q tie) ∙ is) hy.0))
          by Less is = kept (ap is_eq is)
          by Greater is = kept (ap is_eq is)

      go : (((q : K) → at order q xs ≡ at order q ys) → xs ≡ ys) → (o : Ordering) → order x.0 y.0 ≡ o → x ∷ xs ≡ y ∷ ys
      go others Less is =
          none_is (at order x.0 (x ∷ xs)) x.1 (same x.0 ∙ at-none total x.0 (y ∷ ys) (is, above-less x.0 y.0 ys is hy.0)) (found_first x xs)
      go others Greater is =
          let less : order y.0 x.0 ≡ Less = total.antisymm y.0 x.0 ∙ ap ordering_reverse is in
          none_is (at order y.0 (y ∷ ys)) y.1 (sym (same y.0) ∙ at-none total y.0 (x ∷ xs) (less, above-less y.0 x.0 xs less hx.0)) (found_first y ys)
      go others Equal is =
          let key : x.0 ≡ y.0 = exact x.0 y.0 is in
          let there : at order x.0 (y ∷ ys) ≡ Some y.1 = ap (λ o. cond (is_eq o) (Some y.1) (at order x.0 ys)) is in
          let value : x.1 ≡ y.1 = some_is x.1 y.1 (sym (found_first x xs) ∙ same x.0 ∙ there) in
          ap₂ (λ (e : K × V) (es : Map K V). e ∷ es) (ap₂ (λ (k : K) (v : V). (k, v)) key value) (others (rest is))
