-- A pair that is taken out and set again.
use Rattle.std.proofs.Common.{◌≡◌, Bool, true, false, Option, Some, None, refl, sym, ap, ◌∙◌, Ordering, Less, Equal, Greater, cond, is_eq}
use Rattle.std.specs.Cmp.{IsTotalOrder}
use Rattle.std.specs.FinMap.{is_sorted}
use Rattle.std.proofs.lemmas.Map.Lookups.{CmpEqualImpliesEq}
use Rattle.ibc_ids.specs.Maps.{Map, at, with, without}
use Rattle.ibc_maps.proofs.Sorted.{AreRising, rising_from_sorted}
use Rattle.ibc_maps.proofs.Orders.{rising-with, rising-without, at-with, at-without, same_pairs}

module _ {K V : Type 0} {order : K → K → Ordering} (total : IsTotalOrder order) (exact : CmpEqualImpliesEq order) (k : K) (v : V) (m : Map K V) (sorted : is_sorted order m ≡ true) where
  rising : AreRising order m
  rising = rising_from_sorted order m sorted

  -- any value stands there then as if the old one had stayed
  pub with-without : with order k v (without order k m) ≡ with order k v m
  with-without =
      same_pairs total exact (with order k v (without order k m)) (with order k v m)
      (rising-with total k v (without order k m) (rising-without total k m rising))
      (rising-with total k v m rising)
      (λ q.
      at-with total q k v (without order k m)
      ∙ ap (cond (is_eq (order q k)) (Some v)) (at-without total q k m rising)
      ∙ by (is_eq (order q k)) (at order q m)
      ∙ sym (at-with total q k v m))
    where
      by : (b : Bool) (x : Option V) → cond b (Some v) (cond b None x) ≡ cond b (Some v) x
      by true x = refl
      by false x = refl

  -- what stood there stands there again
  pub with-same : at order k m ≡ Some v → with order k v m ≡ m
  with-same there =
      same_pairs total exact (with order k v m) m (rising-with total k v m rising) rising
      (λ q. at-with total q k v m ∙ by q (order q k) refl)
    where
      by : (q : K) (o : Ordering) → order q k ≡ o → cond (is_eq o) (Some v) (at order q m) ≡ at order q m
      by q Equal is = sym there ∙ ap (λ x. at order x m) (sym (exact q k is))
      by q Less is = refl
      by q Greater is = refl
