-- Pairs after changes: what is found, and one change more.
use Rattle.std.proofs.Common.{◌≡◌, ℕ, zero, suc, ◌+◌, ◌<◌, Bool, true, false, Option, Some, None, List, [], ◌∷◌, ◌++◌, length, get_or, take, refl, sym, ap, ◌∙◌, Ordering, Less, Equal, Greater, cond, is_eq}
use Rattle.std.specs.Option.{unwrap_or}
use Rattle.std.specs.Cmp.{IsTotalOrder}
use Rattle.std.specs.FinMap.{is_sorted}
use Rattle.std.proofs.lemmas.Map.Lookups.{CmpEqualImpliesEq}
use Rattle.ibc_ids.specs.Maps.{Map, at, with}
use Rattle.ibc_maps.proofs.Sorted.{AreRising, rising_from_sorted, at-none}
use Rattle.ibc_maps.proofs.Edits.{sorted_from_rising, part_is_sorted}
use Rattle.ibc_maps.specs.Changes.{with_change, with_changes}
use Rattle.ibc_maps.proofs.Orders.{above-tied, rising-with, rising-without, at-with, at-without, same_pairs}
use Rattle.ibc_maps.proofs.PairsInChunks.{one_more, take_more}

take_one_more : {A : Type 0} (xs : List A) (i : ℕ) (x : A) → i < length xs → x ≡ get_or xs i x → take (i + 1) xs ≡ take i xs ++ x ∷ []
take_one_more xs i x l is = ap (λ n. take n xs) (one_more i) ∙ take_more xs i x l is

module _ {K V : Type 0} {order : K → K → Ordering} (total : IsTotalOrder order) where
  at-written : (q k : K) (c : Option V) (m : Map K V) → AreRising order m → at order q (with_change order k c m) ≡ cond (is_eq (order q k)) c (at order q m)
  at-written q k None m h = at-without total q k m h
  at-written q k (Some v) m h = at-with total q k v m

  rising-written : (k : K) (c : Option V) (m : Map K V) → AreRising order m → AreRising order (with_change order k c m)
  rising-written k None m h = rising-without total k m h
  rising-written k (Some v) m h = rising-with total k v m h

  rising-changed : (cs : Map K (Option V)) (m : Map K V) → AreRising order m → AreRising order (with_changes order cs m)
  rising-changed [] m h = h
  rising-changed (c ∷ cs) m h = rising-changed cs (with_change order c.0 c.1 m) (rising-written c.0 c.1 m h)

  found_changed : (q : K) (cs : Map K (Option V)) (m : Map K V) → AreRising order cs → AreRising order m → at order q (with_changes order cs m) ≡ unwrap_or (at order q cs) (at order q m)
  found_changed q [] m hc hm = refl
  found_changed q (c ∷ cs) m hc hm =
      found_changed q cs (with_change order c.0 c.1 m) hc.1 (rising-written c.0 c.1 m hm)
      ∙ ap (unwrap_or (at order q cs)) (at-written q c.0 c.1 m hm)
      ∙ go (order q c.0) refl
    where
      go : (o : Ordering) → order q c.0 ≡ o → unwrap_or (at order q cs) (cond (is_eq o) c.1 (at order q m)) ≡ unwrap_or (cond (is_eq o) (Some c.1) (at order q cs)) (at order q m)
      go Less is = refl
      go Greater is = refl
      go Equal is = ap (λ o. unwrap_or o c.1) (at-none total q cs (above-tied total q c.0 cs is hc.0))

  -- what is found
  pub at-changed : (q : K) (cs : Map K (Option V)) (m : Map K V) → is_sorted order cs ≡ true → is_sorted order m ≡ true
      → at order q (with_changes order cs m) ≡ unwrap_or (at order q cs) (at order q m)
  at-changed q cs m hc hm = found_changed q cs m (rising_from_sorted order cs hc) (rising_from_sorted order m hm)

  pub changed_is_sorted : (cs : Map K (Option V)) (m : Map K V) → is_sorted order m ≡ true → is_sorted order (with_changes order cs m) ≡ true
  changed_is_sorted cs m h = sorted_from_rising order _ (rising-changed cs m (rising_from_sorted order m h))

  -- a change more, among the others
  pub changed-with : CmpEqualImpliesEq order → (k : K) (c : Option V) (cs : Map K (Option V)) (m : Map K V) → is_sorted order cs ≡ true → is_sorted order m ≡ true
      → with_changes order (with order k c cs) m ≡ with_change order k c (with_changes order cs m)
  changed-with exact k c cs m sorted_cs sorted_m =
      same_pairs total exact (with_changes order (with order k c cs) m) (with_change order k c (with_changes order cs m))
      (rising-changed (with order k c cs) m hm)
      (rising-written k c (with_changes order cs m) (rising-changed cs m hm))
      (λ q.
      found_changed q (with order k c cs) m (rising-with total k c cs hc) hm
      ∙ ap (λ o. unwrap_or o (at order q m)) (at-with total q k c cs)
      ∙ by (is_eq (order q k)) (at order q cs) (at order q m)
      ∙ ap (cond (is_eq (order q k)) c) (sym (found_changed q cs m hc hm))
      ∙ sym (at-written q k c (with_changes order cs m) (rising-changed cs m hm)))
    where
      hc : AreRising order cs
      hc = rising_from_sorted order cs sorted_cs

      hm : AreRising order m
      hm = rising_from_sorted order m sorted_m

      by : (b : Bool) (o : Option (Option V)) (x : Option V) → unwrap_or (cond b (Some c) o) x ≡ cond b c (unwrap_or o x)
      by true o x = refl
      by false o x = refl

  -- a change behind the others
  pub changed-push : (cs : Map K (Option V)) (c : K × Option V) (m : Map K V) → with_changes order (cs ++ c ∷ []) m ≡ with_change order c.0 c.1 (with_changes order cs m)
  changed-push [] c m = refl
  changed-push (x ∷ cs) c m = changed-push cs c (with_change order x.0 x.1 m)

  pub changed-more : (cs : Map K (Option V)) (i : ℕ) (c : K × Option V) (m row after : Map K V) → i < length cs → c ≡ get_or cs i c → row ≡ with_changes order (take i cs) m
      → after ≡ with_change order c.0 c.1 row → after ≡ with_changes order (take (i + 1) cs) m
  changed-more cs i c m row after l is so_far one =
      one
      ∙ ap (with_change order c.0 c.1) so_far
      ∙ sym (changed-push (take i cs) c m)
      ∙ ap (λ xs. with_changes order xs m) (sym (take_one_more cs i c l is))

  none-take : (q : K) (cs : Map K (Option V)) (i : ℕ) → at order q cs ≡ None → at order q (take i cs) ≡ None
  none-take q cs zero none = refl
  none-take q [] (suc i) none = refl
  none-take q (c ∷ cs) (suc i) none = go (none-take q cs i) (is_eq (order q c.0)) none
    where
      go : (at order q cs ≡ None → at order q (take i cs) ≡ None) → (b : Bool)
          → ◌≡◌ {A = Option (Option V)} (cond b (Some c.1) (at order q cs)) None → ◌≡◌ {A = Option (Option V)} (cond b (Some c.1) (at order q (take i cs))) None
      go rest true none = absurd (cc none)
      go rest false none = rest none

  -- changes of which some were made already
  pub changed-again : CmpEqualImpliesEq order → (cs : Map K (Option V)) (i : ℕ) (m : Map K V) → is_sorted order cs ≡ true → is_sorted order m ≡ true
      → with_changes order cs (with_changes order (take i cs) m) ≡ with_changes order cs m
  changed-again exact cs i m sorted_cs sorted_m =
      same_pairs total exact (with_changes order cs some) (with_changes order cs m) (rising-changed cs some hs) (rising-changed cs m hm)
      (λ q. found_changed q cs some hc hs ∙ by q (at order q cs) refl ∙ sym (found_changed q cs m hc hm))
    where
      some : Map K V
      some = with_changes order (take i cs) m

      hc : AreRising order cs
      hc = rising_from_sorted order cs sorted_cs

      hm : AreRising order m
      hm = rising_from_sorted order m sorted_m

      hs : AreRising order some
      hs = rising-changed (take i cs) m hm

      by : (q : K) (o : Option (Option V)) → at order q cs ≡ o → unwrap_or o (at order q some) ≡ unwrap_or o (at order q m)
      by q (Some c) is = refl
      by q None is =
          found_changed q (take i cs) m (rising_from_sorted order (take i cs) (part_is_sorted order cs 0 i sorted_cs)) hm
          ∙ ap (λ o. unwrap_or o (at order q m)) (none-take q cs i is)

  -- ---- what is found under a key

  pub found_in_changes : (q : K) (cs : Map K (Option V)) (base m : Map K V) (c r : Option V) → is_sorted order cs ≡ true → is_sorted order base ≡ true → with_changes order cs base ≡ m
      → r ≡ c → Some c ≡ at order q cs → r ≡ at order q m
  found_in_changes q cs base m c r hc hm view is there =
      is ∙ ap (λ o. unwrap_or o (at order q base)) there ∙ sym (at-changed q cs base hc hm) ∙ ap (at order q) view

  pub found_settled : (q : K) (cs : Map K (Option V)) (base m : Map K V) (r : Option V) → is_sorted order cs ≡ true → is_sorted order base ≡ true → with_changes order cs base ≡ m
      → r ≡ at order q base → None ≡ at order q cs → r ≡ at order q m
  found_settled q cs base m r hc hm view is there =
      is ∙ ap (λ o. unwrap_or o (at order q base)) there ∙ sym (at-changed q cs base hc hm) ∙ ap (at order q) view
