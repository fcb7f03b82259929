-- The balances of a start don't depend on the order in which its holdings are set, since none is there twice.
use Rattle.std.proofs.Common.{◌≡◌, ◌∙◌, ◌⊎◌, inl, inr, ℕ, suc, zero, ◌+◌, ◌<◌, ◌≤◌, ◌^◌, ◌&&◌, Bool, true, false, cond, eqb, ltb, List, [], ◌∷◌, length, get_or, take, refl, sym, ap, arith, Option, Some, None, unwrap_or, is_eq, eqb-true}
use Rattle.std.specs.List.{All, list_all, count_by, sum_by, fold}
use Rattle.std.specs.List.Sorted.{IsPermutation}
use Rattle.std.specs.Map.{values_of}
use Rattle.std.proofs.lemmas.Bool.{and_parts, and_from}
use Rattle.std.proofs.lemmas.List.Sorted.{sum_by-IsPermutation}
use Rattle.std.proofs.lemmas.List.Sums.{sum_by-cons, fold_more, AllPass-from_list_all}
use Rattle.ibc_ids.specs.Texts.{Text, same_text, pair_cmp}
use Rattle.ibc_ids.specs.Maps.{at}
use Rattle.ibc_ids.specs.Names.{is_user, is_base_denom}
use Rattle.ibc_ids.proofs.Texts.{text_same, same_text_from}
use Rattle.ibc_machine.specs.chain.Genesis.{Holding, starting_balances, is_same_holding, is_fair, total_of}
use Rattle.ibc_machine.specs.ics20.Bank.{Balances, with_balance}
use Rattle.ibc_machine.proofs.FiniteMaps.{is_equal, by_pair, pair_cmp_total}
use Rattle.ibc_machine.proofs.SortedMaps.{Sorted, Sorted-from}
use Rattle.ibc_maps.proofs.Sorted.{rising_from_sorted}
use Rattle.ibc_maps.proofs.Orders.{same_pairs}
use Rattle.ibc_bank.specs.Amounts.{AreKept, amount_at}
use Rattle.ibc_bank.proofs.AnyOrder.{same_answer}
use Rattle.ibc_bank.proofs.Writes.{kept-with_amount, amount_at-with_amount}

abbrev Key : Type 0
Key = Text × Text

abbrev key_of : Holding → Key
key_of h = (h.0, h.1)

abbrev put : Balances → Holding → Balances
put balances holding = with_balance holding.0 holding.1 holding.2 balances

abbrev is_at : Key → Holding → Bool
is_at q h = is_eq (pair_cmp q (key_of h))

abbrev one_at : Key → Holding → ℕ
one_at q h = cond (is_at q h) 1 0

abbrev part_at : Key → Holding → ℕ
part_at q h = cond (is_at q h) h.2 0

-- ---- what is at a key after all were set

put_kept : (h : Holding) (b : Balances) → AreKept pair_cmp b → AreKept pair_cmp (put b h)
put_kept h b kept = kept-with_amount pair_cmp_total by_pair (key_of h) h.2 b kept

all_kept : (hs : List Holding) (b : Balances) → AreKept pair_cmp b → AreKept pair_cmp (fold put b hs)
all_kept [] b kept = kept
all_kept (h ∷ hs) b kept = all_kept hs (put b h) (put_kept h b kept)

put_at : (h : Holding) (b : Balances) (q : Key) → AreKept pair_cmp b → amount_at pair_cmp q (put b h) ≡ cond (is_at q h) h.2 (amount_at pair_cmp q b)
put_at h b q kept = amount_at-with_amount pair_cmp_total by_pair (key_of h) q h.2 b (Sorted-from pair_cmp b kept.sorted)

-- the first holding counts where it is at the key
counted : (h : Holding) (hs : List Holding) (q : Key) (t : Bool) → is_at q h ≡ t → count_by (is_at q) (h ∷ hs) ≡ cond t 1 0 + count_by (is_at q) hs
counted h hs q t is = sum_by-cons (one_at q) h hs ∙ ap (λ x. cond x 1 0 + count_by (is_at q) hs) is

summed : (h : Holding) (hs : List Holding) (q : Key) (t : Bool) → is_at q h ≡ t → sum_by (part_at q) (h ∷ hs) ≡ cond t h.2 0 + sum_by (part_at q) hs
summed h hs q t is = sum_by-cons (part_at q) h hs ∙ ap (λ x. cond x h.2 0 + sum_by (part_at q) hs) is

-- where none is set at a key, the amount there stays
stays : (hs : List Holding) (b : Balances) (q : Key) → AreKept pair_cmp b → count_by (is_at q) hs ≡ 0
    → (amount_at pair_cmp q (fold put b hs) ≡ amount_at pair_cmp q b) × (sum_by (part_at q) hs ≡ 0)
stays [] b q kept none = (refl, refl)
stays (h ∷ hs) b q kept none = go (is_at q h) refl (λ others. stays hs (put b h) q (put_kept h b kept) others)
  where
    go : (t : Bool) → is_at q h ≡ t → (count_by (is_at q) hs ≡ 0 → (amount_at pair_cmp q (fold put (put b h) hs) ≡ amount_at pair_cmp q (put b h)) × (sum_by (part_at q) hs ≡ 0))
        → (amount_at pair_cmp q (fold put (put b h) hs) ≡ amount_at pair_cmp q b) × (sum_by (part_at q) (h ∷ hs) ≡ 0)
    go true is further = absurd (omega (arith, none, counted h hs q true is))
    go false is further =
        let rest = further (omega (arith, none, counted h hs q false is)) in
        (rest.0 ∙ put_at h b q kept ∙ ap (λ x. cond x h.2 (amount_at pair_cmp q b)) is, omega (arith, rest.1, summed h hs q false is))

-- where one at most is set at a key, the amount there is the sum of what is set there
becomes : (hs : List Holding) (b : Balances) (q : Key) → AreKept pair_cmp b → amount_at pair_cmp q b ≡ 0 → count_by (is_at q) hs ≤ 1
    → amount_at pair_cmp q (fold put b hs) ≡ sum_by (part_at q) hs
becomes [] b q kept none once = none
becomes (h ∷ hs) b q kept none once = go (is_at q h) refl (λ zero_there few. becomes hs (put b h) q (put_kept h b kept) zero_there few)
  where
    go : (t : Bool) → is_at q h ≡ t → (amount_at pair_cmp q (put b h) ≡ 0 → count_by (is_at q) hs ≤ 1 → amount_at pair_cmp q (fold put (put b h) hs) ≡ sum_by (part_at q) hs)
        → amount_at pair_cmp q (fold put (put b h) hs) ≡ sum_by (part_at q) (h ∷ hs)
    go true is further =
        let rest = stays hs (put b h) q (put_kept h b kept) (omega (arith, once, counted h hs q true is)) in
        let here : amount_at pair_cmp q (put b h) ≡ h.2 = put_at h b q kept ∙ ap (λ x. cond x h.2 (amount_at pair_cmp q b)) is in
        omega (arith, rest.0, rest.1, here, summed h hs q true is)
    go false is further =
        let here : amount_at pair_cmp q (put b h) ≡ 0 = put_at h b q kept ∙ ap (λ x. cond x h.2 (amount_at pair_cmp q b)) is ∙ none in
        let rest = further here (omega (arith, once, counted h hs q false is)) in
        omega (arith, rest, summed h hs q false is)

-- ---- fair holdings are at a key once at most

some_or_none : (p : Holding → Bool) (hs : List Holding) → (count_by p hs ≡ 0) ⊎ ((k : ℕ) × (k < length hs) × ((d : Holding) → p (get_or hs k d) ≡ true))
some_or_none p [] = inl refl
some_or_none p (h ∷ hs) = go (p h) refl (some_or_none p hs)
  where
    go : (t : Bool) → p h ≡ t → (count_by p hs ≡ 0) ⊎ ((k : ℕ) × (k < length hs) × ((d : Holding) → p (get_or hs k d) ≡ true))
        → (count_by p (h ∷ hs) ≡ 0) ⊎ ((k : ℕ) × (k < length (h ∷ hs)) × ((d : Holding) → p (get_or (h ∷ hs) k d) ≡ true))
    go true is rest = inr (zero, omega arith, λ d. is)
    go false is (inl none) = let e : count_by p (h ∷ hs) ≡ 0 + count_by p hs = sum_by-cons (λ x. cond (p x) 1 0) h hs ∙ ap (λ x. cond x 1 0 + count_by p hs) is in inl (omega (arith, e, none))
    go false is (inr found) = inr (suc found.0, omega (arith, found.1), found.2)

same_keys : (q : Key) (h : Holding) → is_at q h ≡ true → q ≡ key_of h
same_keys q h is = by_pair.exact q (key_of h) (is_equal (pair_cmp q (key_of h)) is)

at_itself : (q : Key) (h : Holding) → q ≡ key_of h → is_at q h ≡ true
at_itself q h is = ap is_eq (ap (λ x. pair_cmp x (key_of h)) is ∙ by_pair.self (key_of h))

holding_at : (h x : Holding) → is_same_holding h x ≡ is_at (key_of h) x
holding_at h x =
    same_answer (is_same_holding h x) (is_at (key_of h) x)
    (λ e. let parts = and_parts (same_text h.0 x.0) (same_text h.1 x.1) e in
    let user = text_same h.0 x.0 parts.0 in
    let denom = text_same h.1 x.1 parts.1 in
    at_itself (key_of h) x (λ i. (user i, denom i)))
    (λ e. let same = same_keys (key_of h) x e in
    and_from (same_text h.0 x.0) (same_text h.1 x.1) (same_text_from h.0 x.0 (ap (λ (k : Key). k.0) same)) (same_text_from h.1 x.1 (ap (λ (k : Key). k.1) same)))

module _ (hs : List Holding) (fair : list_all (is_fair hs) hs ≡ true) where
  once_each : (k : ℕ) (d : Holding) → k < length hs → count_by (is_same_holding (get_or hs k d)) hs ≡ 1
  once_each k d inside =
      let h = get_or hs k d in
      let ok = AllPass-from_list_all (is_fair hs) hs fair k d inside in
      let three = (and_parts ((is_user h.0 && is_base_denom h.1) && eqb (count_by (is_same_holding h) hs) 1) (ltb (total_of h.1 hs) (2 ^ 128)) ok).0 in
      eqb-true (count_by (is_same_holding h) hs) 1 (and_parts (is_user h.0 && is_base_denom h.1) (eqb (count_by (is_same_holding h) hs) 1) three).1

  once : (q : Key) → count_by (is_at q) hs ≤ 1
  once q = go (some_or_none (is_at q) hs)
    where
      go : (count_by (is_at q) hs ≡ 0) ⊎ ((k : ℕ) × (k < length hs) × ((d : Holding) → is_at q (get_or hs k d) ≡ true)) → count_by (is_at q) hs ≤ 1
      go (inl none) = omega arith
      go (inr found) =
          let d : Holding = ([], [], 0) in
          let h = get_or hs found.0 d in
          let key = same_keys q h (found.2 d) in
          let tests : is_same_holding h ≡ is_at q = λ i x. (holding_at h x ∙ ap (λ k. is_at k x) (sym key)) i in
          let one : count_by (is_at q) hs ≡ 1 = ap (λ p. count_by p hs) (sym tests) ∙ once_each found.0 d found.1 in
          omega arith

-- ---- the same amounts are the same pairs

positive : (m : Balances) (q : Key) (v : ℕ) → All (λ amount. 0 < amount) (values_of m) → at pair_cmp q m ≡ Some v → 0 < v
positive [] q v above is = absurd (cc is)
positive (e ∷ es) q v above is = go (is_eq (pair_cmp q e.0)) refl (positive es q v (λ k d inside. above (suc k) d (omega arith)))
  where
    some_is : (x y : ℕ) → ◌≡◌ {A = Option ℕ} (Some x) (Some y) → x ≡ y
    some_is x y same = cc same

    go : (t : Bool) → is_eq (pair_cmp q e.0) ≡ t → (at pair_cmp q es ≡ Some v → 0 < v) → 0 < v
    go true here rest =
        let first : 0 < e.1 = above 0 0 (omega arith) in
        let same : e.1 ≡ v = some_is e.1 v (sym (ap (λ b. cond b (Some e.1) (at pair_cmp q es)) here) ∙ is) in
        omega arith
    go false other rest = rest (sym (ap (λ b. cond b (Some e.1) (at pair_cmp q es)) other) ∙ is)

same_option : (o p : Option ℕ) → ((v : ℕ) → o ≡ Some v → 0 < v) → ((v : ℕ) → p ≡ Some v → 0 < v) → unwrap_or o 0 ≡ unwrap_or p 0 → o ≡ p
same_option None None f g e = refl
same_option None (Some y) f g e = absurd (omega (arith, g y refl, e))
same_option (Some x) None f g e = absurd (omega (arith, f x refl, e))
same_option (Some x) (Some y) f g e = ap (λ (v : ℕ). Some v) e

same_balances : (a b : Balances) → AreKept pair_cmp a → AreKept pair_cmp b → ((q : Key) → amount_at pair_cmp q a ≡ amount_at pair_cmp q b) → a ≡ b
same_balances a b first second alike =
    same_pairs pair_cmp_total by_pair.exact a b (rising_from_sorted pair_cmp a first.sorted) (rising_from_sorted pair_cmp b second.sorted)
    (λ q. same_option (at pair_cmp q a) (at pair_cmp q b) (λ v. positive a q v first.above_0) (λ v. positive b q v second.above_0) (alike q))

none_kept : AreKept {K = Key} pair_cmp []
none_kept = record { sorted = refl; above_0 = λ k d inside. absurd (omega arith) }

pub start_in_any_order : (xs ys : List Holding) → IsPermutation xs ys → list_all (is_fair xs) xs ≡ true → list_all (is_fair ys) ys ≡ true → starting_balances ys ≡ starting_balances xs
start_in_any_order xs ys same fair_xs fair_ys =
    same_balances (starting_balances ys) (starting_balances xs) (all_kept ys [] none_kept) (all_kept xs [] none_kept)
    (λ q. becomes ys [] q none_kept refl (once ys fair_ys q) ∙ sum_by-IsPermutation (part_at q) xs ys same ∙ sym (becomes xs [] q none_kept refl (once xs fair_xs q)))

-- one more is set
pub started_more : (hs : List Holding) (i : ℕ) (h : Holding) → i < length hs → ((d : Holding) → get_or hs i d ≡ h) → (old new : Balances) → old ≡ starting_balances (take i hs) → new ≡ put old h
    → new ≡ starting_balances (take (i + 1) hs)
started_more hs i h inside here old new before is =
    is ∙ ap (λ b. put b h) before ∙ sym (fold_more put [] hs i h inside ∙ ap (put (starting_balances (take i hs))) (here h))
