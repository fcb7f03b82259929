-- What is at a key after amounts were written.
use Rattle.std.proofs.Common.{◌≡◌, ℕ, ◌+◌, ◌<◌, Bool, true, false, refl, ap, sym, ◌∙◌, subst, List, [], ◌∷◌, length, get_or, take, Option, Some, None, Ordering, cond, is_eq, arith, ◌==◌, eqb-true, unwrap_or, if◌then◌else◌, ◌&&◌, Less, Equal, Greater}
use Rattle.std.specs.Cmp.{IsTotalOrder}
use Rattle.std.specs.Ordering.{ordering_then}
use Rattle.std.specs.Str.{bytes_eq}
use Rattle.std.proofs.lemmas.Map.Text.{is_eq-slice_cmp}
use Rattle.std.specs.BTreeMap.{is_at}
use Rattle.std.specs.FinMap.{is_sorted}
use Rattle.std.specs.List.{All}
use Rattle.std.specs.Map.{values_of}
use Rattle.std.proofs.lemmas.Bool.{eqb-false}
use Rattle.std.proofs.lemmas.Map.Views.{All-values-insert_entry, All-map-remove_entry}
use Rattle.std.proofs.lemmas.List.Sums.{fold_more}
use Rattle.ibc_ids.specs.Texts.{Text, same_text, text_cmp, pair_cmp}
use Rattle.ibc_ids.specs.Maps.{Map, at, with, without}
use Rattle.ibc_ids.proofs.Texts.{text_same, same_text_from, text_cmp_total, text_ties, text_tied}
use Rattle.ibc_machine.proofs.FiniteMaps.{TellsApart, is_equal, by_text, at-with}
use Rattle.ibc_machine.proofs.SortedMaps.{Sorted, Sorted-from, Sorted-to, Sorted-with, Sorted-without, at-without_same, at-without_other}
use Rattle.ibc_bank.specs.Amounts.{AreKept, amount_at, with_amount, with_amounts}

module _ {K : Type 0} {order : K → K → Ordering} (total : IsTotalOrder order) (o : TellsApart order) where
  -- ---- one write

  pub sorted-with_amount : (k : K) (n : ℕ) (m : Map K ℕ) → Sorted order m → Sorted order (with_amount order k n m)
  sorted-with_amount k n m sorted = go (n == 0)
    where
      go : (z : Bool) → Sorted order (if z then without order k m else with order k n m)
      go true = Sorted-without total o k m sorted
      go false = Sorted-with total o k n m sorted

  pub kept-with_amount : (k : K) (n : ℕ) (m : Map K ℕ) → AreKept order m → AreKept order (with_amount order k n m)
  kept-with_amount k n m kept = record {
    sorted = Sorted-to order _ (sorted-with_amount k n m (Sorted-from order m kept.sorted));
    above_0 = go (n == 0) refl;
  }
    where
      go : (z : Bool) → (n == 0) ≡ z → All (λ amount. 0 < amount) (values_of (if z then without order k m else with order k n m))
      go true is = All-map-remove_entry (is_at (order k)) (λ (e : K × ℕ). e.1) (λ amount. 0 < amount) m kept.above_0
      go false is = All-values-insert_entry order k n (λ amount. 0 < amount) m kept.above_0 (let some = eqb-false n 0 is in omega arith)

  -- the amount that was written, or the one before
  pub amount_at-with_amount : (k q : K) (n : ℕ) (m : Map K ℕ) → Sorted order m
      → amount_at order q (with_amount order k n m) ≡ cond (is_eq (order q k)) n (amount_at order q m)
  amount_at-with_amount k q n m sorted = go (n == 0) refl (is_eq (order q k)) refl
    where
      go : (z : Bool) → (n == 0) ≡ z → (b : Bool) → is_eq (order q k) ≡ b
          → unwrap_or (at order q (if z then without order k m else with order k n m)) 0 ≡ cond (is_eq (order q k)) n (amount_at order q m)
      go false is b was = ap (λ (x : Option ℕ). unwrap_or x 0) (at-with o k q n m) ∙ out (is_eq (order q k))
        where
          out : (c : Bool) → unwrap_or (cond c (Some n) (at order q m)) 0 ≡ cond c n (amount_at order q m)
          out true = refl
          out false = refl
      go true is true was =
          let same : q ≡ k = o.exact q k (is_equal (order q k) was) in
          let gone : at order q (without order k m) ≡ None = ap (λ x. at order x (without order k m)) same ∙ at-without_same total o k m sorted in
          ap (λ (x : Option ℕ). unwrap_or x 0) gone ∙ sym (eqb-true n 0 is) ∙ ap (λ c. cond c n (amount_at order q m)) (sym was)
      go true is false was =
          ap (λ (x : Option ℕ). unwrap_or x 0) (at-without_other total o k q m (λ same. apart same))
          ∙ ap (λ c. cond c n (amount_at order q m)) (sym was)
        where
          apart : q ≡ k → ⊥
          apart same = absurd (cc (was, ap is_eq (subst (λ x. order q x ≡ order q q) same refl), ap is_eq (o.self q)))

  -- ---- one write after another

  pub sorted-written : (changes : List (K × ℕ)) (m : Map K ℕ) → Sorted order m → Sorted order (with_amounts order changes m)
  sorted-written [] m sorted = sorted
  sorted-written (c ∷ cs) m sorted = sorted-written cs (with_amount order c.0 c.1 m) (sorted-with_amount c.0 c.1 m sorted)

  -- what is at a key after the changes up to a place and the one there
  pub after_more : (changes : List (K × ℕ)) (i : ℕ) (c : K × ℕ) → i < length changes → c ≡ get_or changes i c → (m : Map K ℕ) → is_sorted order m ≡ true
      → (q : K) → amount_at order q (with_amounts order (take (i + 1) changes) m) ≡ cond (is_eq (order q c.0)) c.1 (amount_at order q (with_amounts order (take i changes) m))
  after_more changes i c inside here m sorted q =
      ap (amount_at order q) (fold_more (λ (a : Map K ℕ) (d : K × ℕ). with_amount order d.0 d.1 a) m changes i c inside ∙ ap (λ (d : K × ℕ). with_amount order d.0 d.1 (with_amounts order (take i changes) m)) (sym here))
      ∙ amount_at-with_amount c.0 q c.1 (with_amounts order (take i changes) m) (sorted-written (take i changes) m (Sorted-from order m sorted))

-- ---- at denominations

-- what holds at the denomination that was written and at any other, holds at each
pub by_denom : (denom d : Text) (P : Bool → Text → Type 0) → P true denom → P false d → P (same_text denom d) d
by_denom denom d P here there = go (same_text denom d) refl
  where
    go : (t : Bool) → same_text denom d ≡ t → P t d
    go true is = subst (λ x. P true x) (text_same denom d is) here
    go false is = there

same_as_tied : (x y : Text) → is_eq (text_cmp y x) ≡ same_text x y
same_as_tied x y = go (is_eq (text_cmp y x)) refl (same_text x y) refl
  where
    go : (a : Bool) → is_eq (text_cmp y x) ≡ a → (b : Bool) → same_text x y ≡ b → a ≡ b
    go true is true was = refl
    go false is false was = refl
    go true is false was =
        let same : x ≡ y = sym (text_tied y x (is_equal (text_cmp y x) is)) in
        absurd (cc (was, same_text_from x y same))
    go false is true was =
        absurd (cc (is, ap is_eq (subst (λ z. text_cmp z x ≡ text_cmp x x) (text_same x y was) refl), ap is_eq (text_ties x)))

pub denom_amount : (denom d : Text) (n : ℕ) (m : Map Text ℕ) → is_sorted text_cmp m ≡ true
    → amount_at text_cmp d (with_amount text_cmp denom n m) ≡ (if same_text denom d then n else amount_at text_cmp d m)
denom_amount denom d n m sorted =
    amount_at-with_amount text_cmp_total by_text denom d n m (Sorted-from text_cmp m sorted)
    ∙ ap (λ b. cond b n (amount_at text_cmp d m)) (same_as_tied denom d)

-- the test of two texts, as the code makes it
pub tied_alike : (x y : Text) → is_eq (text_cmp x y) ≡ bytes_eq y x
tied_alike x y = same_as_tied y x ∙ both
  where
    both : same_text y x ≡ bytes_eq y x
    both = go (same_text y x) refl (bytes_eq y x) refl
      where
        go : (a : Bool) → same_text y x ≡ a → (b : Bool) → bytes_eq y x ≡ b → a ≡ b
        go true is true was = refl
        go false is false was = refl
        go true is false was = absurd (cc (was, ap (λ z. bytes_eq z x) (text_same y x is), sym (is_eq-slice_cmp x x), ap is_eq (text_ties x)))
        go false is true was = absurd (cc (is, same_text_from y x (text_tied y x (is_equal (text_cmp y x) (is_eq-slice_cmp y x ∙ was)))))

-- and that of two pairs
pub pairs_tied : (a b c d : Text) → is_eq (pair_cmp (a, b) (c, d)) ≡ (is_eq (text_cmp a c) && is_eq (text_cmp b d))
pairs_tied a b c d = go (text_cmp a c) (text_cmp b d)
  where
    go : (o p : Ordering) → is_eq (ordering_then o p) ≡ (is_eq o && is_eq p)
    go Less p = refl
    go Greater p = refl
    go Equal p = refl
