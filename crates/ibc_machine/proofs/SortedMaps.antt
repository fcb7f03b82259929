-- Maps in the order of their keys: they stay so, and what is taken out is gone.
use Rattle.std.proofs.Common.{◌≡◌, ℕ, Bool, true, false, refl, ap, sym, ◌∙◌, subst, List, [], ◌∷◌, Some, None, Ordering, Less, Equal, Greater, nat_cmp, cond, is_eq, is_lt, arith, ◌==◌, ◌||◌}
use Rattle.std.specs.Prelude.{⊤}
use Rattle.std.specs.Ordering.{match_ordering, ordering_reverse}
use Rattle.std.specs.BTreeMap.{is_at}
use Rattle.std.specs.Cmp.{IsTotalOrder}
use Rattle.std.specs.FinMap.{is_sorted}
use Rattle.std.specs.FinMap.Entries.{below_all}
use Rattle.std.proofs.lemmas.Bool.{and_parts, and_from}
use Rattle.ibc_ids.proofs.Texts.{lt_is_less}
use Rattle.ibc_ids.specs.Maps.{Map, at, with, without}
use Rattle.ibc_machine.specs.chain.Records.{is_one_of, with_number}
use Rattle.ibc_machine.proofs.FiniteMaps.{TellsApart, is_equal, by_number}

-- the key is below all others
abbrev pub Below : {K V : Type 0} → (K → K → Ordering) → K → Map K V → Type 0
Below order k [] = ⊤
Below order k (e ∷ es) = (order k e.0 ≡ Less) × Below order k es

abbrev pub Sorted : {K V : Type 0} → (K → K → Ordering) → Map K V → Type 0
Sorted order [] = ⊤
Sorted order (e ∷ es) = Below order e.0 es × Sorted order es

-- by the test of a map's keys
Below-from : {K V : Type 0} (order : K → K → Ordering) (k : K) (m : Map K V) → below_all order k m ≡ true → Below order k m
Below-from order k [] h = tt
Below-from order k (e ∷ es) h =
    let parts = and_parts (is_lt (order k e.0)) (below_all order k es) h in
    (lt_is_less (order k e.0) parts.0, Below-from order k es parts.1)

pub Sorted-from : {K V : Type 0} (order : K → K → Ordering) (m : Map K V) → is_sorted order m ≡ true → Sorted order m
Sorted-from order [] h = tt
Sorted-from order (e ∷ es) h =
    let parts = and_parts (below_all order e.0 es) (is_sorted order es) h in
    (Below-from order e.0 es parts.0, Sorted-from order es parts.1)

Below-to : {K V : Type 0} (order : K → K → Ordering) (k : K) (m : Map K V) → Below order k m → below_all order k m ≡ true
Below-to order k [] h = refl
Below-to order k (e ∷ es) h = and_from (is_lt (order k e.0)) (below_all order k es) (ap is_lt h.0) (Below-to order k es h.1)

pub Sorted-to : {K V : Type 0} (order : K → K → Ordering) (m : Map K V) → Sorted order m → is_sorted order m ≡ true
Sorted-to order [] h = refl
Sorted-to order (e ∷ es) h = and_from (below_all order e.0 es) (is_sorted order es) (Below-to order e.0 es h.0) (Sorted-to order es h.1)

less_is_not_equal : {o : Ordering} → o ≡ Less → is_eq o ≡ false
less_is_not_equal e = ap is_eq e

module _ {K : Type 0} {order : K → K → Ordering} (total : IsTotalOrder order) (o : TellsApart order) where
  pub Below-less : {V : Type 0} (j k : K) (m : Map K V) → order j k ≡ Less → Below order k m → Below order j m
  Below-less j k [] less below = tt
  Below-less j k (e ∷ es) less below = (total.trans j k e.0 less below.0, Below-less j k es less below.1)

  Below-with : {V : Type 0} (j k : K) (v : V) (m : Map K V) → order j k ≡ Less → Below order j m → Below order j (with order k v m)
  Below-with j k v [] less below = (less, tt)
  Below-with {V} j k v (e ∷ es) less below = go (Below-with j k v es less below.1) (order k e.0)
    where
      go : Below order j (with order k v es) → (p : Ordering)
          → Below order j (match_ordering p ((k, v) ∷ e ∷ es) ((e.0, v) ∷ es) (e ∷ with order k v es))
      go ih Less = (less, below)
      go ih Equal = (below.0, below.1)
      go ih Greater = (below.0, ih)

  pub Sorted-with : {V : Type 0} (k : K) (v : V) (m : Map K V) → Sorted order m → Sorted order (with order k v m)
  Sorted-with k v [] s = (tt, tt)
  Sorted-with {V} k v (e ∷ es) s = go (Sorted-with k v es s.1) (order k e.0) refl
    where
      go : Sorted order (with order k v es) → (p : Ordering) → order k e.0 ≡ p
          → Sorted order (match_ordering p ((k, v) ∷ e ∷ es) ((e.0, v) ∷ es) (e ∷ with order k v es))
      go ih Less is = ((is, Below-less k e.0 es is s.0), s)
      go ih Equal is = s
      go ih Greater is = (Below-with e.0 k v es (total.antisymm e.0 k ∙ ap ordering_reverse is) s.0, ih)

  Below-without : {V : Type 0} (j k : K) (m : Map K V) → Below order j m → Below order j (without order k m)
  Below-without j k [] below = tt
  Below-without {V} j k (e ∷ es) below = go (Below-without j k es below.1) (is_at (order k) e.0)
    where
      go : Below order j (without order k es) → (b : Bool) → Below order j (cond b es (e ∷ without order k es))
      go ih true = below.1
      go ih false = (below.0, ih)

  pub Sorted-without : {V : Type 0} (k : K) (m : Map K V) → Sorted order m → Sorted order (without order k m)
  Sorted-without k [] s = tt
  Sorted-without {V} k (e ∷ es) s = go (Sorted-without k es s.1) (is_at (order k) e.0)
    where
      go : Sorted order (without order k es) → (b : Bool) → Sorted order (cond b es (e ∷ without order k es))
      go ih true = s.1
      go ih false = (Below-without e.0 k es s.0, ih)

  pub at-below : {V : Type 0} (k : K) (m : Map K V) → Below order k m → at order k m ≡ None
  at-below k [] below = refl
  at-below {V} k (e ∷ es) below =
      ap (λ b. cond b (Some e.1) (at order k es)) (less_is_not_equal below.0) ∙ at-below k es below.1

  -- what is taken out is gone
  pub at-without_same : {V : Type 0} (k : K) (m : Map K V) → Sorted order m → at order k (without order k m) ≡ None
  at-without_same k [] s = refl
  at-without_same {V} k (e ∷ es) s = go (at-without_same k es s.1) (is_at (order k) e.0) refl
    where
      go : at order k (without order k es) ≡ None → (b : Bool) → is_at (order k) e.0 ≡ b
          → at order k (cond b es (e ∷ without order k es)) ≡ None
      go ih true is =
          let same : k ≡ e.0 = o.exact k e.0 (is_equal (order k e.0) is) in
          at-below k es (subst (λ x. Below order x es) (sym same) s.0)
      go ih false is = ap (λ b. cond b (Some e.1) (at order k (without order k es))) is ∙ ih

  -- the others stay
  pub at-without_other : {V : Type 0} (k q : K) (m : Map K V) → (q ≡ k → ⊥) → at order q (without order k m) ≡ at order q m
  at-without_other k q [] other = refl
  at-without_other {V} k q (e ∷ es) other = go (at-without_other k q es other) (is_at (order k) e.0) refl (is_at (order q) e.0) refl
    where
      go : at order q (without order k es) ≡ at order q es → (b : Bool) → is_at (order k) e.0 ≡ b → (c : Bool) → is_at (order q) e.0 ≡ c
          → at order q (cond b es (e ∷ without order k es)) ≡ cond (is_at (order q) e.0) (Some e.1) (at order q es)
      go ih true is true was = absurd (other (o.exact q e.0 (is_equal (order q e.0) was) ∙ sym (o.exact k e.0 (is_equal (order k e.0) is))))
      go ih true is false was = ap (λ b. cond b (Some e.1) (at order q es)) (sym was)
      go ih false is c was = ap (λ m. cond (is_at (order q) e.0) (Some e.1) m) ih

-- ---- sets of numbers

or_again : (a b : Bool) → (a || b) ≡ (a || (a || b))
or_again true b = refl
or_again false b = refl

or_swap : (a b c : Bool) → (a || (b || c)) ≡ (b || (a || c))
or_swap true true c = refl
or_swap true false c = refl
or_swap false b c = refl

-- an added number is there, and no other that wasn't
pub is_one_of-added : (n k : ℕ) (ks : List ℕ) → is_one_of (with_number n ks) k ≡ ((n == k) || is_one_of ks k)
is_one_of-added n k [] = refl
is_one_of-added n k (x ∷ xs) = go (is_one_of-added n k xs) (nat_cmp n x) refl
  where
    go : is_one_of (with_number n xs) k ≡ ((n == k) || is_one_of xs k) → (p : Ordering) → nat_cmp n x ≡ p
        → is_one_of (match_ordering p (n ∷ x ∷ xs) (x ∷ xs) (x ∷ with_number n xs)) k ≡ ((n == k) || ((x == k) || is_one_of xs k))
    go ih Less is = refl
    go ih Equal is = subst (λ y. ((x == k) || is_one_of xs k) ≡ ((y == k) || ((x == k) || is_one_of xs k))) (sym (by_number.exact n x is)) (or_again (x == k) (is_one_of xs k))
    go ih Greater is = ap (λ b. (x == k) || b) ih ∙ or_swap (x == k) (n == k) (is_one_of xs k)

or_true : (a b : Bool) → b ≡ true → (a || b) ≡ true
or_true true b e = refl
or_true false b e = e

pub added_kept : (n k : ℕ) (ks : List ℕ) → is_one_of ks k ≡ true → is_one_of (with_number n ks) k ≡ true
added_kept n k ks e = is_one_of-added n k ks ∙ or_true (n == k) (is_one_of ks k) e

eqb-refl : (n : ℕ) → (n == n) ≡ true
eqb-refl n = grind arith

pub added_there : (n : ℕ) (ks : List ℕ) → is_one_of (with_number n ks) n ≡ true
added_there n ks = is_one_of-added n n ks ∙ ap (λ b. b || is_one_of ks n) (eqb-refl n)
