-- Sorted holdings: those of one denomination stand in a row, and the same ones next to each other.
use Rattle.std.proofs.Common.{◌≡◌, ◌∙◌, ℕ, Bool, ◌+◌, ◌-◌, ◌<◌, ◌≤◌, ◌^◌, ◌&&◌, true, false, cond, eqb, ltb, List, [], ◌∷◌, length, get_or, take, drop, refl, sym, ap, subst, arith, Ordering, Less, Equal, Greater, is_lt, is_eq, suc, zero}
use Rattle.std.proofs.Common.{eq-eqb, ne_eqb, not, Option, Some, None}
use Rattle.std.specs.Prelude.{IfSome, IfNone}
use Rattle.std.specs.Option.{SomeIff}
use Rattle.std.specs.Str.{bytes_eq}
use Rattle.std.specs.Prelude.{count_by}
use Rattle.std.proofs.lemmas.List.{get_or-map, take_all, length-map, take-append-drop}
use borrow.Author.Count.{below_more}
use Rattle.std.specs.List.{sum_by, list_all}
use Rattle.std.specs.List.Sorted.{IsSorted, IsSortedBy}
use Rattle.std.specs.Cmp.{IsTotalOrder}
use Rattle.std.specs.Ordering.{ordering_index, ordering_then, nat_cmp}
use Rattle.std.proofs.lemmas.Bool.{and_parts, and_from, false≢true, le-ltb, lt-ltb}
use Rattle.std.proofs.lemmas.Cmp.{tied_itself, on_total, then_total}
use Rattle.std.proofs.lemmas.List.Folds.{list_all_at, list_all-append}
use Rattle.std.proofs.lemmas.List.Sorted.{searchable_from_sorted}
use Rattle.std.proofs.lemmas.List.Sums.{sum_by-cons, sum_by_more, sum_by_more_le, count_by_more_yes, count_by_more_no, AllPass-from_list_all, list_all-from_AllPass}
use Rattle.ibc_ids.specs.Texts.{Text, same_text, text_cmp}
use Rattle.ibc_ids.specs.Names.{is_user, is_base_denom}
use Rattle.ibc_ids.proofs.Texts.{text_same, same_text_itself, same_text_from, text_cmp_total, text_tied, text_ties}
use Rattle.ibc_machine.specs.chain.Genesis.{Holding, is_same_holding, is_fair, total_of}
use Rattle.ibc_bank.proofs.AnyOrder.{same_answer}
use Rattle.ibc_ledger.specs.SortedHoldings.{AreSorted, AreFairSoFar, IsStanding, holding_cmp, shown, all_shown, are_base}
use Rattle.ibc_ledger.specs.declared.sorted_holdings.DenomHolding.{DenomHolding}

-- ---- tests and orders

equal_from : (o : Ordering) → is_eq o ≡ true → o ≡ Equal
equal_from Equal e = refl
equal_from Less e = absurd (false≢true e)
equal_from Greater e = absurd (false≢true e)

tied_first : (o p : Ordering) → ordering_then o p ≡ Equal → o ≡ Equal
tied_first Equal p e = refl
tied_first Less p e = absurd (cc)
tied_first Greater p e = absurd (cc)

tied_second : (o p : Ordering) → ordering_then o p ≡ Equal → p ≡ Equal
tied_second Equal p e = e
tied_second Less p e = absurd (cc)
tied_second Greater p e = absurd (cc)

not_less_first : (o p : Ordering) → is_lt (ordering_then o p) ≡ false → is_lt o ≡ false
not_less_first Equal p e = refl
not_less_first Less p e = e
not_less_first Greater p e = refl

-- what is no higher than q isn't tied either, where q is below what is tied
below_one : (p q r : Ordering) → ordering_index p ≤ ordering_index q → ordering_index q ≤ ordering_index r → r ≡ Equal → is_eq q ≡ false → is_eq p ≡ false
below_one Less q r a b e f = refl
below_one Greater q r a b e f = refl
below_one Equal Less r a b e f = absurd (omega arith)
below_one Equal Equal r a b e f = absurd (false≢true (sym f))
below_one Equal Greater r a b e f = absurd (omega (arith, ap ordering_index e))

-- where the one before isn't tied with the one at place i, none before is
module _ {X K : Type 0} {R : K → K → Ordering} (order : IsTotalOrder R) (key : X → K) (row : List X) (sorted : IsSortedBy (λ a b. is_lt (R (key a) (key b))) row) where
  apart : (i : ℕ) (d : X) → 0 < i → i < length row → is_eq (R (key (get_or row (i - 1) d)) (key (get_or row i d))) ≡ false
      → (k : ℕ) → k < i → is_eq (R (key (get_or row k d)) (key (get_or row i d))) ≡ false
  apart i d some inside differ k below =
      let x = key (get_or row i d) in
      let rising = searchable_from_sorted order key row x sorted in
      let first = rising k (i - 1) d (omega arith) (omega arith) in
      let second = rising (i - 1) i d (omega arith) inside in
      below_one (R (key (get_or row k d)) x) (R (key (get_or row (i - 1) d)) x) (R x x) first second (tied_itself order x) differ

denoms_total : IsTotalOrder (λ (a b : Holding). text_cmp a.1 b.1)
denoms_total = on_total (λ (h : Holding). h.1) text_cmp_total

pub holding_total : IsTotalOrder holding_cmp
holding_total = then_total denoms_total (on_total (λ (h : Holding). h.0) text_cmp_total)

by_denom : (row : List Holding) → AreSorted row → IsSortedBy (λ (a b : Holding). is_lt (text_cmp a.1 b.1)) row
by_denom row sorted k d low high =
    not_less_first (text_cmp (get_or row (k + 1) d).1 (get_or row k d).1) (text_cmp (get_or row (k + 1) d).0 (get_or row k d).0) (sorted k d low high)

denoms_tied : (a b : Text) → is_eq (text_cmp a b) ≡ same_text a b
denoms_tied a b = same_answer (is_eq (text_cmp a b)) (same_text a b) (λ e. same_text_from a b (text_tied a b (equal_from (text_cmp a b) e)))
    (λ e. let same = text_same a b e in ap is_eq (ap (text_cmp a) (sym same) ∙ text_ties a))

same_swap : (a b : Text) → same_text a b ≡ same_text b a
same_swap a b = same_answer (same_text a b) (same_text b a) (λ e. same_text_from b a (sym (text_same a b e))) (λ e. same_text_from a b (sym (text_same b a e)))

holdings_tied : (a b : Holding) → is_eq (holding_cmp a b) ≡ is_same_holding b a
holdings_tied a b =
    same_answer (is_eq (holding_cmp a b)) (is_same_holding b a)
    (λ e. let tie = equal_from (holding_cmp a b) e in
    let denom = text_tied a.1 b.1 (tied_first (text_cmp a.1 b.1) (text_cmp a.0 b.0) tie) in
    let user = text_tied a.0 b.0 (tied_second (text_cmp a.1 b.1) (text_cmp a.0 b.0) tie) in
    and_from (same_text b.0 a.0) (same_text b.1 a.1) (same_text_from b.0 a.0 (sym user)) (same_text_from b.1 a.1 (sym denom)))
    (λ e. let parts = and_parts (same_text b.0 a.0) (same_text b.1 a.1) e in
    let user : text_cmp a.0 b.0 ≡ Equal = ap (text_cmp a.0) (text_same b.0 a.0 parts.0) ∙ text_ties a.0 in
    let denom : text_cmp a.1 b.1 ≡ Equal = ap (text_cmp a.1) (text_same b.1 a.1 parts.1) ∙ text_ties a.1 in
    ap is_eq (ap (λ o. ordering_then o (text_cmp a.0 b.0)) denom ∙ user))

-- ---- sums of the first i

none_yet : {X : Type 0} (f : X → ℕ) (i : ℕ) (xs : List X) (d : X) → i ≤ length xs → ((k : ℕ) → k < i → f (get_or xs k d) ≡ 0) → sum_by f (take i xs) ≡ 0
none_yet f zero xs d within none = refl
none_yet f (suc i) [] d within none = absurd (omega arith)
none_yet f (suc i) (x ∷ xs) d within none =
    let here = none 0 (omega arith) in
    let rest = none_yet f i xs d (omega arith) (λ k below. none (suc k) (omega arith)) in
    sum_by-cons f x (take i xs) ∙ omega (arith, here, rest)

-- what a test of two texts says
bytes_eq-same : (x y : Text) → bytes_eq x y ≡ same_text x y
bytes_eq-same [] [] = refl
bytes_eq-same [] (y ∷ ys) = refl
bytes_eq-same (x ∷ xs) [] = refl
bytes_eq-same (x ∷ xs) (y ∷ ys) = ap (λ b. eqb x y && b) (bytes_eq-same xs ys)

flipped : (a b : Bool) → a ≡ not b → b ≡ not a
flipped true true e = absurd (false≢true (sym e))
flipped true false e = refl
flipped false true e = refl
flipped false false e = absurd (false≢true e)

pub text_answer : (a : Bool) (x y : Text) → a ≡ not (bytes_eq x y) → same_text x y ≡ not a
text_answer a x y e = sym (bytes_eq-same x y) ∙ flipped a (bytes_eq x y) e

-- ---- unfair holdings

fails_single : (a b c e : Bool) → c ≡ false → (((a && b) && c) && e) ≡ false
fails_single false b c e is = refl
fails_single true false c e is = refl
fails_single true true false e is = refl
fails_single true true true e is = absurd (false≢true (sym is))

fails_small : (a b c e : Bool) → e ≡ false → (((a && b) && c) && e) ≡ false
fails_small false b c e is = refl
fails_small true false c e is = refl
fails_small true true false e is = refl
fails_small true true true false is = refl
fails_small true true true true is = absurd (false≢true (sym is))

passes_all : (a b c e : Bool) → a ≡ true → b ≡ true → c ≡ true → e ≡ true → (((a && b) && c) && e) ≡ true
passes_all a b c e is_a is_b is_c is_e = and_from ((a && b) && c) e (and_from (a && b) c (and_from a b is_a is_b) is_c) is_e

fails_second : (a b : Bool) → b ≡ false → (a && b) ≡ false
fails_second false b is = refl
fails_second true b is = is

fails_first : (a b : Bool) → a ≡ false → (a && b) ≡ false
fails_first false b is = refl
fails_first true b is = absurd (false≢true (sym is))

abbrev amount : Text → Holding → ℕ
amount denom h = cond (same_text h.1 denom) h.2 0

abbrev one_if_same : Holding → Holding → ℕ
one_if_same h other = cond (is_same_holding h other) 1 0

abbrev are_fair : List Holding → Bool
are_fair row = list_all (is_fair row) row

module _ (row : List Holding) (i : ℕ) (h : Holding) (inside : i < length row) (here : (d : Holding) → get_or row i d ≡ h) where
  unfair : is_fair row h ≡ false → are_fair row ≡ false
  unfair is = list_all_at (is_fair row) row i h inside (ap (is_fair row) (here h) ∙ is)

  same_itself : is_same_holding h h ≡ true
  same_itself = and_from (same_text h.0 h.0) (same_text h.1 h.1) (same_text_itself h.0) (same_text_itself h.1)

  -- the one before is the same
  pub twice : (b : Holding) → 0 < i → ((d : Holding) → get_or row (i - 1) d ≡ b) → same_text b.0 h.0 ≡ true → same_text b.1 h.1 ≡ true → are_fair row ≡ false
  twice b some before users denoms =
      let same : is_same_holding h b ≡ true = and_from (same_text h.0 b.0) (same_text h.1 b.1) (same_swap h.0 b.0 ∙ users) (same_swap h.1 b.1 ∙ denoms) in
      let place : i - 1 + 1 ≡ i = omega arith in
      let within = sum_by_more_le (one_if_same h) row i h inside in
      let own : one_if_same h (get_or row i h) ≡ 1 = ap (one_if_same h) (here h) ∙ ap (λ x. cond x 1 0) same_itself in
      let one_more = sum_by_more (one_if_same h) row (i - 1) h (omega arith) in
      let other : one_if_same h (get_or row (i - 1) h) ≡ 1 = ap (one_if_same h) (before h) ∙ ap (λ x. cond x 1 0) same in
      let grown = subst (λ k. sum_by (one_if_same h) (take k row) ≡ sum_by (one_if_same h) (take (i - 1) row) + one_if_same h (get_or row (i - 1) h)) place one_more in
      let two : 2 ≤ count_by (is_same_holding h) row = omega (arith, within, own, grown, other) in
      unfair (fails_single (is_user h.0) (is_base_denom h.1) (eqb (count_by (is_same_holding h) row) 1) (ltb (total_of h.1 row) (2 ^ 128)) (ne_eqb (count_by (is_same_holding h) row) 1 (λ e. omega (arith, e, two))))

  pub standing_total : (t : ℕ) → IsStanding row i t → t ≡ total_of h.1 (take i row)
  standing_total t standing = standing.counted h ∙ ap (λ x. total_of x.1 (take i row)) (here h)

  own_amount : amount h.1 (get_or row i h) ≡ h.2
  own_amount = ap (amount h.1) (here h) ∙ ap (λ x. cond x h.2 0) (same_text_itself h.1)

  -- the amounts don't fit
  pub too_large : (t : ℕ) → IsStanding row i t → 2 ^ 128 ≤ t + h.2 → are_fair row ≡ false
  too_large t standing large =
      let so_far = standing_total t standing in
      let within = sum_by_more_le (amount h.1) row i h inside in
      let past : 2 ^ 128 ≤ total_of h.1 row = omega (arith, so_far, within, own_amount, large) in
      unfair (fails_small (is_user h.0) (is_base_denom h.1) (eqb (count_by (is_same_holding h) row) 1) (ltb (total_of h.1 row) (2 ^ 128)) (le-ltb (total_of h.1 row) (2 ^ 128) past))

  -- ---- what the holdings before come to

  -- the one before is of another denomination
  pub stands_apart : (b : Holding) → AreSorted row → 0 < i → ((d : Holding) → get_or row (i - 1) d ≡ b) → same_text b.1 h.1 ≡ false → IsStanding row i 0
  stands_apart b sorted some before differ = record { counted = counted; fresh = fresh }
    where
      others : (d : Holding) (k : ℕ) → k < i → same_text (get_or row k d).1 (get_or row i d).1 ≡ false
      others d k below =
          let differs : is_eq (text_cmp (get_or row (i - 1) d).1 (get_or row i d).1) ≡ false = denoms_tied (get_or row (i - 1) d).1 (get_or row i d).1 ∙ ap (λ x. same_text x.1 (get_or row i d).1) (before d) ∙ ap (λ x. same_text b.1 x.1) (here d) ∙ differ in
          sym (denoms_tied (get_or row k d).1 (get_or row i d).1) ∙ apart text_cmp_total (λ (x : Holding). x.1) row (by_denom row sorted) i d some inside differs k below

      counted : (d : Holding) → 0 ≡ total_of (get_or row i d).1 (take i row)
      counted d = sym (none_yet (amount (get_or row i d).1) i row d (omega arith) (λ k below. ap (λ x. cond x (get_or row k d).2 0) (others d k below)))

      fresh : (k : ℕ) (d : Holding) → k < i → is_same_holding (get_or row i d) (get_or row k d) ≡ false
      fresh k d below =
          let x = get_or row i d in
          let y = get_or row k d in
          fails_second (same_text x.0 y.0) (same_text x.1 y.1) (same_swap x.1 y.1 ∙ others d k below)

  -- the one before is of the same denomination and another user
  pub stands_more : (total : ℕ) (b : Holding) → AreSorted row → AreFairSoFar row i total → 0 < i → ((d : Holding) → get_or row (i - 1) d ≡ b) → same_text b.1 h.1 ≡ true → same_text b.0 h.0 ≡ false → IsStanding row i total
  stands_more total b sorted fair some before same differ = record { counted = counted; fresh = fresh }
    where
      counted : (d : Holding) → total ≡ total_of (get_or row i d).1 (take i row)
      counted d =
          let denoms : (get_or row (i - 1) d).1 ≡ (get_or row i d).1 = ap (λ (x : Holding). x.1) (before d) ∙ text_same b.1 h.1 same ∙ ap (λ (x : Holding). x.1) (sym (here d)) in
          fair.running d some ∙ ap (λ x. total_of x (take i row)) denoms

      fresh : (k : ℕ) (d : Holding) → k < i → is_same_holding (get_or row i d) (get_or row k d) ≡ false
      fresh k d below =
          let differs : is_eq (holding_cmp (get_or row (i - 1) d) (get_or row i d)) ≡ false = holdings_tied (get_or row (i - 1) d) (get_or row i d) ∙ ap (λ x. is_same_holding x (get_or row (i - 1) d)) (here d) ∙ ap (is_same_holding h) (before d) ∙ fails_first (same_text h.0 b.0) (same_text h.1 b.1) (same_swap h.0 b.0 ∙ differ) in
          sym (holdings_tied (get_or row k d) (get_or row i d)) ∙ apart holding_total (λ (x : Holding). x) row sorted i d some inside differs k below

  -- ---- one more is fair

  module _ (total t : ℕ) (fair : AreFairSoFar row i total) (standing : IsStanding row i t) where
    single_more : (q : Holding) (b : Bool) → is_same_holding q h ≡ b → count_by (is_same_holding q) (take (i + 1) row) ≤ 1
    single_more q false is =
        let same = count_by_more_no (is_same_holding q) row i h inside (ap (is_same_holding q) (here h) ∙ is) in
        omega (arith, same, fair.single q)
    single_more q true is =
        let parts = and_parts (same_text q.0 h.0) (same_text q.1 h.1) is in
        let user = text_same q.0 h.0 parts.0 in
        let denom = text_same q.1 h.1 parts.1 in
        let more = count_by_more_yes (is_same_holding q) row i h inside (ap (is_same_holding q) (here h) ∙ is) in
        let none = none_yet (one_if_same q) i row h (omega arith) (λ k below.
        ap (λ x. cond x 1 0) (ap (λ u. same_text u (get_or row k h).0 && same_text q.1 (get_or row k h).1) user ∙ ap (λ u. same_text h.0 (get_or row k h).0 && same_text u (get_or row k h).1) denom
        ∙ ap (λ x. is_same_holding x (get_or row k h)) (sym (here h)) ∙ standing.fresh k h below)) in
        omega (arith, more, none)

    total_more : (denom : Text) (b : Bool) → same_text h.1 denom ≡ b → total_of denom (take (i + 1) row) ≡ total_of denom (take i row) + cond b h.2 0
    total_more denom b is =
        sum_by_more (amount denom) row i h inside ∙ ap (λ x. total_of denom (take i row) + amount denom x) (here h) ∙ ap (λ x. total_of denom (take i row) + cond x h.2 0) is

    own_total : t + h.2 ≡ total_of h.1 (take (i + 1) row)
    own_total = let more = total_more h.1 true (same_text_itself h.1) in let so_far = standing_total t standing in omega (arith, more, so_far)

    small_more : t + h.2 < 2 ^ 128 → (denom : Text) (b : Bool) → same_text h.1 denom ≡ b → total_of denom (take (i + 1) row) < 2 ^ 128
    small_more small denom false is = let same = total_more denom false is in omega (arith, same, fair.small denom)
    small_more small denom true is = subst (λ x. total_of x (take (i + 1) row) < 2 ^ 128) (text_same h.1 denom is) (omega (arith, own_total, small))

    pub one_more : is_user h.0 ≡ true → t + h.2 < 2 ^ 128 → AreFairSoFar row (i + 1) (t + h.2)
    one_more user small = record {
      named = λ k d below. below_more (λ j. is_user (get_or row j d).0 ≡ true) i (λ j b. fair.named j d b) (ap (λ (x : Holding). is_user x.0) (here d) ∙ user) k below;
      single = λ q. single_more q (is_same_holding q h) refl;
      small = λ denom. small_more small denom (same_text h.1 denom) refl;
      running = λ d some. subst (λ k. t + h.2 ≡ total_of (get_or row k d).1 (take (i + 1) row)) (the_place i) (own_total ∙ ap (λ x. total_of x.1 (take (i + 1) row)) (sym (here d)));
    }
      where
        the_place : (k : ℕ) → k ≡ k + 1 - 1
        the_place k = omega arith

-- ---- all of them

pub starts_fairly : (row : List Holding) → AreFairSoFar row 0 0
starts_fairly row = record {
  named = λ k d below. absurd (omega arith);
  single = λ q. omega arith;
  small = λ denom. omega arith;
  running = λ d some. absurd (omega arith);
}

pub all_fair : (row : List Holding) (i total : ℕ) → are_base row ≡ true → AreFairSoFar row i total → length row ≤ i → are_fair row ≡ true
all_fair row i total base fair done = list_all-from_AllPass (is_fair row) row (λ k d inside. each k d inside)
  where
    whole : take i row ≡ row
    whole = take_all i row done

    each : (k : ℕ) (d : Holding) → k < length row → is_fair row (get_or row k d) ≡ true
    each k d inside =
        let h = get_or row k d in
        let most : count_by (is_same_holding h) row ≤ 1 = subst (λ xs. count_by (is_same_holding h) xs ≤ 1) whole (fair.single h) in
        let within = sum_by_more_le (one_if_same h) row k d inside in
        let own : one_if_same h h ≡ 1 = ap (λ x. cond x 1 0) (and_from (same_text h.0 h.0) (same_text h.1 h.1) (same_text_itself h.0) (same_text_itself h.1)) in
        let small : total_of h.1 row < 2 ^ 128 = subst (λ xs. total_of h.1 xs < 2 ^ 128) whole (fair.small h.1) in
        passes_all (is_user h.0) (is_base_denom h.1) (eqb (count_by (is_same_holding h) row) 1) (ltb (total_of h.1 row) (2 ^ 128)) (fair.named k d (omega arith)) (AllPass-from_list_all (λ (x : Holding). is_base_denom x.1) row base k d inside)
        (eq-eqb (count_by (is_same_holding h) row) 1 (omega (arith, most, within, own)))
        (lt-ltb (total_of h.1 row) (2 ^ 128) small)

-- ---- another denomination

-- where a denomination is no base one, the holdings aren't fair
pub not_base : (row : List Holding) → are_base row ≡ false → are_fair row ≡ false
not_base row other = go (are_fair row) refl
  where
    go : (b : Bool) → are_fair row ≡ b → b ≡ false
    go false e = refl
    go true e =
        let base = list_all-from_AllPass (λ (h : Holding). is_base_denom h.1) row
        (λ k d inside. let h = get_or row k d in
        let ok = AllPass-from_list_all (is_fair row) row e k d inside in
        let three = (and_parts ((is_user h.0 && is_base_denom h.1) && eqb (count_by (is_same_holding h) row) 1) (ltb (total_of h.1 row) (2 ^ 128)) ok).0 in
        (and_parts (is_user h.0) (is_base_denom h.1) (and_parts (is_user h.0 && is_base_denom h.1) (eqb (count_by (is_same_holding h) row) 1) three).0).1) in
        sym base ∙ other

-- ---- the first holdings

-- where one of the first is unfair, the holdings aren't fair
pub unfair_first : (row few : List Holding) → few ≡ take (length few) row → list_all (is_fair row) few ≡ false → are_fair row ≡ false
unfair_first row few first is =
    let n = length few in
    ap (list_all (is_fair row)) (sym (take-append-drop n row)) ∙ list_all-append (is_fair row) (take n row) (drop n row)
    ∙ fails_first (list_all (is_fair row) (take n row)) (list_all (is_fair row) (drop n row)) (ap (list_all (is_fair row)) (sym first) ∙ is)

-- ---- holdings that stand by their denominations

pub read_at : (row : List DenomHolding) (i : ℕ) (r : DenomHolding) → i < length row → r ≡ get_or row i r → (d : Holding) → get_or (all_shown row) i d ≡ shown r
read_at row i r inside is d = get_or-map shown row i r d inside ∙ ap shown (sym is)

pub shown_inside : (row : List DenomHolding) (i : ℕ) → i < length row → i < length (all_shown row)
shown_inside row i inside = let many = length-map row shown in omega arith

not_less_pair : (o p q : Ordering) → is_lt (ordering_then o (ordering_then p q)) ≡ false → is_lt (ordering_then o p) ≡ false
not_less_pair Equal p q e = not_less_first p q e
not_less_pair Less p q e = e
not_less_pair Greater p q e = refl

-- the order in which they stand
abbrev entry_cmp : DenomHolding → DenomHolding → Ordering
entry_cmp a b = ordering_then (text_cmp a.denom.now b.denom.now) (ordering_then (text_cmp a.user.now b.user.now) (nat_cmp a.amount b.amount))

pub sorted_shown : (row : List DenomHolding) → IsSorted entry_cmp row → AreSorted (all_shown row)
sorted_shown row sorted k d low high =
    let many = length-map row shown in
    let inside : k + 1 < length row = omega (arith, many, high) in
    rises row k d inside (sorted k)
  where
    rises : (row : List DenomHolding) (k : ℕ) (d : Holding) → k + 1 < length row → ((e : DenomHolding) → 0 ≤ k → k + 1 < length row → is_lt (entry_cmp (get_or row (k + 1) e) (get_or row k e)) ≡ false)
        → is_lt (holding_cmp (get_or (all_shown row) (k + 1) d) (get_or (all_shown row) k d)) ≡ false
    rises [] k d inside up = absurd (omega arith)
    rises (r ∷ rest) k d inside up =
        let all = r ∷ rest in
        let a = get_or all (k + 1) r in
        let b = get_or all k r in
        ap (λ x. is_lt (holding_cmp x (get_or (all_shown all) k d))) (get_or-map shown all (k + 1) r d inside)
        ∙ ap (λ x. is_lt (holding_cmp (shown a) x)) (get_or-map shown all k r d (omega (arith, inside)))
        ∙ not_less_pair (text_cmp a.denom.now b.denom.now) (text_cmp a.user.now b.user.now) (nat_cmp a.amount b.amount) (up r (omega arith) inside)

-- ---- what a sum that may not fit says

pub if_fits : (o : Option ℕ) (P : Type 0) (v : ℕ) (Q : ℕ → Type 0) → SomeIff o P v → (P → Q v) → IfSome o Q
if_fits None P v Q says f = tt
if_fits (Some x) P v Q says f = subst Q (sym says.1) (f says.0)

pub if_too_large : (o : Option ℕ) (a b : ℕ) (Q : Type 0) → SomeIff o (a < b) a → (b ≤ a → Q) → IfNone o Q
if_too_large (Some x) a b Q says f = tt
if_too_large None a b Q says f = f (not_below a b says)
  where
    not_below : (a b : ℕ) → (a < b → ⊥) → b ≤ a
    not_below a b over = omega arith
