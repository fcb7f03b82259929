-- What is measured of balances: the amounts under the keys that pass a test, together. A balance is the measure
-- of one key, and a supply that of a denomination. How a measure changes where tokens move.
use Rattle.std.proofs.Common.{◌≡◌, ℕ, ◌+◌, ◌-◌, ◌≤◌, Bool, true, false, refl, ap, sym, ◌∙◌, subst, List, [], ◌∷◌, Option, Some, None, Ordering, Less, Equal, Greater, arith, cond, is_eq, if◌then◌else◌, nat_lt, ltb-false, ◌==◌, eqb-true, unwrap_or, option_map}
use Rattle.std.specs.List.{sum_by}
use Rattle.std.specs.Option.{option_map_or, option_and_then}
use Rattle.std.specs.Ordering.{match_ordering}
use Rattle.std.specs.BTreeMap.{is_at}
use Rattle.std.specs.Cmp.{IsTotalOrder}
use Rattle.std.proofs.lemmas.List.Sums.{sum_by-cons}
use Rattle.ibc_ids.specs.Texts.{Text, pair_cmp}
use Rattle.ibc_ids.specs.Maps.{Map, at, with, without}
use Rattle.ibc_wire.specs.declared.token.Token.{Token}
use Rattle.ibc_machine.specs.ics20.Bank.{Balances, balance, with_balance, give, pay}
use Rattle.ibc_machine.specs.ics20.Transfers.{each_token}
use Rattle.ibc_machine.proofs.FiniteMaps.{TellsApart, is_equal, by_pair, pair_cmp_total}
use Rattle.ibc_machine.proofs.SortedMaps.{Below-less, Sorted, at-below, Sorted-with, Sorted-without}

some_is : {A : Type 0} {x y : A} {o : Option A} → o ≡ Some x → o ≡ Some y → x ≡ y
some_is e f = cc (e, f)

-- ---- a sum over a map, where one entry changes

module _ {K V : Type 0} {order : K → K → Ordering} (total : IsTotalOrder order) (o : TellsApart order) (f : K × V → ℕ) where
  -- what the sum has of the key
  abbrev term_at : K → Map K V → ℕ
  term_at k m = option_map_or (λ v. f (k, v)) (at order k m) 0

  pub sum-without : (k : K) (m : Map K V) → sum_by f (without order k m) + term_at k m ≡ sum_by f m
  sum-without k [] = refl
  sum-without k (e ∷ es) = go (sum-without k es) (is_at (order k) e.0) refl
    where
      go : sum_by f (without order k es) + term_at k es ≡ sum_by f es → (b : Bool) → is_at (order k) e.0 ≡ b
          → sum_by f (cond b es (e ∷ without order k es)) + option_map_or (λ v. f (k, v)) (cond b (Some e.1) (at order k es)) 0 ≡ sum_by f (e ∷ es)
      go ih true is =
          let same : k ≡ e.0 = o.exact k e.0 (is_equal (order k e.0) is) in
          let term : f (k, e.1) ≡ f e = ap (λ x. f (x, e.1)) same in
          let cons = sum_by-cons f e es in
          omega arith
      go ih false is =
          let cons = sum_by-cons f e es in
          let less = sum_by-cons f e (without order k es) in
          omega arith

  pub sum-with : (k : K) (v : V) (m : Map K V) → Sorted order m → sum_by f (with order k v m) + term_at k m ≡ sum_by f m + f (k, v)
  sum-with k v [] sorted = let cons = sum_by-cons f (k, v) [] in omega arith
  sum-with k v (e ∷ es) sorted = go (sum-with k v es sorted.1) (order k e.0) refl
    where
      go : sum_by f (with order k v es) + term_at k es ≡ sum_by f es + f (k, v) → (p : Ordering) → order k e.0 ≡ p
          → sum_by f (match_ordering p ((k, v) ∷ e ∷ es) ((e.0, v) ∷ es) (e ∷ with order k v es)) + term_at k (e ∷ es) ≡ sum_by f (e ∷ es) + f (k, v)
      go ih Less is =
          let none : at order k (e ∷ es) ≡ None = at-below total o k (e ∷ es) (is, Below-less total o k e.0 es is sorted.0) in
          let term : term_at k (e ∷ es) ≡ 0 = ap (λ x. option_map_or (λ v. f (k, v)) x 0) none in
          let cons = sum_by-cons f (k, v) (e ∷ es) in
          omega arith
      go ih Equal is =
          let same : k ≡ e.0 = o.exact k e.0 is in
          let there : at order k (e ∷ es) ≡ Some e.1 = ap (λ p. cond (is_eq p) (Some e.1) (at order k es)) is in
          let term : term_at k (e ∷ es) ≡ f e = ap (λ x. option_map_or (λ v. f (k, v)) x 0) there ∙ ap (λ x. f (x, e.1)) same in
          let now : f (e.0, v) ≡ f (k, v) = ap (λ x. f (x, v)) (sym same) in
          let cons = sum_by-cons f e es in
          let with_it = sum_by-cons f (e.0, v) es in
          omega arith
      go ih Greater is =
          let there : at order k (e ∷ es) ≡ at order k es = ap (λ p. cond (is_eq p) (Some e.1) (at order k es)) is in
          let term : term_at k (e ∷ es) ≡ term_at k es = ap (λ x. option_map_or (λ v. f (k, v)) x 0) there in
          let cons = sum_by-cons f e es in
          let with_it = sum_by-cons f e (with order k v es) in
          omega arith

-- ---- measures of balances

abbrev pub IsSorted : Balances → Type 0
IsSorted b = Sorted pair_cmp b

-- a test of an account and a denomination
abbrev pub Test : Type 0
Test = Text × Text → Bool

abbrev pub weigh : Test → Text → Token → ℕ
weigh test holder token = if test (holder, token.denom) then token.amount else 0

abbrev pub amount_in : Test → (Text × Text) × ℕ → ℕ
amount_in test entry = if test entry.0 then entry.1 else 0

abbrev pub measure : Test → Balances → ℕ
measure test b = sum_by (amount_in test) b

-- the amount that passes
abbrev share : Bool → ℕ → ℕ
share b n = if b then n else 0

module _ (test : Test) (holder denom : Text) where
  share_of_balance : (b : Balances) → option_map_or (λ n. amount_in test ((holder, denom), n)) (at pair_cmp (holder, denom) b) 0
      ≡ share (test (holder, denom)) (balance b holder denom)
  share_of_balance b = go (test (holder, denom)) (at pair_cmp (holder, denom) b)
    where
      go : (p : Bool) (x : Option ℕ) → option_map_or (λ n. share p n) x 0 ≡ share p (unwrap_or x 0)
      go true (Some n) = refl
      go true None = refl
      go false (Some n) = refl
      go false None = refl

  -- a measure where one balance is set
  pub measure-with_balance : (n : ℕ) (b : Balances) → IsSorted b
      → measure test (with_balance holder denom n b) + share (test (holder, denom)) (balance b holder denom)
      ≡ measure test b + share (test (holder, denom)) n
  measure-with_balance n b sorted = go (n == 0) refl
    where
      go : (z : Bool) → (n == 0) ≡ z
          → measure test (if z then without pair_cmp (holder, denom) b else with pair_cmp (holder, denom) n b) + share (test (holder, denom)) (balance b holder denom)
          ≡ measure test b + share (test (holder, denom)) n
      go true is =
          let less = sum-without pair_cmp_total by_pair (amount_in test) (holder, denom) b in
          let part = share_of_balance b in
          let zero_ : n ≡ 0 = eqb-true n 0 is in
          let none : share (test (holder, denom)) n ≡ 0 = ap (λ k. share (test (holder, denom)) k) zero_ ∙ nothing (test (holder, denom)) in
          omega arith
        where
          nothing : (p : Bool) → share p 0 ≡ 0
          nothing true = refl
          nothing false = refl
      go false is =
          let more = sum-with pair_cmp_total by_pair (amount_in test) (holder, denom) n b sorted in
          let part = share_of_balance b in
          omega arith

pub sorted-with_balance : (holder denom : Text) (n : ℕ) (b : Balances) → IsSorted b → IsSorted (with_balance holder denom n b)
sorted-with_balance holder denom n b sorted = go (n == 0)
  where
    go : (z : Bool) → IsSorted (if z then without pair_cmp (holder, denom) b else with pair_cmp (holder, denom) n b)
    go true = Sorted-without pair_cmp_total by_pair (holder, denom) b sorted
    go false = Sorted-with pair_cmp_total by_pair (holder, denom) n b sorted

-- ---- tokens that move: balances stay sorted, and a measure loses and gains so much

pub record Moved (test : Test) (before after : Balances) (out gain : ℕ) : Type 0 where
  pub sorted : IsSorted after
  pub measured : measure test after + out ≡ measure test before + gain

share_more : (p : Bool) (a b : ℕ) → share p (a + b) ≡ share p a + share p b
share_more true a b = refl
share_more false a b = refl

pub given : (test : Test) (holder : Text) (token : Token) (b : Balances) → IsSorted b
    → Moved test b (give holder token b) 0 (weigh test holder token)
given test holder token b sorted =
    let had : ℕ = balance b holder token.denom in
    let now = measure-with_balance test holder token.denom (had + token.amount) b sorted in
    let parts = share_more (test (holder, token.denom)) had token.amount in
    record { sorted = sorted-with_balance holder token.denom (had + token.amount) b sorted; measured = omega arith }

pub paid : (test : Test) (holder : Text) (token : Token) (b after : Balances) → IsSorted b → pay holder token b ≡ Some after
    → Moved test b after (weigh test holder token) 0
paid test holder token b after sorted e = go (nat_lt had token.amount) refl e
  where
    had : ℕ
    had = balance b holder token.denom

    go : (p : Bool) → nat_lt (balance b holder token.denom) token.amount ≡ p
        → (if p then None else Some (with_balance holder token.denom (balance b holder token.denom - token.amount) b)) ≡ Some after
        → Moved test b after (weigh test holder token) 0
    go true is e = absurd (cc e)
    go false is e =
        let enough : token.amount ≤ balance b holder token.denom = ltb-false (balance b holder token.denom) token.amount is in
        let now = measure-with_balance test holder token.denom (balance b holder token.denom - token.amount) b sorted in
        let parts = share_more (test (holder, token.denom)) (balance b holder token.denom - token.amount) token.amount in
        let whole : balance b holder token.denom - token.amount + token.amount ≡ balance b holder token.denom = omega arith in
        let same = ap (λ n. share (test (holder, token.denom)) n) whole in
        subst (λ x. Moved test b x (weigh test holder token) 0) (some_is refl e) (record {
          sorted = sorted-with_balance holder token.denom (balance b holder token.denom - token.amount) b sorted;
          measured = omega arith;
        })

-- from one account to another
pub moved_between : (test : Test) (from to : Text) (token : Token) (b after : Balances) → IsSorted b
    → option_map (give to token) (pay from token b) ≡ Some after
    → Moved test b after (weigh test from token) (weigh test to token)
moved_between test from to token b after sorted e = go (pay from token b) refl e
  where
    go : (o : Option Balances) → pay from token b ≡ o → option_map (give to token) o ≡ Some after
        → Moved test b after (weigh test from token) (weigh test to token)
    go (Some mid) is e =
        let out = paid test from token b mid sorted is in
        let gain = given test to token mid out.sorted in
        let x = out.measured in
        let y = gain.measured in
        subst (λ z. Moved test b z (weigh test from token) (weigh test to token)) (some_is refl e)
        (record { sorted = gain.sorted; measured = omega arith })
    go None is e = absurd (cc e)

-- ---- a list of tokens, one after another

pub moved_each : (test : Test) (move : Token → Balances → Option Balances) (out gain : Token → ℕ)
    → ((token : Token) (b after : Balances) → IsSorted b → move token b ≡ Some after → Moved test b after (out token) (gain token))
    → (tokens : List Token) (b after : Balances) → IsSorted b → each_token move tokens b ≡ Some after
    → Moved test b after (sum_by out tokens) (sum_by gain tokens)
moved_each test move out gain each [] b after sorted e =
    subst (λ z. Moved test b z 0 0) (some_is refl e) (record { sorted = sorted; measured = refl })
moved_each test move out gain each (token ∷ tokens) b after sorted e =
    go (λ mid h rest. moved_each test move out gain each tokens mid after h rest) (move token b) refl e
  where
    go : ((mid : Balances) → IsSorted mid → each_token move tokens mid ≡ Some after → Moved test mid after (sum_by out tokens) (sum_by gain tokens))
        → (o : Option Balances) → move token b ≡ o → option_and_then (each_token move tokens) o ≡ Some after
        → Moved test b after (sum_by out (token ∷ tokens)) (sum_by gain (token ∷ tokens))
    go others (Some mid) is e =
        let first = each token b mid sorted is in
        let rest = others mid first.sorted e in
        let x = first.measured in
        let y = rest.measured in
        let outs = sum_by-cons out token tokens in
        let gains = sum_by-cons gain token tokens in
        record { sorted = rest.sorted; measured = omega arith }
    go others None is e = absurd (cc e)
