-- The amounts of a denomination in a genesis, how often a holding stands there, and which genesis is allowed.
use Rattle.ibc_ledger.proofs.Common.{◌≡◌, ℕ, Bool, ◌+◌, ◌<◌, ◌≤◌, ◌&&◌, true, false, cond, ltb, leb, List, length, get_or, take, refl, sym, ap, ◌∙◌, subst, arith, list_all, sum_by_more, sum_by_more_le, IsTrue, and_parts, false≢true}
use Rattle.ibc_ledger.proofs.Common.{take_all, length-map, Text, same_text, Holding, ChainState, is_same_holding, is_fair, is_allowed, has_limits, total_of, chain_state, genesis_state, Genesis, ChainStart}
use Rattle.std.specs.Str.{bytes_eq}
use Rattle.std.proofs.lemmas.Bool.{le-ltb, lt-ltb, le-leb}
use Rattle.ibc_records.proofs.FoundRows.{bytes_eq-same}
use Rattle.std.proofs.lemmas.List.Folds.{list_all-map, list_all_at}

pub same_holding : (a b : Holding) → (bytes_eq a.0 b.0 && bytes_eq a.1 b.1) ≡ is_same_holding a b
same_holding a b = ap (λ x. x && bytes_eq a.1 b.1) (bytes_eq-same a.0 b.0) ∙ ap (λ x. same_text a.0 b.0 && x) (bytes_eq-same a.1 b.1)

abbrev amount : Text → Holding → ℕ
amount denom h = cond (same_text h.1 denom) h.2 0

-- one more holding, h at the place i
module _ (denom : Text) (holdings : List Holding) (i : ℕ) (h : Holding) (inside : i < length holdings) (here : h ≡ get_or holdings i h) where
  more : total_of denom (take (i + 1) holdings) ≡ total_of denom (take i holdings) + amount denom h
  more = sum_by_more (amount denom) holdings i h inside ∙ ap (λ x. total_of denom (take i holdings) + amount denom x) (sym here)

  within : total_of denom (take i holdings) + amount denom h ≤ total_of denom holdings
  within = subst (λ x. total_of denom (take i holdings) + amount denom x ≤ total_of denom holdings) (sym here) (sum_by_more_le (amount denom) holdings i h inside)

  counts : (b : Bool) → b ≡ bytes_eq h.1 denom → amount denom h ≡ cond b h.2 0
  counts b is = ap (λ x. cond x h.2 0) (sym (bytes_eq-same h.1 denom) ∙ sym is)

  pub total_more : (b : Bool) → b ≡ bytes_eq h.1 denom → total_of denom (take (i + 1) holdings) ≡ total_of denom (take i holdings) + cond b h.2 0
  total_more b is = more ∙ ap (λ x. total_of denom (take i holdings) + x) (counts b is)

  pub too_large : (top : ℕ) → true ≡ bytes_eq h.1 denom → top ≤ total_of denom (take i holdings) + h.2 → false ≡ ltb (total_of denom holdings) top
  too_large top is past = let e = counts true is in sym (le-ltb (total_of denom holdings) top (omega (arith, within, e, past)))

abbrev pub is_fair_start : ChainStart → Bool
is_fair_start start = list_all (is_fair start.balances.items) start.balances.items

pub allowed : (genesis : Genesis) (fair : Bool) → 2 ≤ length genesis.chains.items → length genesis.chains.items ≤ 8 → has_limits (genesis_state genesis) ≡ true → fair ≡ list_all is_fair_start genesis.chains.items
    → fair ≡ is_allowed (genesis_state genesis)
unfolding is_allowed
allowed genesis fair two eight limits is =
    let state = genesis_state genesis in
    let count = length-map genesis.chains.items chain_state in
    let few = le-leb 2 (length state.chains) (omega (arith, count)) in
    let e = list_all-map (λ (chain : ChainState). list_all (is_fair chain.balances) chain.balances) chain_state genesis.chains.items in
    rw (few, le-leb (length state.chains) 8 (omega (arith, count)), limits) (is ∙ sym e)

-- the holdings of each chain of an allowed genesis are fair
pub fair_start : (genesis : Genesis) → IsTrue (is_allowed (genesis_state genesis)) → (i : ℕ) (start : ChainStart) → i < length genesis.chains.items → start ≡ get_or genesis.chains.items i start → is_fair_start start ≡ true
unfolding is_allowed
fair_start genesis is i start inside here =
    let state = genesis_state genesis in
    let n = length state.chains in
    let fair = (and_parts (leb 2 n && leb n 8 && has_limits state) (list_all (λ (chain : ChainState). list_all (is_fair chain.balances) chain.balances) state.chains) is).1 in
    let all = sym (list_all-map (λ (chain : ChainState). list_all (is_fair chain.balances) chain.balances) chain_state genesis.chains.items) ∙ fair in
    ap is_fair_start here ∙ passes (is_fair_start (get_or genesis.chains.items i start)) refl all
  where
    passes : (b : Bool) → is_fair_start (get_or genesis.chains.items i start) ≡ b → list_all is_fair_start genesis.chains.items ≡ true → b ≡ true
    passes true fair all = refl
    passes false unfair all = absurd (false≢true (sym (list_all_at is_fair_start genesis.chains.items i start inside unfair) ∙ all))

pub total_all : (denom : Text) (holdings : List Holding) (i total top : ℕ) → length holdings ≤ i → total ≡ total_of denom (take i holdings) → total < top → true ≡ ltb (total_of denom holdings) top
total_all denom holdings i total top done is small =
    let e = ap (total_of denom) (take_all i holdings done) in
    sym (lt-ltb (total_of denom holdings) top (omega (arith, is, e)))
