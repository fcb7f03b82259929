-- Laws of tokens in a computed run of two chains, by tests that compute: payments and supplies.
use Rattle.std.specs.Prelude.{IsTrue, ◌≤◌}
use Rattle.std.proofs.Common.{◌≡◌, ℕ, zero, suc, ◌+◌, Bool, true, false, refl, ap, sym, ◌∙◌, subst, List, [], ◌∷◌, ◌++◌, length, drop, map, None, ◌⊎◌, inl, inr, arith, ◌==◌, ◌&&◌, ◌||◌, not, eqb-true, ltb-true, leb-true, nat_le, nat_lt, slice_get, if◌then◌else◌, Contains}
use Rattle.std.specs.List.{list_all, sum_by}
use Rattle.std.specs.FinMap.{is_sorted}
use Rattle.std.specs.Option.{option_map_or}
use Rattle.std.proofs.lemmas.List.Sums.{sum_by-cons, sum_by-append}
use Rattle.ibc_ids.specs.Texts.{Text, pair_cmp}
use Rattle.ibc_ids.specs.Names.{is_user, is_base_denom, hop}
use Rattle.ibc_ids.proofs.Texts.{text_same}
use Rattle.ibc_ids.proofs.Hops.{came_over_is}
use Rattle.ibc_machine.specs.chain.Records.{MachineChain}
use Rattle.ibc_machine.specs.chain.Genesis.{GenesisState, ChainState, start, starting_chain}
use Rattle.ibc_machine.specs.chain.Machine.{World}
use Rattle.ibc_machine.specs.ics20.Bank.{Balances, balance, supply}
use Rattle.ibc_machine.specs.ics20.Transfers.{transfer_port, came_over}
use Rattle.ibc_machine.specs.ledger.Ledgers.{chain_of}
use Rattle.ibc_machine.specs.promises.Histories.{Happened}
use Rattle.ibc_machine.specs.promises.Peers.{are_peers}
use Rattle.ibc_machine.specs.promises.Totals.{balances_of, escrow_balance}
use Rattle.ibc_machine.proofs.Measures.{amount_in, measure}
use Rattle.ibc_machine.proofs.SortedMaps.{Sorted-from}
use Rattle.ibc_laws.specs.Tokens.{IsBacked, transfer_end, supply_at, balance_at, amount_paid_by}
use Rattle.ibc_laws.specs.Payments.{data_at, amount_received_by, amount_refunded_to}
use Rattle.ibc_laws.specs.Runs.{WorldStep, all_of, KeepsSupplies, OnlySendersPay, PaysAsNamed}
use Rattle.ibc_laws.proofs.basics.PassedTests.{both, either}
use Rattle.ibc_laws.proofs.tokens.HeldAndIssued.{at_key, of_denom, balance_is, sum-plus}
use Rattle.ibc_laws.proofs.tokens.WhoIsPaid.{by_event, paid_elsewhere, gained, received_and_refunded}
use Rattle.ibc_laws.proofs.steps.Told.{told_of}
use Rattle.ibc_laws.proofs.basics.ListTests.{lemma_passes}
use Rattle.ibc_laws.proofs.wrong.Entries.{Entry, paid_entries, got_entries, all_entries, measure-append, measure-all, measure_paid, measure_got, are_same_for_users, lemma_same_for_users, are_no_more_for_users, lemma_no_more_for_users, lemma_entry_or_none}

-- ---- two chains

-- a number from 2 on is none of two chains
lemma_no_third : (w : World) (k : ℕ) → length w ≡ 2 → slice_get w (suc (suc k)) ≡ None
lemma_no_third (a ∷ b ∷ []) k two = refl
lemma_no_third [] k two = refl
lemma_no_third (a ∷ []) k two = refl
lemma_no_third (a ∷ b ∷ c ∷ rest) k two = absurd (omega arith)

lemma_holds_nothing : (w : World) (k : ℕ) → length w ≡ 2 → balances_of w (suc (suc k)) ≡ []
lemma_holds_nothing w k two = ap (λ o. option_map_or (λ (c : MachineChain). c.records.apps.balances) o []) (lemma_no_third w k two)

lemma_balance_none : (w : World) (k : ℕ) (user denom : Text) → length w ≡ 2 → balance_at w (suc (suc k)) user denom ≡ 0
lemma_balance_none w k user denom two = ap (λ b. balance b user denom) (lemma_holds_nothing w k two)

-- an event of one of two chains is of no third
lemma_not_third : (i k : ℕ) → nat_lt i 2 ≡ true → (i == suc (suc k)) ≡ false
lemma_not_third i k low = go (i == suc (suc k)) refl
  where
    go : (b : Bool) → (i == suc (suc k)) ≡ b → (i == suc (suc k)) ≡ false
    go true is =
        let same = eqb-true i (suc (suc k)) is in
        let less = ltb-true i 2 low in
        absurd (omega arith)
    go false is = is

lemma_sum_zero : {A : Type 0} (test : A → Bool) (f : A → ℕ) (xs : List A) → list_all test xs ≡ true → ((x : A) → test x ≡ true → f x ≡ 0) → sum_by f xs ≡ 0
lemma_sum_zero test f [] all zero_ = refl
lemma_sum_zero test f (x ∷ xs) all zero_ =
    let parts = both (test x) (list_all test xs) all in
    let rest = lemma_sum_zero test f xs parts.1 zero_ in
    let here = zero_ x parts.0 in
    let cons = sum_by-cons f x xs in
    omega arith

-- ---- payments

-- on a chain, in a step
abbrev pub pays_in : ℕ → WorldStep → Bool
pays_in chain (old, h, new) =
    is_sorted pair_cmp (balances_of old chain) && (is_sorted pair_cmp (balances_of new chain)
    && are_same_for_users (balances_of new chain ++ paid_entries chain h) (balances_of old chain ++ got_entries old chain h))

abbrev pub is_of_two : WorldStep → Bool
is_of_two (old, h, new) = (length old == 2) && ((length new == 2) && nat_lt (chain_of h.0) 2)

abbrev pub pays : WorldStep → Bool
pays step = is_of_two step && (pays_in 0 step && pays_in 1 step)

-- in a whole run
abbrev pub pays_all : GenesisState → List Happened → World → ℕ → Bool
pays_all genesis happened world chain =
    is_sorted pair_cmp (balances_of world chain) && (is_sorted pair_cmp (balances_of (start genesis) chain)
    && are_same_for_users (balances_of world chain ++ all_entries (paid_entries chain) happened)
    (balances_of (start genesis) chain ++ all_entries (got_entries world chain) happened))

abbrev pub pays_as_named : GenesisState → List WorldStep → World → Bool
pays_as_named genesis steps world =
    list_all pays steps && ((length world == 2) && ((length genesis.chains == 2)
    && (pays_all genesis (all_of steps) world 0 && pays_all genesis (all_of steps) world 1)))

-- the two sides, as measures of two lists
lemma_sums : {left right : ℕ} (new paid old got back : ℕ) → new + paid ≡ left → old + (got + back) ≡ right → left ≡ right → new + paid ≡ old + got + back
lemma_sums new paid old got back x y same = omega arith

lemma_less : {left right : ℕ} (old new : ℕ) → old ≡ left → new ≡ right → left ≤ right → old ≤ new
lemma_less old new x y less = omega arith

-- elsewhere nothing is received
lemma_got_none : (user denom : Text) (is : is_user user ≡ true) (world : World) (h : Happened) (k : ℕ) → (chain_of h.0 == k) ≡ false
    → received_and_refunded user denom is world k h ≡ 0
lemma_got_none user denom is world h k apart =
    by_event user denom is world k h ∙ ap (λ b. if b then gained user denom is (data_at world k) (told_of h) else 0) apart

lemma_of_step : (user denom : Text) → is_user user ≡ true → (old : World) (h : Happened) (new : World) → pays (old, h, new) ≡ true → (chain : ℕ)
    → balance_at new chain user denom + amount_paid_by chain user denom h
    ≡ balance_at old chain user denom + amount_received_by old chain user denom h + amount_refunded_to old chain user denom h
lemma_of_step user denom is old h new passed chain = go chain
  where
    of_two : is_of_two (old, h, new) ≡ true
    of_two = (both (is_of_two (old, h, new)) _ passed).0

    chains : (pays_in 0 (old, h, new) ≡ true) × (pays_in 1 (old, h, new) ≡ true)
    chains = both (pays_in 0 (old, h, new)) (pays_in 1 (old, h, new)) (both (is_of_two (old, h, new)) _ passed).1

    old_two : length old ≡ 2
    old_two = eqb-true (length old) 2 (both (length old == 2) _ of_two).0

    rest : ((length new == 2) ≡ true) × (nat_lt (chain_of h.0) 2 ≡ true)
    rest = both (length new == 2) (nat_lt (chain_of h.0) 2) (both (length old == 2) _ of_two).1

    on : (k : ℕ) → pays_in k (old, h, new) ≡ true
        → balance_at new k user denom + amount_paid_by k user denom h
        ≡ balance_at old k user denom + amount_received_by old k user denom h + amount_refunded_to old k user denom h
    on k passed =
        let a = both (is_sorted pair_cmp (balances_of old k)) _ passed in
        let b = both (is_sorted pair_cmp (balances_of new k)) _ a.1 in
        let same : measure (at_key user denom) (balances_of new k ++ paid_entries k h) ≡ measure (at_key user denom) (balances_of old k ++ got_entries old k h) =
        lemma_same_for_users (balances_of new k ++ paid_entries k h) (balances_of old k ++ got_entries old k h) b.1 user denom is in
        let before : balance_at old k user denom ≡ measure (at_key user denom) (balances_of old k) = balance_is (balances_of old k) (Sorted-from pair_cmp (balances_of old k) a.0) user denom in
        let after : balance_at new k user denom ≡ measure (at_key user denom) (balances_of new k) = balance_is (balances_of new k) (Sorted-from pair_cmp (balances_of new k) b.0) user denom in
        let paid : measure (at_key user denom) (paid_entries k h) ≡ amount_paid_by k user denom h = measure_paid user denom is k h in
        let got : measure (at_key user denom) (got_entries old k h) ≡ amount_received_by old k user denom h + amount_refunded_to old k user denom h = measure_got user denom is old k h in
        let left : measure (at_key user denom) (balances_of new k ++ paid_entries k h) ≡ measure (at_key user denom) (balances_of new k) + measure (at_key user denom) (paid_entries k h) =
        measure-append (at_key user denom) (balances_of new k) (paid_entries k h) in
        let right : measure (at_key user denom) (balances_of old k ++ got_entries old k h) ≡ measure (at_key user denom) (balances_of old k) + measure (at_key user denom) (got_entries old k h) =
        measure-append (at_key user denom) (balances_of old k) (got_entries old k h) in
        lemma_sums (balance_at new k user denom) (amount_paid_by k user denom h) (balance_at old k user denom) (amount_received_by old k user denom h) (amount_refunded_to old k user denom h)
        (ap (λ n. n + amount_paid_by k user denom h) after ∙ ap (λ n. measure (at_key user denom) (balances_of new k) + n) (sym paid) ∙ sym left)
        (ap (λ n. n + (amount_received_by old k user denom h + amount_refunded_to old k user denom h)) before
        ∙ ap (λ n. measure (at_key user denom) (balances_of old k) + n) (sym got) ∙ sym right) same

    go : (chain : ℕ) → balance_at new chain user denom + amount_paid_by chain user denom h
        ≡ balance_at old chain user denom + amount_received_by old chain user denom h + amount_refunded_to old chain user denom h
    go zero = on 0 chains.0
    go (suc zero) = on 1 chains.1
    go (suc (suc k)) =
        let apart = lemma_not_third (chain_of h.0) k rest.1 in
        let before = lemma_balance_none old k user denom old_two in
        let after = lemma_balance_none new k user denom (eqb-true (length new) 2 rest.0) in
        let paid = paid_elsewhere user denom is h (suc (suc k)) apart in
        let got = lemma_got_none user denom is old h (suc (suc k)) apart in
        omega arith

lemma_start_two : (chains : List ChainState) → length chains ≡ 2 → length (map starting_chain chains) ≡ 2
lemma_start_two (a ∷ b ∷ []) two = refl
lemma_start_two [] two = absurd (omega arith)
lemma_start_two (a ∷ []) two = absurd (omega arith)
lemma_start_two (a ∷ b ∷ c ∷ rest) two = absurd (omega arith)

-- each event is of one of two chains
abbrev is_near : Happened → Bool
is_near h = nat_lt (chain_of h.0) 2

lemma_all_near : (steps : List WorldStep) → list_all pays steps ≡ true → list_all is_near (all_of steps) ≡ true
lemma_all_near [] all = refl
lemma_all_near (step ∷ steps) all =
    let parts = both (pays step) (list_all pays steps) all in
    let two = (both (is_of_two step) _ parts.0).0 in
    let own = (both (length step.2 == 2) (is_near step.1) (both (length step.0 == 2) _ two).1).1 in
    ap (λ b. b && list_all is_near (all_of steps)) own ∙ lemma_all_near steps parts.1

module _ (genesis : GenesisState) (steps : List WorldStep) (world : World) (passed : pays_as_named genesis steps world ≡ true) where
  abbrev happened : List Happened
  happened = all_of steps

  all_steps : list_all pays steps ≡ true
  all_steps = (both (list_all pays steps) _ passed).0

  sizes : ((length world == 2) ≡ true) × (((length genesis.chains == 2) && (pays_all genesis happened world 0 && pays_all genesis happened world 1)) ≡ true)
  sizes = both (length world == 2) _ (both (list_all pays steps) _ passed).1

  starts : ((length genesis.chains == 2) ≡ true) × ((pays_all genesis happened world 0 && pays_all genesis happened world 1) ≡ true)
  starts = both (length genesis.chains == 2) _ sizes.1

  two_chains : (pays_all genesis happened world 0 ≡ true) × (pays_all genesis happened world 1 ≡ true)
  two_chains = both (pays_all genesis happened world 0) _ starts.1

  each : (step : WorldStep) (chain : ℕ) (user denom : Text) → Contains steps step → IsTrue (is_user user)
      → balance_at step.2 chain user denom + amount_paid_by chain user denom step.1
      ≡ balance_at step.0 chain user denom + amount_received_by step.0 chain user denom step.1 + amount_refunded_to step.0 chain user denom step.1
  each step chain user denom among is = lemma_of_step user denom is step.0 step.1 step.2 (lemma_passes pays steps step all_steps among) chain

  module _ (user denom : Text) (is : is_user user ≡ true) where
    sums : (x : World) (k : ℕ) → sum_by (received_and_refunded user denom is x k) happened
        ≡ sum_by (amount_received_by x k user denom) happened + sum_by (amount_refunded_to x k user denom) happened
    sums x k = sum-plus (received_and_refunded user denom is x k) (amount_received_by x k user denom) (amount_refunded_to x k user denom) happened (λ h. refl)

    on : (k : ℕ) → pays_all genesis happened world k ≡ true
        → balance_at world k user denom + sum_by (amount_paid_by k user denom) happened
        ≡ balance_at (start genesis) k user denom + sum_by (amount_received_by world k user denom) happened + sum_by (amount_refunded_to world k user denom) happened
    on k passes =
        let a = both (is_sorted pair_cmp (balances_of world k)) _ passes in
        let b = both (is_sorted pair_cmp (balances_of (start genesis) k)) _ a.1 in
        let same = lemma_same_for_users (balances_of world k ++ all_entries (paid_entries k) happened)
        (balances_of (start genesis) k ++ all_entries (got_entries world k) happened) b.1 user denom is in
        let after = balance_is (balances_of world k) (Sorted-from pair_cmp (balances_of world k) a.0) user denom in
        let before = balance_is (balances_of (start genesis) k) (Sorted-from pair_cmp (balances_of (start genesis) k) b.0) user denom in
        let paid = measure-all (at_key user denom) (paid_entries k) (amount_paid_by k user denom) happened (measure_paid user denom is k) in
        let got = measure-all (at_key user denom) (got_entries world k) (received_and_refunded user denom is world k) happened (measure_got user denom is world k) ∙ sums world k in
        let left = measure-append (at_key user denom) (balances_of world k) (all_entries (paid_entries k) happened) in
        let right = measure-append (at_key user denom) (balances_of (start genesis) k) (all_entries (got_entries world k) happened) in
        lemma_sums (balance_at world k user denom) (sum_by (amount_paid_by k user denom) happened) (balance_at (start genesis) k user denom)
        (sum_by (amount_received_by world k user denom) happened) (sum_by (amount_refunded_to world k user denom) happened)
        (ap (λ n. n + sum_by (amount_paid_by k user denom) happened) after ∙ ap (λ n. measure (at_key user denom) (balances_of world k) + n) (sym paid) ∙ sym left)
        (ap (λ n. n + (sum_by (amount_received_by world k user denom) happened + sum_by (amount_refunded_to world k user denom) happened)) before
        ∙ ap (λ n. measure (at_key user denom) (balances_of (start genesis) k) + n) (sym got) ∙ sym right) same

    total : (chain : ℕ) → balance_at world chain user denom + sum_by (amount_paid_by chain user denom) happened
        ≡ balance_at (start genesis) chain user denom + sum_by (amount_received_by world chain user denom) happened + sum_by (amount_refunded_to world chain user denom) happened
    total zero = on 0 two_chains.0
    total (suc zero) = on 1 two_chains.1
    total (suc (suc k)) =
        let after = lemma_balance_none world k user denom (eqb-true (length world) 2 sizes.0) in
        let before = lemma_balance_none (start genesis) k user denom (lemma_start_two genesis.chains (eqb-true (length genesis.chains) 2 starts.0)) in
        let paid = lemma_sum_zero is_near (amount_paid_by (suc (suc k)) user denom) happened (lemma_all_near steps all_steps)
        (λ h near. paid_elsewhere user denom is h (suc (suc k)) (lemma_not_third (chain_of h.0) k near)) in
        let got = lemma_sum_zero is_near (received_and_refunded user denom is world (suc (suc k))) happened (lemma_all_near steps all_steps)
        (λ h near. lemma_got_none user denom is world h (suc (suc k)) (lemma_not_third (chain_of h.0) k near)) in
        let parts = sums world (suc (suc k)) in
        omega arith

  pub lemma_pays_as_named : PaysAsNamed genesis steps world
  lemma_pays_as_named = record {
    who_pays = λ step chain user denom among is. let e = each step chain user denom among is in omega arith;
    who_is_paid = each;
    each_balance = λ chain user denom is. total user denom is chain;
  }

-- ---- payments of senders alone

abbrev pub takes_no_more : ℕ → WorldStep → Bool
takes_no_more chain (old, h, new) =
    is_sorted pair_cmp (balances_of old chain) && (is_sorted pair_cmp (balances_of new chain)
    && are_no_more_for_users (balances_of old chain) (balances_of new chain ++ paid_entries chain h))

abbrev pub senders_pay : WorldStep → Bool
senders_pay step = is_of_two step && (takes_no_more 0 step && takes_no_more 1 step)

lemma_sender_pays : (user denom : Text) → is_user user ≡ true → (old : World) (h : Happened) (new : World) → senders_pay (old, h, new) ≡ true → (chain : ℕ)
    → balance_at old chain user denom ≤ balance_at new chain user denom + amount_paid_by chain user denom h
lemma_sender_pays user denom is old h new passed chain = go chain
  where
    chains : (takes_no_more 0 (old, h, new) ≡ true) × (takes_no_more 1 (old, h, new) ≡ true)
    chains = both (takes_no_more 0 (old, h, new)) (takes_no_more 1 (old, h, new)) (both (is_of_two (old, h, new)) _ passed).1

    old_two : length old ≡ 2
    old_two = eqb-true (length old) 2 (both (length old == 2) _ (both (is_of_two (old, h, new)) _ passed).0).0

    on : (k : ℕ) → takes_no_more k (old, h, new) ≡ true → balance_at old k user denom ≤ balance_at new k user denom + amount_paid_by k user denom h
    on k passed =
        let a = both (is_sorted pair_cmp (balances_of old k)) _ passed in
        let b = both (is_sorted pair_cmp (balances_of new k)) _ a.1 in
        let less = lemma_no_more_for_users (balances_of old k) (balances_of new k ++ paid_entries k h) b.1 user denom is in
        let before = balance_is (balances_of old k) (Sorted-from pair_cmp (balances_of old k) a.0) user denom in
        let after = balance_is (balances_of new k) (Sorted-from pair_cmp (balances_of new k) b.0) user denom in
        let paid = measure_paid user denom is k h in
        let right = measure-append (at_key user denom) (balances_of new k) (paid_entries k h) in
        lemma_less (balance_at old k user denom) (balance_at new k user denom + amount_paid_by k user denom h) before
        (ap (λ n. n + amount_paid_by k user denom h) after ∙ ap (λ n. measure (at_key user denom) (balances_of new k) + n) (sym paid) ∙ sym right) less

    go : (chain : ℕ) → balance_at old chain user denom ≤ balance_at new chain user denom + amount_paid_by chain user denom h
    go zero = on 0 chains.0
    go (suc zero) = on 1 chains.1
    go (suc (suc k)) = let none = lemma_balance_none old k user denom old_two in omega arith

pub lemma_only_senders_pay : (steps : List WorldStep) → list_all senders_pay steps ≡ true → OnlySendersPay steps
lemma_only_senders_pay steps all step chain user denom among is =
    lemma_sender_pays user denom is step.0 step.1 step.2 (lemma_passes senders_pay steps step all among) chain

-- ---- supplies

abbrev pub is_supply_same : Balances → Balances → Entry → Bool
is_supply_same old new x = not (is_base_denom x.0.1) || (supply new x.0.1 == supply old x.0.1)

abbrev pub keeps_supply : World → World → ℕ → Bool
keeps_supply old new chain = list_all (is_supply_same (balances_of old chain) (balances_of new chain)) (balances_of new chain ++ balances_of old chain)

abbrev pub is_backed_over : World → ℕ → Text → ℕ → Entry → Bool
is_backed_over world chain id other x =
    is_base_denom x.0.1
    || (came_over transfer_port id x.0.1 && (are_peers world (transfer_end other id) (transfer_end chain id)
    && nat_le (supply_at world chain x.0.1) (escrow_balance world (transfer_end other id) (drop (length (hop transfer_port id)) x.0.1))))

abbrev pub are_backed : World → Text → Bool
are_backed world id = list_all (is_backed_over world 0 id 1) (balances_of world 0) && list_all (is_backed_over world 1 id 0) (balances_of world 1)

abbrev pub keeps_supplies : GenesisState → World → Text → Bool
keeps_supplies genesis world id =
    (length world == 2) && ((length genesis.chains == 2)
    && (keeps_supply (start genesis) world 0 && (keeps_supply (start genesis) world 1 && are_backed world id)))

lemma_stays_in : (old new : World) (chain : ℕ) → keeps_supply old new chain ≡ true → (denom : Text) → is_base_denom denom ≡ true
    → supply_at new chain denom ≡ supply_at old chain denom
lemma_stays_in old new chain passed denom base =
    elim (lemma_entry_or_none (of_denom denom) (is_supply_same (balances_of old chain) (balances_of new chain)) (balances_of new chain ++ balances_of old chain) passed) [
      | inl found ↦ (
          let of = text_same found.0.0.1 denom found.2 in
          let tested : (not (is_base_denom denom) || (supply_at new chain denom == supply_at old chain denom)) ≡ true =
          subst (λ d. (not (is_base_denom d) || (supply_at new chain d == supply_at old chain d)) ≡ true) of found.1 in
          let same : (supply_at new chain denom == supply_at old chain denom) ≡ true =
          sym (ap (λ b. not b || (supply_at new chain denom == supply_at old chain denom)) base) ∙ tested in
          eqb-true (supply_at new chain denom) (supply_at old chain denom) same
          )
      | inr none ↦ (let all = sum_by-append (amount_in (of_denom denom)) (balances_of new chain) (balances_of old chain) in omega arith)
    ]

lemma_backed_in : (world : World) (chain : ℕ) (id : Text) (other : ℕ) → list_all (is_backed_over world chain id other) (balances_of world chain) ≡ true → (denom : Text)
    → 1 ≤ supply_at world chain denom → (is_base_denom denom ≡ true) ⊎ IsBacked world chain denom
lemma_backed_in world chain id other passed denom some =
    elim (lemma_entry_or_none (of_denom denom) (is_backed_over world chain id other) (balances_of world chain) passed) [
      | inl found ↦ by (subst (λ d. is_backed_over world chain id other ((found.0.0.0, d), found.0.1) ≡ true) (text_same found.0.0.1 denom found.2) found.1)
      | inr none ↦ absurd (omega arith)
    ]
  where
    there : Text
    there = drop (length (hop transfer_port id)) denom

    by : (is_base_denom denom || (came_over transfer_port id denom && (are_peers world (transfer_end other id) (transfer_end chain id)
        && nat_le (supply_at world chain denom) (escrow_balance world (transfer_end other id) there)))) ≡ true
        → (is_base_denom denom ≡ true) ⊎ IsBacked world chain denom
    by tested = elim (either (is_base_denom denom) _ tested) [
      | inl base ↦ inl base
      | inr backed ↦ (
          let over = both (came_over transfer_port id denom) _ backed in
          let peers = both (are_peers world (transfer_end other id) (transfer_end chain id)) _ over.1 in
          inr (record {
            channel = id;
            there = there;
            came = came_over_is transfer_port id denom over.0;
            peer = transfer_end other id;
            are_peers = peers.0;
            held = leb-true (supply_at world chain denom) (escrow_balance world (transfer_end other id) there) peers.1;
          })
          )
    ]

lemma_supply_none : (w : World) (k : ℕ) (denom : Text) → length w ≡ 2 → supply_at w (suc (suc k)) denom ≡ 0
lemma_supply_none w k denom two = ap (λ b. supply b denom) (lemma_holds_nothing w k two)

module _ (genesis : GenesisState) (world : World) (id : Text) (passed : keeps_supplies genesis world id ≡ true) where
  two : ((length world == 2) ≡ true)
      × (((length genesis.chains == 2) && (keeps_supply (start genesis) world 0 && (keeps_supply (start genesis) world 1 && are_backed world id))) ≡ true)
  two = both (length world == 2) _ passed

  start_has_two : ((length genesis.chains == 2) ≡ true) × ((keeps_supply (start genesis) world 0 && (keeps_supply (start genesis) world 1 && are_backed world id)) ≡ true)
  start_has_two = both (length genesis.chains == 2) _ two.1

  first_stays : (keeps_supply (start genesis) world 0 ≡ true) × ((keeps_supply (start genesis) world 1 && are_backed world id) ≡ true)
  first_stays = both (keeps_supply (start genesis) world 0) _ start_has_two.1

  second_stays : (keeps_supply (start genesis) world 1 ≡ true) × (are_backed world id ≡ true)
  second_stays = both (keeps_supply (start genesis) world 1) _ first_stays.1

  backed_both : (list_all (is_backed_over world 0 id 1) (balances_of world 0) ≡ true) × (list_all (is_backed_over world 1 id 0) (balances_of world 1) ≡ true)
  backed_both = both (list_all (is_backed_over world 0 id 1) (balances_of world 0)) _ second_stays.1

  supply_stays : (chain : ℕ) (denom : Text) → is_base_denom denom ≡ true → supply_at world chain denom ≡ supply_at (start genesis) chain denom
  supply_stays zero denom base = lemma_stays_in (start genesis) world 0 first_stays.0 denom base
  supply_stays (suc zero) denom base = lemma_stays_in (start genesis) world 1 second_stays.0 denom base
  supply_stays (suc (suc k)) denom base =
      lemma_supply_none world k denom (eqb-true (length world) 2 two.0)
      ∙ sym (lemma_supply_none (start genesis) k denom (lemma_start_two genesis.chains (eqb-true (length genesis.chains) 2 start_has_two.0)))

  supply_backed : (chain : ℕ) (denom : Text) → 1 ≤ supply_at world chain denom → (is_base_denom denom ≡ true) ⊎ IsBacked world chain denom
  supply_backed zero denom some = lemma_backed_in world 0 id 1 backed_both.0 denom some
  supply_backed (suc zero) denom some = lemma_backed_in world 1 id 0 backed_both.1 denom some
  supply_backed (suc (suc k)) denom some = absurd (let none = lemma_supply_none world k denom (eqb-true (length world) 2 two.0) in omega arith)

  pub lemma_keeps_supplies : KeepsSupplies genesis world
  lemma_keeps_supplies = record { stays = supply_stays; backed = supply_backed }
