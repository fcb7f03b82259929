-- The totals stay what is held, burnt in flight and in hand, where tokens are taken from a place or put into one.
use Rattle.std.proofs.Common.{◌≡◌, ℕ, ◌+◌, ◌-◌, ◌<◌, ◌≤◌, ◌^◌, Bool, true, false, refl, ap, sym, subst, Some, None, arith, nat_lt, ltb-true, if◌then◌else◌}
use Rattle.std.specs.FinMap.{is_sorted}
use Rattle.ibc_ids.specs.Texts.{Text, same_text, text_cmp, pair_cmp}
use Rattle.ibc_ids.specs.Maps.{Map}
use Rattle.ibc_ids.proofs.Texts.{same_text_itself, text_cmp_total}
use Rattle.ibc_machine.specs.ics20.Bank.{Balances, balance, with_balance, supply, give, pay}
use Rattle.ibc_machine.proofs.FiniteMaps.{by_text, by_pair, pair_cmp_total}
use Rattle.ibc_machine.proofs.SortedMaps.{Sorted-from}
use Rattle.ibc_machine.proofs.Measures.{Test, measure-with_balance, given, paid}
use Rattle.ibc_bank.specs.Amounts.{AreKept, amount_at, with_amount}
use Rattle.ibc_bank.specs.Moves.{BankState, token_of, burnt_of, with_burnt, with_balances}
use Rattle.ibc_bank.specs.BankModel.{IsBalanced, amount_in_transit, no_amount}
use Rattle.ibc_bank.proofs.Writes.{by_denom, denom_amount, kept-with_amount}

-- ---- supplies

abbrev of_denom : Text → Test
of_denom denom key = same_text key.1 denom

-- where one balance is set
pub supply-with_balance : (holder denom : Text) (n : ℕ) (b : Balances) → is_sorted pair_cmp b ≡ true → (d : Text)
    → supply (with_balance holder denom n b) d + (if same_text denom d then balance b holder denom else 0) ≡ supply b d + (if same_text denom d then n else 0)
supply-with_balance holder denom n b sorted d = measure-with_balance (of_denom d) holder denom n b (Sorted-from pair_cmp b sorted)

of_itself : (denom : Text) (n : ℕ) → (if same_text denom denom then n else 0) ≡ n
of_itself denom n = ap (λ t. if t then n else 0) (same_text_itself denom)

-- a balance is a part of the supply
pub balance_within : (holder denom : Text) (b : Balances) → is_sorted pair_cmp b ≡ true → balance b holder denom ≤ supply b denom
balance_within holder denom b sorted =
    let parts = supply-with_balance holder denom 0 b sorted denom in
    let mine = of_itself denom (balance b holder denom) in
    let none = of_itself denom 0 in
    omega arith

balance_is_kept : (holder denom : Text) (n : ℕ) (b : Balances) → AreKept pair_cmp b → AreKept pair_cmp (with_balance holder denom n b)
balance_is_kept holder denom n b kept = kept-with_amount pair_cmp_total by_pair (holder, denom) n b kept

amount_is_kept : (denom : Text) (n : ℕ) (m : Map Text ℕ) → AreKept text_cmp m → AreKept text_cmp (with_amount text_cmp denom n m)
amount_is_kept denom n m kept = kept-with_amount text_cmp_total by_text denom n m kept

-- ---- what is in hand has room

module _ (denom : Text) (amount : ℕ) (bank : BankState) (totals : Map Text ℕ) (b : IsBalanced (amount_in_transit (token_of denom amount)) bank totals) where
  whole : amount_at text_cmp denom totals ≡ supply bank.balances denom + burnt_of bank denom + amount
  whole =
      let t = b.tallied denom in
      let mine = of_itself denom amount in
      omega arith

  pub balance_fits : (holder : Text) → balance bank.balances holder denom + amount < 2 ^ 128
  balance_fits holder =
      let part = balance_within holder denom bank.balances b.held_kept.sorted in
      let w = whole in
      let limit = b.bounded denom in
      omega arith

  pub burnt_fits : burnt_of bank denom + amount < 2 ^ 128
  burnt_fits = let w = whole in let limit = b.bounded denom in omega arith

  pub hand_within : amount ≤ amount_at text_cmp denom totals
  hand_within = let w = whole in omega arith

  -- ---- put into an account, burnt, or put outside

  pub put_in_account : (holder : Text) → IsBalanced no_amount (with_balances bank (give holder (token_of denom amount) bank.balances)) totals
  put_in_account holder = record {
    held_kept = balance_is_kept holder denom (balance bank.balances holder denom + amount) bank.balances b.held_kept;
    burnt_kept = b.burnt_kept;
    totals_kept = b.totals_kept;
    tallied = λ d.
        let more = (given (of_denom d) holder (token_of denom amount) bank.balances (Sorted-from pair_cmp bank.balances b.held_kept.sorted)).measured in
        let t = b.tallied d in
        omega arith;
    bounded = b.bounded;
  }

  pub put_in_burnt : IsBalanced no_amount (with_burnt denom (burnt_of bank denom + amount) bank) totals
  put_in_burnt = record {
    held_kept = b.held_kept;
    burnt_kept = amount_is_kept denom (burnt_of bank denom + amount) bank.burnt b.burnt_kept;
    totals_kept = b.totals_kept;
    tallied = λ d.
        let now = denom_amount denom d (burnt_of bank denom + amount) bank.burnt b.burnt_kept.sorted in
        let t : amount_at text_cmp d totals ≡ supply bank.balances d + (if same_text denom d then burnt_of bank denom + amount else amount_at text_cmp d bank.burnt) =
        by_denom denom d (λ t x. amount_at text_cmp x totals ≡ supply bank.balances x + burnt_of bank x + (if t then amount else 0) → amount_at text_cmp x totals ≡ supply bank.balances x + (if t then burnt_of bank denom + amount else amount_at text_cmp x bank.burnt))
        (λ h. omega arith) (λ h. omega arith) (b.tallied d) in
        omega arith;
    bounded = b.bounded;
  }

  pub put_outside : IsBalanced no_amount bank (with_amount text_cmp denom (amount_at text_cmp denom totals - amount) totals)
  put_outside = record {
    held_kept = b.held_kept;
    burnt_kept = b.burnt_kept;
    totals_kept = amount_is_kept denom (amount_at text_cmp denom totals - amount) totals b.totals_kept;
    tallied = λ d.
        let now = denom_amount denom d (amount_at text_cmp denom totals - amount) totals b.totals_kept.sorted in
        let t : (if same_text denom d then amount_at text_cmp denom totals - amount else amount_at text_cmp d totals) ≡ supply bank.balances d + burnt_of bank d =
        by_denom denom d (λ t x. amount_at text_cmp x totals ≡ supply bank.balances x + burnt_of bank x + (if t then amount else 0) → (if t then amount_at text_cmp denom totals - amount else amount_at text_cmp x totals) ≡ supply bank.balances x + burnt_of bank x)
        (λ h. omega arith) (λ h. omega arith) (b.tallied d) in
        omega arith;
    bounded = λ d.
        let now = denom_amount denom d (amount_at text_cmp denom totals - amount) totals b.totals_kept.sorted in
        let t : (if same_text denom d then amount_at text_cmp denom totals - amount else amount_at text_cmp d totals) < 2 ^ 128 =
        by_denom denom d (λ t x. amount_at text_cmp x totals < 2 ^ 128 → (if t then amount_at text_cmp denom totals - amount else amount_at text_cmp x totals) < 2 ^ 128)
        (λ h. omega arith) (λ h. h) (b.bounded d) in
        omega arith;
  }

-- ---- a payment, as the balance that is left

pub paid_less : (holder denom : Text) (amount : ℕ) (b : Balances) → amount ≤ balance b holder denom
    → pay holder (token_of denom amount) b ≡ Some (with_balance holder denom (balance b holder denom - amount) b)
paid_less holder denom amount b enough = go (nat_lt (balance b holder denom) amount) refl
  where
    go : (p : Bool) → nat_lt (balance b holder denom) amount ≡ p
        → (if p then None else Some (with_balance holder denom (balance b holder denom - amount) b)) ≡ Some (with_balance holder denom (balance b holder denom - amount) b)
    go false is = refl
    go true is = let less = ltb-true (balance b holder denom) amount is in absurd (omega arith)

-- ---- taken from an account, from what was burnt, or from outside

module _ (denom : Text) (amount : ℕ) (bank : BankState) (totals : Map Text ℕ) (b : IsBalanced no_amount bank totals) where
  pub taken_from_account : (holder : Text) → amount ≤ balance bank.balances holder denom
      → IsBalanced (amount_in_transit (token_of denom amount)) (with_balances bank (with_balance holder denom (balance bank.balances holder denom - amount) bank.balances)) totals
  taken_from_account holder enough =
      let left : ℕ = balance bank.balances holder denom - amount in
      let moved = λ (d : Text). paid (of_denom d) holder (token_of denom amount) bank.balances (with_balance holder denom (balance bank.balances holder denom - amount) bank.balances)
      (Sorted-from pair_cmp bank.balances b.held_kept.sorted) (paid_less holder denom amount bank.balances enough) in
      record {
        held_kept = balance_is_kept holder denom left bank.balances b.held_kept;
        burnt_kept = b.burnt_kept;
        totals_kept = b.totals_kept;
        tallied = λ d. let less = (moved d).measured in let t = b.tallied d in omega arith;
        bounded = b.bounded;
      }

  pub taken_from_burnt : amount ≤ burnt_of bank denom → IsBalanced (amount_in_transit (token_of denom amount)) (with_burnt denom (burnt_of bank denom - amount) bank) totals
  taken_from_burnt enough = record {
    held_kept = b.held_kept;
    burnt_kept = amount_is_kept denom (burnt_of bank denom - amount) bank.burnt b.burnt_kept;
    totals_kept = b.totals_kept;
    tallied = λ d.
        let now = denom_amount denom d (burnt_of bank denom - amount) bank.burnt b.burnt_kept.sorted in
        let t : amount_at text_cmp d totals ≡ supply bank.balances d + (if same_text denom d then burnt_of bank denom - amount else amount_at text_cmp d bank.burnt) + (if same_text denom d then amount else 0) =
        by_denom denom d (λ t x. amount_at text_cmp x totals ≡ supply bank.balances x + burnt_of bank x + 0 → amount_at text_cmp x totals ≡ supply bank.balances x + (if t then burnt_of bank denom - amount else amount_at text_cmp x bank.burnt) + (if t then amount else 0))
        (λ h. omega arith) (λ h. omega arith) (b.tallied d) in
        omega arith;
    bounded = b.bounded;
  }

  pub taken_from_outside : amount_at text_cmp denom totals + amount < 2 ^ 128
      → IsBalanced (amount_in_transit (token_of denom amount)) bank (with_amount text_cmp denom (amount_at text_cmp denom totals + amount) totals)
  taken_from_outside fits = record {
    held_kept = b.held_kept;
    burnt_kept = b.burnt_kept;
    totals_kept = amount_is_kept denom (amount_at text_cmp denom totals + amount) totals b.totals_kept;
    tallied = λ d.
        let now = denom_amount denom d (amount_at text_cmp denom totals + amount) totals b.totals_kept.sorted in
        let t : (if same_text denom d then amount_at text_cmp denom totals + amount else amount_at text_cmp d totals) ≡ supply bank.balances d + burnt_of bank d + (if same_text denom d then amount else 0) =
        by_denom denom d (λ t x. amount_at text_cmp x totals ≡ supply bank.balances x + burnt_of bank x + 0 → (if t then amount_at text_cmp denom totals + amount else amount_at text_cmp x totals) ≡ supply bank.balances x + burnt_of bank x + (if t then amount else 0))
        (λ h. omega arith) (λ h. omega arith) (b.tallied d) in
        omega arith;
    bounded = λ d.
        let now = denom_amount denom d (amount_at text_cmp denom totals + amount) totals b.totals_kept.sorted in
        let t : (if same_text denom d then amount_at text_cmp denom totals + amount else amount_at text_cmp d totals) < 2 ^ 128 =
        by_denom denom d (λ t x. amount_at text_cmp x totals < 2 ^ 128 → (if t then amount_at text_cmp denom totals + amount else amount_at text_cmp x totals) < 2 ^ 128)
        (λ h. fits) (λ h. h) (b.bounded d) in
        omega arith;
  }

-- ---- what was burnt is settled

pub settled_tally : (denom : Text) (amount : ℕ) (balances : Balances) (burnt totals burnt_then totals_then : Map Text ℕ)
    → IsBalanced no_amount (record { balances = balances; burnt = burnt }) totals → amount ≤ amount_at text_cmp denom burnt
    → burnt_then ≡ with_amount text_cmp denom (amount_at text_cmp denom burnt - amount) burnt
    → totals_then ≡ with_amount text_cmp denom (amount_at text_cmp denom totals - amount) totals
    → IsBalanced no_amount (record { balances = balances; burnt = burnt_then }) totals_then
settled_tally denom amount balances burnt totals burnt_then totals_then b enough less fewer =
    let bank : BankState = record { balances = balances; burnt = burnt } in
    let after : BankState = with_burnt denom (amount_at text_cmp denom burnt - amount) bank in
    let done = put_outside denom amount after totals (taken_from_burnt denom amount bank totals b enough) in
    subst (λ m. IsBalanced no_amount (record { balances = balances; burnt = burnt_then }) m) (sym fewer)
    (subst (λ m. IsBalanced no_amount (record { balances = balances; burnt = m }) (with_amount text_cmp denom (amount_at text_cmp denom totals - amount) totals)) (sym less) done)

-- ---- a balance is set

module _ (user denom : Text) (amount : ℕ) (bank : BankState) (totals : Map Text ℕ) (b : IsBalanced no_amount bank totals)
    (fits : supply (with_balance user denom amount bank.balances) denom + burnt_of bank denom < 2 ^ 128) where
  pub held_within : balance bank.balances user denom ≤ amount_at text_cmp denom totals
  held_within =
      let part = balance_within user denom bank.balances b.held_kept.sorted in
      let t = b.tallied denom in
      omega arith

  -- the supply afterwards
  set_supply : supply (with_balance user denom amount bank.balances) denom + balance bank.balances user denom ≡ supply bank.balances denom + amount
  set_supply =
      let parts = supply-with_balance user denom amount bank.balances b.held_kept.sorted denom in
      let old = of_itself denom (balance bank.balances user denom) in
      let new = of_itself denom amount in
      omega arith

  pub held_fits : amount_at text_cmp denom totals - balance bank.balances user denom + amount < 2 ^ 128
  held_fits =
      let part = balance_within user denom bank.balances b.held_kept.sorted in
      let t = b.tallied denom in
      let s = set_supply in
      omega arith

  pub held_tally : IsBalanced no_amount (with_balances bank (with_balance user denom amount bank.balances))
      (with_amount text_cmp denom (amount_at text_cmp denom totals - balance bank.balances user denom + amount) totals)
  held_tally =
      let total : ℕ = amount_at text_cmp denom totals - balance bank.balances user denom + amount in
      record {
        held_kept = balance_is_kept user denom amount bank.balances b.held_kept;
        burnt_kept = b.burnt_kept;
        totals_kept = amount_is_kept denom (amount_at text_cmp denom totals - balance bank.balances user denom + amount) totals b.totals_kept;
        tallied = λ d.
            let now = denom_amount denom d (amount_at text_cmp denom totals - balance bank.balances user denom + amount) totals b.totals_kept.sorted in
            let parts = supply-with_balance user denom amount bank.balances b.held_kept.sorted d in
            let within = held_within in
            let t = by_denom denom d (λ t x. amount_at text_cmp x totals ≡ supply bank.balances x + burnt_of bank x + 0
            → supply (with_balance user denom amount bank.balances) x + (if t then balance bank.balances user denom else 0) ≡ supply bank.balances x + (if t then amount else 0)
            → (if t then amount_at text_cmp denom totals - balance bank.balances user denom + amount else amount_at text_cmp x totals) ≡ supply (with_balance user denom amount bank.balances) x + burnt_of bank x)
            (λ h k. omega arith) (λ h k. omega arith) (b.tallied d) parts in
            omega arith;
        bounded = λ d.
            let now = denom_amount denom d (amount_at text_cmp denom totals - balance bank.balances user denom + amount) totals b.totals_kept.sorted in
            let limit = held_fits in
            let t = by_denom denom d (λ t x. amount_at text_cmp x totals < 2 ^ 128 → (if t then amount_at text_cmp denom totals - balance bank.balances user denom + amount else amount_at text_cmp x totals) < 2 ^ 128)
            (λ h. limit) (λ h. h) (b.bounded d) in
            omega arith;
      }
