-- What is taken is in hand.
use Rattle.std.proofs.Common.{◌≡◌, ◌+◌, ◌-◌, ◌<◌, ◌≤◌, ◌^◌, ap, sym, ◌∙◌, subst, arith}
use Rattle.ibc_ids.specs.Texts.{text_cmp}
use Rattle.ibc_machine.specs.ics20.Bank.{balance, with_balance}
use Rattle.ibc_bank.specs.Amounts.{amount_at, with_amount, with_amounts}
use Rattle.ibc_bank.specs.Moves.{token_of, burnt_of, with_burnt, with_balances}
use Rattle.ibc_bank.specs.Parties.{party_text}
use Rattle.ibc_bank.specs.BankModel.{IsBalanced, amount_in_transit, state_after_changes, totals_after}
use Rattle.ibc_bank.proofs.Changed.{held_written, burnt_written, total_written}
use Rattle.ibc_bank.proofs.Tallies.{taken_from_account, taken_from_burnt, taken_from_outside}
use Rattle.ibc_bank.proofs.changes.Changes.take.Goals as goal

pub returns-in_ok-set_held-in-Account-clause-balanced :
    goal.returns-in_ok-set_held-in-Account-clause-balanced
returns-in_ok-set_held-in-Account-clause-balanced c =
    let old = state_after_changes c.args.self.now c.args.books.now in
    let denom = c.args.denom.now in
    let amount = c.args.amount in
    let holder = party_text c.in-Account.party in
    let wrote = c.in_ok-set_held-in-Account.ensures in
    let held = c.held_by-held.ensures in
    let totals = totals_after c.args.self.now c.args.books.now in
    let room = c.if-held-amount.false in
    let enough : c.args.amount ≤ balance (state_after_changes c.args.self.now c.args.books.now).balances (party_text c.in-Account.party) c.args.denom.now = omega arith in
    held_written (amount_in_transit (token_of denom amount)) c.args.self.now c.set_held.new.self c.args.books.now holder denom (c.held_by-held.result - amount) wrote.ok wrote.burnt wrote.totals
    (subst (λ n. IsBalanced (amount_in_transit (token_of denom amount)) (with_balances old (with_balance holder denom (n - amount) old.balances)) totals) (sym held)
    (taken_from_account denom amount old totals c.requires holder enough))

pub returns-in_ok-set_burnt-in-Burnt-clause-balanced :
    goal.returns-in_ok-set_burnt-in-Burnt-clause-balanced
returns-in_ok-set_burnt-in-Burnt-clause-balanced c =
    let old = state_after_changes c.args.self.now c.args.books.now in
    let denom = c.args.denom.now in
    let amount = c.args.amount in
    let wrote = c.in_ok-set_burnt-in-Burnt.ensures in
    let burnt : c.after-burnt.result ≡ burnt_of (state_after_changes c.args.self.now c.args.books.now) c.args.denom.now =
    c.after-burnt.ensures ∙ ap (λ cs. amount_at text_cmp c.args.denom.now (with_amounts text_cmp cs c.args.books.now.burnt.pairs)) c.deref.ensures.value in
    let room = c.if-burnt-amount.false in
    let enough : c.args.amount ≤ burnt_of (state_after_changes c.args.self.now c.args.books.now) c.args.denom.now = omega arith in
    burnt_written (amount_in_transit (token_of denom amount)) c.args.self.now c.set_burnt.new.self c.args.books.now denom (c.after-burnt.result - amount) wrote.ok wrote.held wrote.totals
    (subst (λ n. IsBalanced (amount_in_transit (token_of denom amount)) (with_burnt denom (n - amount) old) (totals_after c.args.self.now c.args.books.now)) (sym burnt)
    (taken_from_burnt denom amount old (totals_after c.args.self.now c.args.books.now) c.requires enough))

pub returns-in_ok-set_total-in-Some-clause-balanced :
    goal.returns-in_ok-set_total-in-Some-clause-balanced
returns-in_ok-set_total-in-Some-clause-balanced c =
    let old = state_after_changes c.args.self.now c.args.books.now in
    let totals = totals_after c.args.self.now c.args.books.now in
    let denom = c.args.denom.now in
    let amount = c.args.amount in
    let wrote = c.in_ok-set_total-in-Some.ensures in
    let total : c.after-total.result ≡ amount_at text_cmp c.args.denom.now (totals_after c.args.self.now c.args.books.now) =
    c.after-total.ensures ∙ ap (λ cs. amount_at text_cmp c.args.denom.now (with_amounts text_cmp cs c.args.books.now.totals.pairs)) c.deref-in-Outside.ensures.value in
    let sum = c.in-Some.ensures in
    let fits : amount_at text_cmp c.args.denom.now (totals_after c.args.self.now c.args.books.now) + c.args.amount < 2 ^ 128 = omega (arith, sum.0) in
    total_written (amount_in_transit (token_of denom amount)) c.args.self.now c.set_total.new.self c.args.books.now denom c.in-Some.total wrote.ok wrote.held wrote.burnt
    (subst (λ n. IsBalanced (amount_in_transit (token_of denom amount)) old (with_amount text_cmp denom n totals)) (sym (sum.1 ∙ ap (λ n. n + c.args.amount) total))
    (taken_from_outside denom amount old totals c.requires fits))
