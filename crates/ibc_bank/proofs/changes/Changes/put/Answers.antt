-- What is in hand has room wherever it is put.
use Rattle.std.proofs.Common.{◌≡◌, ◌+◌, ◌-◌, ap, sym, ◌∙◌, subst, arith}
use Rattle.ibc_ids.specs.Texts.{text_cmp}
use Rattle.ibc_machine.specs.ics20.Bank.{with_balance}
use Rattle.ibc_bank.specs.Amounts.{amount_at, with_amount, with_amounts}
use Rattle.ibc_bank.specs.Moves.{burnt_of, with_burnt, with_balances}
use Rattle.ibc_bank.specs.Parties.{party_text}
use Rattle.ibc_bank.specs.BankModel.{IsBalanced, no_amount, state_after_changes, totals_after}
use Rattle.ibc_bank.proofs.Changed.{held_written, burnt_written, total_written, on_ok}
use Rattle.ibc_bank.proofs.Tallies.{balance_fits, burnt_fits, hand_within, put_in_account, put_in_burnt, put_outside}
use Rattle.ibc_bank.proofs.changes.Changes.put.Goals as goal

pub overflow_add-held : goal.overflow_add-held
overflow_add-held c =
    let fits = balance_fits c.args.denom.now c.args.amount (state_after_changes c.args.self.now c.args.books.now) (totals_after c.args.self.now c.args.books.now) c.requires (party_text c.in-Account.party) in
    let held = c.held_by-held.ensures in
    omega arith

pub overflow_add-burnt : goal.overflow_add-burnt
overflow_add-burnt c =
    let fits = burnt_fits c.args.denom.now c.args.amount (state_after_changes c.args.self.now c.args.books.now) (totals_after c.args.self.now c.args.books.now) c.requires in
    let burnt : c.after-burnt.result ≡ burnt_of (state_after_changes c.args.self.now c.args.books.now) c.args.denom.now =
    c.after-burnt.ensures ∙ ap (λ cs. amount_at text_cmp c.args.denom.now (with_amounts text_cmp cs c.args.books.now.burnt.pairs)) c.deref.ensures.value in
    omega arith

pub overflow_sub-total : goal.overflow_sub-total
overflow_sub-total c =
    let within = hand_within c.args.denom.now c.args.amount (state_after_changes c.args.self.now c.args.books.now) (totals_after c.args.self.now c.args.books.now) c.requires in
    let total : c.after-total.result ≡ amount_at text_cmp c.args.denom.now (totals_after c.args.self.now c.args.books.now) =
    c.after-total.ensures ∙ ap (λ cs. amount_at text_cmp c.args.denom.now (with_amounts text_cmp cs c.args.books.now.totals.pairs)) c.deref-in-Outside.ensures.value in
    omega arith

pub returns-in-Account-clause-balanced : goal.returns-in-Account-clause-balanced
returns-in-Account-clause-balanced c =
    let old = state_after_changes c.args.self.now c.args.books.now in
    let totals = totals_after c.args.self.now c.args.books.now in
    let denom = c.args.denom.now in
    let amount = c.args.amount in
    let holder = party_text c.in-Account.party in
    let put = subst (λ n. IsBalanced no_amount (with_balances old (with_balance holder denom (n + amount) old.balances)) totals) (sym c.held_by-held.ensures)
    (put_in_account denom amount old totals c.requires holder) in
    on_ok c.set_held.result
    (λ wrote. held_written no_amount c.args.self.now c.set_held.new.self c.args.books.now holder denom (c.held_by-held.result + amount) wrote c.set_held.ensures.burnt c.set_held.ensures.totals put)
    c.set_held.ensures.ok

pub returns-in-Burnt-clause-balanced : goal.returns-in-Burnt-clause-balanced
returns-in-Burnt-clause-balanced c =
    let old = state_after_changes c.args.self.now c.args.books.now in
    let totals = totals_after c.args.self.now c.args.books.now in
    let denom = c.args.denom.now in
    let amount = c.args.amount in
    let burnt : c.after-burnt.result ≡ burnt_of (state_after_changes c.args.self.now c.args.books.now) c.args.denom.now =
    c.after-burnt.ensures ∙ ap (λ cs. amount_at text_cmp c.args.denom.now (with_amounts text_cmp cs c.args.books.now.burnt.pairs)) c.deref.ensures.value in
    let put = subst (λ n. IsBalanced no_amount (with_burnt denom (n + amount) old) totals) (sym burnt) (put_in_burnt denom amount old totals c.requires) in
    on_ok c.set_burnt.result
    (λ wrote. burnt_written no_amount c.args.self.now c.set_burnt.new.self c.args.books.now denom (c.after-burnt.result + amount) wrote c.set_burnt.ensures.held c.set_burnt.ensures.totals put)
    c.set_burnt.ensures.ok

pub returns-in-Outside-clause-balanced : goal.returns-in-Outside-clause-balanced
returns-in-Outside-clause-balanced c =
    let old = state_after_changes c.args.self.now c.args.books.now in
    let totals = totals_after c.args.self.now c.args.books.now in
    let denom = c.args.denom.now in
    let amount = c.args.amount in
    let total : c.after-total.result ≡ amount_at text_cmp c.args.denom.now (totals_after c.args.self.now c.args.books.now) =
    c.after-total.ensures ∙ ap (λ cs. amount_at text_cmp c.args.denom.now (with_amounts text_cmp cs c.args.books.now.totals.pairs)) c.deref-in-Outside.ensures.value in
    let put = subst (λ n. IsBalanced no_amount old (with_amount text_cmp denom (n - amount) totals)) (sym total) (put_outside denom amount old totals c.requires) in
    on_ok c.set_total.result
    (λ wrote. total_written no_amount c.args.self.now c.set_total.new.self c.args.books.now denom (c.after-total.result - amount) wrote c.set_total.ensures.held c.set_total.ensures.burnt put)
    c.set_total.ensures.ok
