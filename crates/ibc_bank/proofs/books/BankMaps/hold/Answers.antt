-- The total changes as the balance does.
use Rattle.std.proofs.Common.{ℕ, refl, ◌≡◌, ◌-◌, ◌+◌, ap, ◌∙◌, arith}
use Rattle.ibc_ids.specs.Texts.{Text, text_cmp}
use Rattle.ibc_machine.specs.ics20.Bank.{Balances, balance, with_balance}
use Rattle.ibc_bank.specs.Amounts.{amount_at, with_amount}
use Rattle.ibc_bank.specs.Moves.{with_balances}
use Rattle.ibc_bank.specs.BankModel.{state_of, no_amount}
use Rattle.ibc_bank.proofs.Changed.{balanced_as, on_ok}
use Rattle.ibc_bank.proofs.Tallies.{held_within, held_fits, held_tally}
use Rattle.ibc_bank.proofs.books.BankMaps.hold.Goals as goal

-- what was read, by the names that the key was made of
held : (b : Balances) (got : ℕ) (holder name user denom : Text) → got ≡ balance b holder name → holder ≡ user → name ≡ denom → got ≡ balance b user denom
held b got holder name user denom is same alike = is ∙ ap (λ h. balance b h name) same ∙ ap (λ d. balance b user d) alike

pub overflow_sub-total : goal.overflow_sub-total
overflow_sub-total c =
    let within = held_within c.args.user.now c.args.denom.now c.args.amount (state_of c.args.self.now) c.args.self.now.totals.pairs c.requires.balanced c.requires.fits in
    let old = held c.args.self.now.held.pairs c.get-2.result c.in_ok-holder.field-0 c.in_ok-clone.field-0 c.args.user.now c.args.denom.now c.get-2.ensures c.in_ok-holder.ensures c.in_ok-clone.ensures.cases in
    let total = c.get.ensures in
    omega arith

pub overflow_add-total : goal.overflow_add-total
overflow_add-total c =
    let fits = held_fits c.args.user.now c.args.denom.now c.args.amount (state_of c.args.self.now) c.args.self.now.totals.pairs c.requires.balanced c.requires.fits in
    let old = held c.args.self.now.held.pairs c.get-2.result c.in_ok-holder.field-0 c.in_ok-clone.field-0 c.args.user.now c.args.denom.now c.get-2.ensures c.in_ok-holder.ensures c.in_ok-clone.ensures.cases in
    let total = c.get.ensures in
    omega arith

pub returns-clause-balanced : goal.returns-clause-balanced
returns-clause-balanced c =
    let user = c.args.user.now in
    let denom = c.args.denom.now in
    let amount = c.args.amount in
    let b = c.args.self.now.held.pairs in
    let totals = c.args.self.now.totals.pairs in
    let tally = held_tally user denom amount (state_of c.args.self.now) totals c.requires.balanced c.requires.fits in
    let key = ap (λ h. with_balance h c.in_ok-clone.field-0 amount b) c.in_ok-holder.ensures ∙ ap (λ d. with_balance user d amount b) c.in_ok-clone.ensures.cases in
    let held_now = c.in_ok-set.ensures.ok ∙ key in
    let sum : c.get.result - c.get-2.result + amount ≡ amount_at text_cmp denom totals - balance b user denom + amount =
    ap (λ n. n - c.get-2.result + c.args.amount) c.get.ensures ∙ ap (λ n. amount_at text_cmp c.args.denom.now c.args.self.now.totals.pairs - n + c.args.amount) (held b c.get-2.result c.in_ok-holder.field-0 c.in_ok-clone.field-0 user denom c.get-2.ensures c.in_ok-holder.ensures c.in_ok-clone.ensures.cases) in
    on_ok c.set-2.result
    (λ wrote. balanced_as no_amount (with_balances (state_of c.args.self.now) (with_balance user denom amount b))
    (state_of (record { held = c.set.new.self; burnt = c.args.self.now.burnt; totals = c.set-2.new.self }))
    (with_amount text_cmp denom (amount_at text_cmp denom totals - balance b user denom + amount) totals) c.set-2.new.self.pairs
    held_now refl (wrote ∙ ap (λ d. with_amount text_cmp d (c.get.result - c.get-2.result + amount) totals) c.in_ok-clone-2.ensures.cases ∙ ap (λ n. with_amount text_cmp denom n totals) sum) tally)
    c.set-2.ensures.ok
