-- The same holdings in another order.
use Rattle.std.proofs.Common.{◌≡◌, ◌∙◌, map, ap, sym, subst, true}
use Rattle.std.specs.Prelude.{IfOk}
use Rattle.std.specs.List.{list_all}
use Rattle.std.specs.List.Sorted.{IsPermutation}
use Rattle.ibc_machine.specs.chain.Genesis.{is_fair, starting_balances}
use Rattle.ibc_bank.specs.SortedStarts.{shown}
use Rattle.ibc_bank.proofs.AnyOrder.{fair_in_any_order}
use Rattle.ibc_bank.proofs.StartOrders.{start_in_any_order}
use Rattle.ibc_bank.proofs.bank.Bank.from_start.Goals as goal

pub from_sorted-requires : goal.from_sorted-requires
from_sorted-requires c =
    let sorted = c.in-Ok.sorted.items in
    let holdings = c.args.start.now.balances.items in
    let same = subst (λ xs. IsPermutation xs (map shown sorted)) c.as_slice-holdings.ensures.value c.in-Ok.ensures in
    subst (λ (ys : _). list_all (is_fair (map shown ys)) (map shown ys) ≡ true) (sym c.deref.ensures.value) (fair_in_any_order holdings (map shown sorted) same ∙ c.requires)

pub returns-in-Ok-clause-balances : goal.returns-in-Ok-clause-balances
returns-in-Ok-clause-balances c =
    let sorted = c.in-Ok.sorted.items in
    let holdings = c.args.start.now.balances.items in
    let same = subst (λ xs. IsPermutation xs (map shown sorted)) c.as_slice-holdings.ensures.value c.in-Ok.ensures in
    let fair = fair_in_any_order holdings (map shown sorted) same ∙ c.requires in
    let alike = ap (λ (ys : _). starting_balances (map shown ys)) c.deref.ensures.value ∙ start_in_any_order holdings (map shown sorted) same c.requires fair in
    subst (λ z. IfOk c.from_sorted.result (λ bank. bank.balances ≡ z)) alike c.from_sorted.ensures.balances
