-- Sorted, these are the same holdings in another order.
use Rattle.std.proofs.Common.{◌≡◌, ◌∙◌, sym, subst, true}
use Rattle.std.specs.List.{list_all}
use Rattle.ibc_ids.specs.Names.{is_base_denom}
use Rattle.ibc_machine.specs.chain.Genesis.{Holding, is_fair}
use Rattle.ibc_bank.proofs.AnyOrder.{fair_in_any_order, pass_alike}
use Rattle.ibc_ledger.specs.SortedHoldings.{all_shown, are_base}
use Rattle.ibc_ledger.proofs.genesis.are_fair_once_sorted.Goals as goal

pub are_fair_in_order-requires-clause-base : goal.are_fair_in_order-requires-clause-base
are_fair_in_order-requires-clause-base c =
    let sorted = c.in-Ok.sorted.items in
    subst (λ (ys : _). are_base (all_shown ys) ≡ true) (sym c.deref.ensures.value) (pass_alike c.args.holdings.now (all_shown sorted) c.in-Ok.ensures.same (λ (h : Holding). is_base_denom h.1) ∙ c.requires)

pub returns-in-Ok : goal.returns-in-Ok
returns-in-Ok c =
    let sorted = c.in-Ok.sorted.items in
    subst (λ (ys : _). c.are_fair_in_order.result ≡ list_all (is_fair (all_shown ys)) (all_shown ys)) c.deref.ensures.value c.are_fair_in_order.ensures
    ∙ fair_in_any_order c.args.holdings.now (all_shown sorted) c.in-Ok.ensures.same
