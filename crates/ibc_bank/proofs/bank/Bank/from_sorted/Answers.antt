-- What is held so far, and the holding at the place, fit together.
use Rattle.std.proofs.Common.{◌∙◌, ap, sym, map}
use Rattle.ibc_ids.specs.Texts.{text_cmp}
use Rattle.ibc_bank.specs.Amounts.{amount_at}
use Rattle.ibc_bank.specs.Moves.{BankState}
use Rattle.ibc_bank.specs.SortedStarts.{shown}
use Rattle.ibc_bank.proofs.AnyOrder.{read_at, shown_inside}
use Rattle.ibc_bank.proofs.StartOrders.{started_more}
use Rattle.ibc_bank.proofs.Starts.{starting_fits, fits_alone}
use Rattle.ibc_bank.proofs.bank.Bank.from_sorted.Goals as goal

pub hold-requires-clause-fits : goal.hold-requires-clause-fits
hold-requires-clause-fits c =
    let row = c.args.sorted.now in
    let item = c.holding-item.result in
    let inv = c.loop-holding.invariant in
    let i = c.loop-holding.holding-index in
    let here = sym (read_at row i item c.loop-holding-test.true c.holding-item.is item.now) in
    let fits = starting_fits (map shown row) c.requires i item.now (shown_inside row i c.loop-holding-test.true) here c.loop-holding.books.held.pairs inv.held inv.balanced.held_kept.sorted in
    fits_alone _ _ (ap (λ m. amount_at text_cmp item.now.1 m) inv.unburnt) fits

pub loop-holding-preserved : goal.loop-holding-preserved
loop-holding-preserved c =
    let row = c.args.sorted.now in
    let item = c.holding-item.result in
    let inv = c.loop-holding.invariant in
    let i = c.loop-holding.holding-index in
    record {
      held = started_more (map shown row) i item.now (shown_inside row i c.loop-holding-test.true) (read_at row i item c.loop-holding-test.true c.holding-item.is) c.loop-holding.books.held.pairs _ inv.held
          (ap (λ (s : BankState). s.balances) c.in_ok-hold.ensures.ok);
      unburnt = ap (λ (s : BankState). s.burnt) c.in_ok-hold.ensures.ok ∙ inv.unburnt;
      balanced = c.in_ok-hold.ensures.balanced;
    }
