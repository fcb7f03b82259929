-- What is held so far, and the holding at the place, fit together.
use Rattle.std.proofs.Common.{ap}
use Rattle.ibc_ids.specs.Texts.{text_cmp}
use Rattle.ibc_bank.specs.Amounts.{amount_at}
use Rattle.ibc_bank.proofs.Starts.{starting_fits, fits_alone}
use Rattle.ibc_bank.proofs.bank.Bank.from_listed.Goals as goal

pub hold-requires-clause-fits : goal.hold-requires-clause-fits
hold-requires-clause-fits c =
    let item = c.loop-user-item.result in
    let inv = c.loop-user.invariant in
    let fits = starting_fits c.args.holdings.now c.requires c.loop-user.user-index item c.loop-user-test.true c.loop-user-item.is c.loop-user.books.held.pairs inv.held inv.balanced.held_kept.sorted in
    fits_alone _ _ (ap (λ m. amount_at text_cmp item.1 m) inv.unburnt) fits
