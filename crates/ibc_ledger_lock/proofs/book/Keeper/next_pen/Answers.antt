use Rattle.std.proofs.Common.{◌∙◌, sym, ap}
use Rattle.ibc_ledger_lock.proofs.Pages.{gives_moves}
use Rattle.ibc_ledger_lock.proofs.book.Keeper.next_pen.Goals as goal

pub compare_exchange-requires : goal.compare_exchange-requires
compare_exchange-requires c =
    let i = c.self.invariant in
    let offer = c.plain-offer.ensures in
    let pen = c.no_pen-pen.ensures in
    let book = ap (λ s. s.book) c.again-seen.ensures ∙ sym (ap (λ w. w.book) i.0) in (
      ap (λ w. w.tracked) i.0,
      book,
      pen.0 ∙ book,
      offer.0,
      rw (ap (λ w. w.key) i.0, pen.1, offer.3) (gives_moves c.again-seen.result.log c.plain-offer.result.ask),
    )
