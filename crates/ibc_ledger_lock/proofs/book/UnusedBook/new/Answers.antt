use Rattle.std.proofs.Common.{◌∙◌, sym, ap}
use Rattle.ibc_ledger_lock.proofs.Pages.{begins_moves}
use Rattle.ibc_ledger_lock.proofs.book.UnusedBook.new.Goals as goal

pub compare_exchange-found-requires : goal.compare_exchange-found-requires
compare_exchange-found-requires c =
    let head = c.tracked-head.ensures.0 in
    let opened = c.open-seen.ensures in
    let offer = c.plain-offer.ensures in
    let pen = c.no_pen-pen.ensures in
    let book = sym (ap (λ w. w.book) head ∙ opened.2) in (
      ap (λ w. w.tracked) head,
      book,
      pen.0 ∙ book,
      offer.0,
      rw (ap (λ w. w.key) head ∙ ap (λ n. n.key) opened.4, pen.1, offer.3) (begins_moves c.open-seen.result.0.log c.plain-offer.result.ask),
    )
