use Rattle.std.proofs.Common.{◌∙◌, List, sym, ap, subst}
use mathlib.Core.List.{IsPrefix}
use Rattle.ibc_ledger_lock.specs.Books.{BookPlace, IsKnownBeginning, known_in}
use Rattle.ibc_ledger_lock.specs.declared.book.Page.{Page}
use Rattle.ibc_ledger_lock.proofs.Pages.{finds_moves, found}
use Rattle.ibc_ledger_lock.proofs.book.Keeper.check.Goals as goal

pub compare_exchange-requires : goal.compare_exchange-requires
compare_exchange-requires c =
    let i = c.self.invariant in
    let offer = c.plain-offer.ensures in (
      ap (λ w. w.tracked) i.0,
      c.learn.ensures.0 ∙ ap (λ s. s.book) c.again-both.ensures ∙ sym (ap (λ w. w.book) i.0),
      i.3 ∙ sym (ap (λ w. w.book) i.0),
      offer.0,
      rw (ap (λ w. w.key) i.0, offer.3) (finds_moves c.learn.new.self.log c.self.inside.pen.nib c.plain-offer.result.ask i.4),
    )

pub returns-clause-begins : goal.returns-clause-begins
returns-clause-begins c =
    let i = c.self.invariant in
    let both = c.learn.new.self.log in
    let kept : IsPrefix c.self.inside.seen.log both = subst (λ (l : List Page). IsPrefix l both) (ap (λ s. s.log) c.again-both.ensures) c.learn.ensures.2 in
    let is = c.learn.ensures.4 in
    let begins = found is.0 c.self.inside.seen.log c.mark.inside.seen.log both c.self.inside.pen.nib.key i.2 i.5 kept c.learn.ensures.3 is.1 c.compare_exchange.ensures.7.1 in
    subst (λ (m : BookPlace). IsKnownBeginning m.known c.args.self.now.known) c.mark.view_is
    (subst (λ (k : BookPlace). IsKnownBeginning (known_in c.mark.inside.seen.log) k.known) c.self.view_is begins)
