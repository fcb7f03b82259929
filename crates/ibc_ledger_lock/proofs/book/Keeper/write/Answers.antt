use Rattle.std.proofs.Common.{◌≡◌, ◌∙◌, ◌∷◌, ◌++◌, [], sym, ap, subst, true}
use Rattle.ibc_ledger_lock.specs.Books.{BookPlace, IsKnownBeginning, key_in, known_in}
use Rattle.ibc_ledger_lock.proofs.Pages.{writes_moves, key_last, known_last, not_none}
use Rattle.ibc_ledger_lock.proofs.book.Keeper.write.Goals as goal

pub compare_exchange-requires : goal.compare_exchange-requires
compare_exchange-requires g c =
    let i = c.self.invariant in
    let offer = c.plain-offer.ensures in
    let later : IsKnownBeginning (known_in c.self.inside.seen.log) g.X.PickedPage.page.known =
    subst (λ (k : BookPlace). IsKnownBeginning k.known g.X.PickedPage.page.known) (sym c.self.view_is) c.requires.later in (
      ap (λ w. w.tracked) i.0,
      sym (ap (λ w. w.book) i.0),
      i.3 ∙ sym (ap (λ w. w.book) i.0),
      offer.0,
      rw (ap (λ w. w.key) i.0, offer.3) (writes_moves c.self.inside.seen.log c.self.inside.pen.nib g.X.PickedPage.page c.plain-offer.result.ask i.2 i.4 i.5 later),
    )

pub invariant_of-self : goal.invariant_of-self
invariant_of-self g c =
    let i = c.self.invariant in
    let step = c.compare_exchange.ensures in
    let written : c.compare_exchange.new.seen.log ≡ c.self.inside.seen.log ++ g.X.PickedPage.page ∷ [] = step.7 in
    let book = sym step.0 in (
      i.0 ∙ ap (λ b. record { tracked = true; key = 0; book = b }) book,
      step.1 ∙ i.1,
      (λ none. not_none c.self.inside.seen.log g.X.PickedPage.page (sym written ∙ none)),
      c.requires.next.0 ∙ sym (ap (λ (k : BookPlace). k.book) c.self.view_is) ∙ book,
      c.requires.next.1,
      sym c.requires.picked ∙ sym (ap key_in written ∙ key_last c.self.inside.seen.log g.X.PickedPage.page),
    )

pub returns : goal.returns
returns g c =
    let step = c.compare_exchange.ensures in
    let written : c.compare_exchange.new.seen.log ≡ c.self.inside.seen.log ++ g.X.PickedPage.page ∷ [] = step.7 in (
      step.0 ∙ ap (λ (k : BookPlace). k.book) c.self.view_is,
      ap known_in written ∙ known_last c.self.inside.seen.log g.X.PickedPage.page,
    )
