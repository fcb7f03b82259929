use Rattle.ibc_ledger.proofs.Common.{List, refl, sym, ap, ◌∙◌, subst, IsPrefix, Publication, LedgerModel}
use Rattle.ibc_ledger.proofs.HeldLedgers.{still_held}
use Rattle.ibc_ledger.proofs.ledger.Ledger.follow.Goals as goal

pub invariant_of-self : goal.invariant_of-self
invariant_of-self c =
    let own = ap (λ (h : LedgerModel). h.ledger.seen) c.self.view_is in
    let leads = ap (λ (h : LedgerModel). h.ledger.seen) c.leader.view_is in
    let behind = subst (λ (z : List Publication × List Publication). IsPrefix z.0 z.1) (λ i. (sym own i, (sym leads ∙ sym c.follow.ensures.seen) i)) c.requires.behind in
    still_held c.self.inside c.self.invariant _ refl c.follow.ensures.pass behind c.follow.ensures.own refl refl c.self.invariant.flight refl refl
