use Rattle.std.proofs.Common.{◌∙◌, sym, ap}
use Rattle.ibc_ledger_lock.specs.Books.{BookPlace}
use Rattle.ibc_ledger_lock.specs.ReceiptsAndReadings.{SharedLedger, ledger_as}
use Rattle.ibc_ledger_lock.proofs.Noting.{as_read}
use Rattle.ibc_ledger_lock.proofs.locked_ledger.LockedLedger.read.Goals as goal

pub invariant_of-result : goal.invariant_of-result
invariant_of-result g c =
    ap (λ (m : BookPlace). m.book) c.mark.ensures ∙ c.self.invariant.2 ∙ ap g.W.WorldBrand.book (sym c.chain.ensures)

pub returns : goal.returns
returns g c =
    let i = c.self.invariant in
    ap (λ (m : BookPlace). ledger_as g.W.WorldBrand.table g.W.WorldBrand.genesis c.chain.result m.known) c.mark.ensures
    ∙ ap (ledger_as g.W.WorldBrand.table g.W.WorldBrand.genesis c.chain.result) i.3
    ∙ as_read g.W.WorldBrand.table g.W.WorldBrand.genesis c.chain.result c.self.inside.ledger c.self.inside.keeper.known.calls i.0 i.1 c.chain.ensures
    ∙ ap (λ (s : SharedLedger). s.held) c.self.view_is
