use Rattle.std.proofs.Common.{subst}
use Rattle.ibc_ledger.specs.LedgerModel.{LedgerModel}
use Rattle.ibc_ledger_lock.specs.KnownLedgers.{KnownLedger}
use Rattle.ibc_ledger_lock.specs.Books.{IsKnownBeginning}
use Rattle.ibc_ledger_lock.specs.ReceiptsAndReadings.{IsEarlierOnItsChain, SharedLedger, known_with, ledger_as}
use Rattle.ibc_ledger_lock.proofs.Noting.{was_once}
use Rattle.ibc_ledger_lock.proofs.locked_ledger.LockedLedger.recall.Goals as goal

pub returns-clause-once : goal.returns-clause-once
returns-clause-once g c =
    let table = g.W.WorldBrand.table in
    let genesis = g.W.WorldBrand.genesis in
    let r = c.reading.inside in
    let held = c.self.inside.ledger in
    let calls = c.self.inside.keeper.known.calls in
    let here : IsKnownBeginning r.mark.known (known_with held.ledger calls) =
    subst (λ (k : KnownLedger). IsKnownBeginning r.mark.known k) c.self.invariant.3 c.check.ensures.begins in
    subst (λ (l : LedgerModel). IsEarlierOnItsChain c.args.self.now.held l) c.reading.view_is
    (subst (λ (s : SharedLedger). IsEarlierOnItsChain s.held (ledger_as table genesis r.chain r.mark.known)) c.self.view_is
    (was_once table genesis r.chain r.mark.known held calls c.self.invariant.1 here))
