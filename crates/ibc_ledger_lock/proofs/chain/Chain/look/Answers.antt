use Rattle.std.proofs.Common.{◌∙◌, ap}
use Rattle.ibc_ledger.specs.LedgerModel.{LedgerModel}
use Rattle.ibc_ledger_lock.specs.ReceiptsAndReadings.{SharedLedger}
use Rattle.ibc_ledger_lock.proofs.chain.Chain.look.Goals as goal

pub returns-clause-chain : goal.returns-clause-chain
returns-clause-chain g c =
    ap (λ (l : LedgerModel). l.ledger.chain) c.read-reading.ensures ∙ ap (λ (s : SharedLedger). s.held.ledger.chain) c.deref.ensures ∙ c.lock-desk.ensures
