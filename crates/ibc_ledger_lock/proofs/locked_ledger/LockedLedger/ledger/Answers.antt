use Rattle.std.proofs.Common.{ap}
use Rattle.ibc_ledger_lock.specs.ReceiptsAndReadings.{SharedLedger}
use Rattle.ibc_ledger_lock.proofs.locked_ledger.LockedLedger.ledger.Goals as goal

pub returns-clause-same : goal.returns-clause-same
returns-clause-same g c = ap (λ (s : SharedLedger). s.held) c.self.view_is
