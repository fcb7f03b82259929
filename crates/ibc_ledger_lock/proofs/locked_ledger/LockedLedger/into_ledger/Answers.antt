use Rattle.std.proofs.Common.{ap, subst}
use Rattle.ibc_ledger_lock.specs.Calls.{AreCallsOf}
use Rattle.ibc_ledger_lock.specs.ReceiptsAndReadings.{SharedLedger}
use Rattle.ibc_ledger_lock.proofs.locked_ledger.LockedLedger.into_ledger.Goals as goal

pub returns-clause-same : goal.returns-clause-same
returns-clause-same g c = ap (λ (s : SharedLedger). s.held) c.self.view_is

pub returns-clause-asked : goal.returns-clause-asked
returns-clause-asked g c = subst (λ (s : SharedLedger). AreCallsOf c.self.inside.ledger.ledger s.calls) c.self.view_is c.self.invariant.4
