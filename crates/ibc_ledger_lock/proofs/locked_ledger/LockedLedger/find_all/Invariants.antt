use Rattle.std.proofs.Common.{◌≡◌, All, take}
use Rattle.ibc_ledger_lock.specs.ReceiptsAndReadings.{StandsOnItsChain}
use Rattle.ibc_ledger_lock.proofs.locked_ledger.LockedLedger.find_all.Given as goal

abbrev pub invariant-loop-k : goal.invariant-loop-k
invariant-loop-k g l = (l.self ≡ l.initial.self) × All (StandsOnItsChain l.initial.self.held.ledger.chain l.initial.self.calls) (take l.k l.fn.receipts)
