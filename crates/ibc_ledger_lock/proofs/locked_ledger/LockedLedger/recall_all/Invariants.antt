use Rattle.std.proofs.Common.{◌≡◌, All, take}
use Rattle.ibc_ledger_lock.specs.ReceiptsAndReadings.{IsEarlierOnItsChain}
use Rattle.ibc_ledger_lock.proofs.locked_ledger.LockedLedger.recall_all.Given as goal

abbrev pub invariant-loop-k : goal.invariant-loop-k
invariant-loop-k g l = (l.self ≡ l.initial.self) × All (IsEarlierOnItsChain l.initial.self.held) (take l.k l.fn.readings)
