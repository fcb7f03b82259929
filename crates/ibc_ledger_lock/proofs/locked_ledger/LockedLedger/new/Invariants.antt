use Rattle.ibc_ledger.specs.SentPackets.{happened_on}
use Rattle.ibc_ledger_lock.specs.Calls.{calls_for}
use Rattle.ibc_ledger_lock.proofs.locked_ledger.LockedLedger.new.Given as goal

abbrev pub ghosts-note : goal.ghosts-note
ghosts-note g a = record { calls = calls_for (happened_on a.ledger.now.ledger) }
