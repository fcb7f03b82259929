use Rattle.std.proofs.Common.{◌∷◌, ◌++◌, []}
use Rattle.ibc_machine.specs.declared.event.Event.TheVariants as event
use Rattle.ibc_ledger_lock.specs.Calls.{call_of}
use Rattle.ibc_ledger_lock.proofs.locked_ledger.LockedLedger.submit.Given as goal

abbrev pub ghosts-note_call : goal.ghosts-note_call
ghosts-note_call g a = record { calls = a.self.now.known.calls ++ call_of (event.Message a.ledger.now.ledger.chain a.asked.now.value) a.reply.now ∷ [] }
