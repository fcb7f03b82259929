use Rattle.ibc_ledger_lock.specs.ReceiptsAndReadings.{known_with}
use Rattle.ibc_ledger_lock.proofs.book.Keeper.note.Given as goal

abbrev pub ghosts-write : goal.ghosts-write
ghosts-write g a = record { page = record { known = known_with a.ledger.now.ledger g.C.PickedCalls.calls; next = a.next.nib.key } }
