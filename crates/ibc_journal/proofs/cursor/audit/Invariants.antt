use Rattle.std.proofs.Common.{◌≡◌, List, ℕ}
use Rattle.sqlite.specs.State.{HasCleanDisk, Survives}
use Rattle.sqlite.specs.Held.{state}
use Rattle.ibc_journal.specs.Tables.{JournalItem, IsJournal}
use Rattle.ibc_journal.specs.Digests.{HasReadTo}
use Rattle.ibc_journal.specs.Crashes.{LeavesNothing}
use Rattle.ibc_journal.proofs.cursor.audit.Given as goal

abbrev pub invariant-reading : goal.invariant-reading
invariant-reading g l =
    let old = state g.S.Store l.fn.conn in
    let now = state g.S.Store l.conn in
    record {
      place : l.cursor.place ≡ l._turn;
      kept : (genesis : List ℕ) (items : List JournalItem) → IsJournal old.now genesis items → HasCleanDisk now → IsJournal now.now genesis items;
      read : (items : List JournalItem) → IsJournal old.now l.genesis items → HasCleanDisk now → HasReadTo l.genesis items l.cursor;
      crash : Survives old now (LeavesNothing old);
    }
