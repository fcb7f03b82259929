use Rattle.std.proofs.Common.{◌≡◌, List, ℕ, take}
use Rattle.sqlite.specs.State.{HasCleanDisk, Survives}
use Rattle.sqlite.specs.Held.{state}
use Rattle.ibc_journal.specs.Tables.{JournalItem, IsJournal}
use Rattle.ibc_journal.specs.Digests.{HasReadTo}
use Rattle.ibc_journal.specs.Crashes.{LeavesNothing}
use Rattle.ibc_journal.specs.Restarts.{IsAtRest}
use Rattle.ibc_node.specs.Kept.{HasReplayed}
use Rattle.ibc_node.specs.Marks.{marks_from}
use Rattle.ibc_node.proofs.reading.read_all.Given as goal

abbrev pub invariant-reading : goal.invariant-reading
invariant-reading g l =
    let old = state g.S.Store l.fn.conn in
    let now = state g.S.Store l.conn in
    record {
      place : l.past.end.place ≡ l._turn;
      kept : (genesis : List ℕ) (items : List JournalItem) → IsJournal old.now genesis items → HasCleanDisk now → IsJournal now.now genesis items;
      read : (items : List JournalItem) → IsJournal old.now l.genesis items → HasCleanDisk now → HasReadTo l.genesis items l.past.end;
      replayed : (items : List JournalItem) → IsJournal old.now l.genesis items → HasCleanDisk now → HasReplayed l.fn.world (take l.past.end.place items) l.past.world;
      marked : (items : List JournalItem) → IsJournal old.now l.genesis items → HasCleanDisk now → l.past.marks.items ≡ marks_from 0 (take l.past.end.place items);
      rest : (items : List JournalItem) → IsAtRest old l.genesis items → HasCleanDisk now → IsAtRest now l.genesis items;
      crash : Survives old now (LeavesNothing old);
    }
