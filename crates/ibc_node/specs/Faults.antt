-- Which faults a start and an audit may have, and of which journals.
use Rattle.std.specs.Prelude.{◌≡◌, ◌≢◌, ◌⊎◌, ◌+◌, ◌≤◌, ◌^◌, ℕ, ℤ, pos, List, length, Option, ⊤}
use Rattle.ibc_ids.specs.declared.refusal.Refusal.{Refusal}
use Rattle.ibc_ids.specs.declared.refusal.Refusal.TheVariants as refusal
use Rattle.ibc_machine.specs.declared.entry.Entry.{Entry}
use Rattle.ibc_entry_codec.specs.declared.stored.EntryBytes.{EntryBytes}
use Rattle.ibc_entry_codec.specs.Stored.{StoresEntry}
use Rattle.sqlite.specs.declared.error.Error.TheVariants.{IntegralValueOutOfRange}
use Rattle.ibc_replay.specs.declared.replaying.Difference.{Difference}
use Rattle.ibc_replay.specs.declared.replaying.Difference.TheVariants as difference
use Rattle.ibc_journal.specs.Tables.{format, JournalItem}
use Rattle.ibc_journal.specs.Faults.{IsOfBeginning}
use Rattle.ibc_journal.specs.Digests.{HasReadTo, IsDamagedAt}
use Rattle.ibc_journal.specs.declared.cursor.Cursor.{Cursor}
use Rattle.ibc_journal.specs.declared.fault.JournalFault.{JournalFault}
use Rattle.ibc_journal.specs.declared.fault.JournalFault.TheVariants as journal
use Rattle.ibc_node.specs.declared.fault.NodeFault.{NodeFault}
use Rattle.ibc_node.specs.declared.fault.NodeFault.TheVariants as fault
use Rattle.ibc_node.specs.declared.unread.Unread.{Unread}
use Rattle.ibc_node.specs.declared.unread.Unread.TheVariants as unread
use Rattle.ibc_node.specs.Kept.{IsKeptAs}
use Rattle.ibc_node.specs.Nodes.{IsGiven}

-- the fault of a refusal where only want of memory stops the node
abbrev pub fault_of_refusal : Refusal → NodeFault → NodeFault
fault_of_refusal refusal.NoMemory otherwise = fault.NoMemory
fault_of_refusal _ otherwise = otherwise

-- the fault of who wants no more of a difference than its place
abbrev pub fault_of : Difference → NodeFault
fault_of difference.NoGenesis = fault.BadGenesis
fault_of difference.NoMemory = fault.NoMemory
fault_of (difference.At place due stored) = fault.OtherAnswer place
fault_of (difference.UnknownChain place stored) = fault.OtherAnswer place

-- the fault for which a journal isn't read to its end
abbrev pub unread_fault : Unread → NodeFault
unread_fault (unread.Fault why) = why
unread_fault (unread.Differs why) = fault_of why

-- the fault of an entry at this place that can't be read: one of its numbers is out of range, or the journal says why
abbrev pub fault_at : ℕ → JournalFault → NodeFault
fault_at place (journal.Sqlite (IntegralValueOutOfRange index)) = fault.NoEntry place
fault_at place why = fault.Journal why

-- why an entry can't wait behind so many: memory ran out, or no place is left
abbrev pub IsOfRoom : ℕ → NodeFault → Type 0
IsOfRoom entries why = (why ≡ fault.NoMemory) ⊎ ((why ≡ fault.Journal journal.Full) × (2 ^ 32 ≤ entries + 1))

-- the file can't be read or written
abbrev pub IsOfFile : NodeFault → Type 0
IsOfFile (fault.Journal (journal.Sqlite error)) = ⊤
IsOfFile _ = ⊥

-- ---- why a journal isn't read

-- no entry of a world is kept so: the number of its chain is no byte, or nothing that is asked and answered has these bytes
abbrev pub IsUnspelt : JournalItem → Type 0
IsUnspelt it = (256 ≤ it.chain) ⊎ ((entry : Entry) → ¬ IsKeptAs entry it)

-- why bytes that are kept at a place aren't read: memory ran out, or they are of no entry
abbrev pub IsOfBytes : ℕ → EntryBytes → NodeFault → Type 0
IsOfBytes place stored why = (why ≡ fault.NoMemory) ⊎ ((why ≡ fault.NoEntry place) × ((entry : Entry) → ¬ StoresEntry entry stored))

-- why what is kept at a place isn't read: memory ran out, or no entry is kept so
abbrev pub IsOfEntry : ℕ → JournalItem → NodeFault → Type 0
IsOfEntry place it why = (why ≡ fault.NoMemory) ⊎ ((why ≡ fault.NoEntry place) × IsUnspelt it)

-- what holds of a fault, where a journal isn't read on for one
abbrev pub IfFault : (NodeFault → Type 0) → Unread → Type 0
IfFault Holds (unread.Fault why) = Holds why
IfFault Holds (unread.Differs why) = ⊤

-- why a journal gives no entry to its reader: the file can't be read, the entry there is damaged, or there are too many
abbrev pub IsStopped : List JournalItem → Cursor → JournalFault → Type 0
IsStopped items cursor (journal.Sqlite error) = ⊤
IsStopped items cursor (journal.Damaged place) = (place ≡ cursor.place) × IsDamagedAt items cursor
IsStopped items cursor journal.Full = 2 ^ 32 ≤ length items
IsStopped items cursor _ = ⊥

-- why a journal isn't read on by a reader, whose place is told: it gives no entry, no entry of a world is kept there, or memory ran out
abbrev pub IsUnreadAt : List JournalItem → Cursor → NodeFault → Type 0
IsUnreadAt items cursor (fault.Journal why) = IsStopped items cursor why
IsUnreadAt items cursor (fault.NoEntry place) = place ≡ cursor.place
IsUnreadAt items cursor fault.NoMemory = ⊤
IsUnreadAt items cursor _ = ⊥

-- why a journal isn't read to its end: so, behind entries that are as they were put there
abbrev pub IsUnread : List ℕ → List JournalItem → NodeFault → Type 0
IsUnread genesis items why = (cursor : Cursor) × HasReadTo genesis items cursor × IsUnreadAt items cursor why

-- why no world begins: none does with the text, or memory ran out
abbrev pub IsOfGenesis : NodeFault → Type 0
IsOfGenesis why = (why ≡ fault.BadGenesis) ⊎ (why ≡ fault.NoMemory)

-- why a journal isn't replayed: no world begins so, or it isn't read to its end
abbrev pub IsUnreplayed : List ℕ → List JournalItem → NodeFault → Type 0
IsUnreplayed text items fault.BadGenesis = ⊤
IsUnreplayed text items fault.NoMemory = ⊤
IsUnreplayed text items why = IsUnread text items why

-- why a journal that began so isn't the one that is asked for: another genesis is given, or its format has another number
abbrev pub IsOfOther : Option (List ℕ) → List ℕ → ℤ → NodeFault → Type 0
IsOfOther genesis text number fault.OtherGenesis = ¬ IsGiven genesis text
IsOfOther genesis text number (fault.OtherFormat told) = (told ≡ number) × (number ≢ pos format)
IsOfOther genesis text number _ = ⊥

-- Why a journal isn't audited: another genesis is given, no world begins so, memory ran out, or it isn't read.
abbrev pub IsUnaudited : Option (List ℕ) → List ℕ → List JournalItem → NodeFault → Type 0
IsUnaudited genesis text items fault.OtherGenesis = ¬ IsGiven genesis text
IsUnaudited genesis text items fault.BadGenesis = ⊤
IsUnaudited genesis text items fault.NoMemory = ⊤
IsUnaudited genesis text items (fault.NoEntry place) = IsUnread text items (fault.NoEntry place)
IsUnaudited genesis text items (fault.Journal why) = IsOfBeginning why ⊎ IsUnread text items (fault.Journal why)
IsUnaudited genesis text items _ = ⊥
