-- What an audit finds of a journal.
use Rattle.std.specs.Prelude.{◌≡◌, ℕ, List, length, take, ⊤}
use Rattle.ibc_machine.specs.declared.entry.Entry.{Entry}
use Rattle.ibc_machine.specs.chain.Genesis.{GenesisState}
use Rattle.ibc_refinement.specs.World.{WorldState}
use Rattle.ibc_replay.specs.declared.replaying.Difference.{Difference}
use Rattle.ibc_replay.specs.declared.replaying.Difference.TheVariants as difference
use Rattle.ibc_replay.specs.Replays.{IsBeginning, StopsBy, StopsAt}
use Rattle.ibc_journal.specs.Tables.{JournalItem}
use Rattle.ibc_journal.specs.declared.cursor.Cursor.{Cursor}
use Rattle.ibc_node.specs.declared.fault.NodeFault.TheVariants as fault
use Rattle.ibc_node.specs.declared.unread.Unread.{Unread}
use Rattle.ibc_node.specs.declared.unread.Unread.TheVariants.{Fault, Differs}
use Rattle.ibc_node.specs.declared.auditing.JournalAudit.{JournalAudit}
use Rattle.ibc_node.specs.declared.auditing.JournalAudit.TheVariants as found
use Rattle.ibc_node.specs.Kept.{IsKeptAs, AreKeptAs}
use Rattle.ibc_node.specs.Nodes.{IsGenesisText, IsRestarted}

-- The difference names the place where it is. That no world begins so, or that memory ran out, is none of these.
abbrev pub NamesPlace : Difference → Type 0
NamesPlace (difference.At place due stored) = ⊤
NamesPlace (difference.UnknownChain place stored) = ⊤
NamesPlace difference.NoGenesis = ⊥
NamesPlace difference.NoMemory = ⊥

-- what holds of a difference, where a journal isn't read on for one: it names its place
abbrev pub IfDiffers : (Difference → Type 0) → Unread → Type 0
IfDiffers Holds (Fault why) = ⊤
IfDiffers Holds (Differs why) = NamesPlace why × Holds why

-- a fact that holds where a journal isn't read on for a difference
abbrev pub OnDiffers : Type 0 → Unread → Type 0
OnDiffers P (Fault why) = ⊤
OnDiffers P (Differs why) = P

-- A difference is told as it is. That no world begins so, or that memory ran out, is a fault.
abbrev pub IsUnreadBy : Difference → Unread → Type 0
IsUnreadBy difference.NoGenesis unread = unread ≡ Fault fault.BadGenesis
IsUnreadBy difference.NoMemory unread = unread ≡ Fault fault.NoMemory
IsUnreadBy why unread = unread ≡ Differs why

-- of a world that was asked for the event whose entry is kept so: it doesn't take the entry, for this reason
abbrev pub StopsAtItem : WorldState → ℕ → JournalItem → WorldState → Difference → Type 0
StopsAtItem old place it new why = (entry : Entry) × IsKeptAs entry it × StopsAt old place entry why new

-- A world that is asked as the first items say, from this beginning on, stops for this reason.
pub record StopsAsKept (beginning : WorldState) (items : List JournalItem) (why : Difference) : Type 0 where
  pub list : List Entry
  pub kept : AreKeptAs list (take (length list) items)
  pub world : WorldState
  pub stops : StopsBy beginning 0 list why world

-- The items are no lawful run from the genesis that the text says: a world of it stops for this reason.
pub record IsUnlawful (text : List ℕ) (items : List JournalItem) (why : Difference) : Type 0 where
  pub genesis : GenesisState
  pub text_is : IsGenesisText text genesis
  pub beginning : WorldState
  pub begins : IsBeginning genesis beginning
  pub stops : StopsAsKept beginning items why

-- the items are a lawful run from the genesis that the text says, and there are so many
pub record IsLawfulJournal (text : List ℕ) (items : List JournalItem) (entries : ℕ) : Type 0 where
  pub world : WorldState
  pub end : Cursor
  pub restarted : IsRestarted text items world end
  pub count : entries ≡ length items

abbrev pub IsAuditOfJournal : List ℕ → List JournalItem → JournalAudit → Type 0
IsAuditOfJournal text items (found.Lawful entries) = IsLawfulJournal text items entries
IsAuditOfJournal text items (found.Differs why) = NamesPlace why × IsUnlawful text items why

-- a lawful run was found
abbrev pub FindsLawful : JournalAudit → Type 0
FindsLawful (found.Lawful entries) = ⊤
FindsLawful (found.Differs why) = ⊥
