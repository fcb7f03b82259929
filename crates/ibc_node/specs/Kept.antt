-- What a journal keeps of a world.
use Rattle.std.specs.Prelude.{◌≡◌, ◌⊎◌, ◌≤◌, ◌++◌, ℕ, false, List, [], ◌∷◌, length, slice_get, Option, Some, IsTrue, ⊤}
use Rattle.std.specs.List.{AllZip}
use Rattle.ibc_machine.specs.declared.event.Event.{Event}
use Rattle.ibc_machine.specs.declared.entry.Entry.{Entry}
use Rattle.ibc_machine.specs.declared.reply.Reply.{Reply}
use Rattle.ibc_ids.specs.declared.refusal.Refusal.{Refusal}
use Rattle.ibc_ids.specs.declared.refusal.Refusal.TheVariants.{BadMessage, NoMemory, UnknownChain}
use Rattle.ibc_wire.specs.Fields.{have_form}
use Rattle.ibc_machine.specs.ledger.Ledgers.{Ledger, chain_of}
use Rattle.ibc_machine.specs.promises.Worlds.{entries}
use Rattle.ibc_refinement.specs.World.{WorldState, kept_entries}
use Rattle.ibc_refinement.specs.Steps.{AreSteps, is_answered}
use Rattle.ibc_replay.specs.Replays.{GoesOnAsStored}
use Rattle.ibc_entry_codec.specs.declared.stored.EntryBytes.{EntryBytes}
use Rattle.ibc_entry_codec.specs.Stored.{StoresEntry, event_fields}
use Rattle.ibc_journal.specs.Tables.{JournalItem}
use Rattle.ibc_journal.specs.Entries.{item}
use Rattle.ibc_journal.specs.Digests.{digest_after}
use Rattle.ibc_node.specs.declared.keeping.Asked.{Asked}
use Rattle.ibc_node.specs.declared.keeping.Asked.TheVariants as asked

-- an item of a journal, without its place in a log and its digest
abbrev pub bytes_in : JournalItem → EntryBytes
bytes_in it = record { chain = it.chain; kind = it.kind; event = it.event; answer = it.answer }

abbrev pub IsKeptAs : Entry → JournalItem → Type 0
IsKeptAs entry it = StoresEntry entry (bytes_in it)

-- the items are what is kept of these entries, in their order
abbrev pub AreKeptAs : List Entry → List JournalItem → Type 0
AreKeptAs = AllZip IsKeptAs

-- A world went on by an event and has kept an entry. The item is what a journal keeps of it, behind one with this digest.
pub record KeepsItem (old : WorldState) (before : List ℕ) (event : Event) (reply : Reply) (it : JournalItem) (new : WorldState) : Type 0 where
  pub entry : Entry
  pub event_is : entry.event ≡ event
  pub reply_is : entry.reply ≡ reply
  pub steps : AreSteps old (event ∷ []) (reply ∷ []) new
  pub kept : kept_entries new ≡ kept_entries old ++ entry ∷ []
  pub stored : IsKeptAs entry it
  pub due : it.digest ≡ digest_after before it

-- some bytes spell the event
abbrev pub HasSpelling : Event → Type 0
HasSpelling event = IsTrue (have_form (event_fields event))

-- why an event is not kept as bytes
abbrev pub WhyNotSpelt : Event → Refusal → Type 0
WhyNotSpelt event BadMessage = ¬ HasSpelling event
WhyNotSpelt event NoMemory = ⊤
WhyNotSpelt event _ = ⊥

-- Why a world keeps nothing of an event: it has no such chain, no bytes spell the event, or memory ran out.
abbrev pub WhyNotKept : WorldState → Event → Refusal → Type 0
WhyNotKept old event UnknownChain = length old.ledgers ≤ chain_of event
WhyNotKept old event refusal = WhyNotSpelt event refusal

-- the world is as it was, or it went on by the event, and memory ran out
abbrev pub IsAskedInVain : WorldState → Event → WorldState → Type 0
IsAskedInVain old event new = (new ≡ old) ⊎ ((given : Reply) × (is_answered given ≡ false) × AreSteps old (event ∷ []) (given ∷ []) new)

-- nothing is kept, and the world is as it was
abbrev pub IsNotAsked : WorldState → Asked → WorldState → Type 0
IsNotAsked old (asked.Kept reply entry) new = ⊥
IsNotAsked old (asked.NotKept refusal) new = new ≡ old

-- what came of an event
abbrev pub IsAsked : WorldState → List ℕ → Event → Asked → WorldState → Type 0
IsAsked old before event (asked.Kept reply entry) new = KeepsItem old before event reply (item entry) new
IsAsked old before event (asked.NotKept refusal) new =
    (kept_entries new ≡ kept_entries old) × WhyNotKept old event refusal × IsAskedInVain old event new

-- what is kept of the event has this place of a log
abbrev pub IsBy : ℕ → Asked → Type 0
IsBy log_place (asked.Kept reply entry) = entry.log_place ≡ log_place
IsBy log_place (asked.NotKept refusal) = ⊤

-- ---- the last entry of a chain

-- this is the last entry of a list, where there is one
abbrev pub IsLastEntry : List Entry → Option Entry → Type 0
IsLastEntry list found = (front : List Entry) (last : Entry) → list ≡ front ++ last ∷ [] → found ≡ Some last

-- these bytes are kept of the last entry of a chain
abbrev pub StoresLast : WorldState → ℕ → EntryBytes → Type 0
StoresLast world chain stored =
    (ledger : Ledger) → slice_get world.ledgers chain ≡ Some ledger → (front : List Entry) (last : Entry)
    → entries ledger ≡ front ++ last ∷ [] → StoresEntry last stored

-- the item is what a journal keeps of the last entry of a chain, behind one with this digest
pub record KeepsLast (world : WorldState) (chain : ℕ) (before : List ℕ) (it : JournalItem) : Type 0 where
  pub stored : StoresLast world chain (bytes_in it)
  pub due : it.digest ≡ digest_after before it

-- ---- entries that are put to a world again

-- a world went on to this one as the entry says that is kept so
pub record ReplaysOne (old : WorldState) (it : JournalItem) (new : WorldState) : Type 0 where
  pub entry : Entry
  pub kept : IsKeptAs entry it
  pub goes_on : GoesOnAsStored old (entry ∷ []) new

-- from the beginning a world went on to this one as the entries say that are kept so
pub record HasReplayed (beginning : WorldState) (items : List JournalItem) (world : WorldState) : Type 0 where
  pub past : List Entry
  pub kept : AreKeptAs past items
  pub goes_on : GoesOnAsStored beginning past world
