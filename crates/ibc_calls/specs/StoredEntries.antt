-- What a journal keeps of the entries of ledgers, and lists of such entries.
use Rattle.std.specs.Prelude.{◌≡◌, ◌⊎◌, ◌<◌, ◌^◌, ◌++◌, ℕ, List, [], ◌∷◌, Option, Some, None, Result, Ok, Err}
use Rattle.std.specs.List.{slice_get}
use Rattle.ibc_ids.specs.Texts.{Text}
use Rattle.ibc_ids.specs.declared.refusal.Refusal.TheVariants.{NoMemory, BadMessage}
use Rattle.ibc_machine.specs.declared.entry.Entry.{Entry}
use Rattle.ibc_machine.specs.ledger.Replay.{StampedEntry}
use Rattle.ibc_entry_codec.specs.Stored.{StoresEntry, HasForm}
use Rattle.ibc_entry_codec.specs.declared.stored.EntryBytes.{EntryBytes}
use Rattle.ibc_handle.specs.declared.handle_value.HandleValue.{HandleValue}
use Rattle.ibc_handle.specs.declared.handle_value.HandleValue.TheVariants as held
use Rattle.ibc_calls.specs.declared.answer.Refused.{Refused}
use Rattle.ibc_calls.specs.declared.answer.Refused.TheVariants.{Core, Empty, OtherKind, NothingThere}
use Rattle.ibc_calls.specs.declared.stored.EntryNumbers.{EntryNumbers}
use Rattle.ibc_calls.specs.CallAnswers.{Answer}
use Rattle.ibc_calls.specs.Handles.{IsMade, IsWritten, OfEmptyOrFull, OfValueOrEmpty}

-- ---- an entry

-- what is kept of the entry; or the entry is outside its form, or memory ran out
abbrev pub IsStored : Entry → Result EntryBytes Refused → Type 0
IsStored given (Ok stored) = StoresEntry given stored
IsStored given (Err why) = ((why ≡ Core BadMessage) × (HasForm given → ⊥)) ⊎ (why ≡ Core NoMemory)

-- where what is kept is told
pub record StoredOutput : Type 0 where
  pub numbers : EntryNumbers
  pub event : Text
  pub event_size : ℕ
  pub answer : Text
  pub answer_size : ℕ

-- the first refusal of two answers
abbrev pub both_answers : Answer → Answer → Answer
both_answers (Ok x) second = second
both_answers (Err why) second = Err why

-- the event's bytes and the answer's are written, each to a place of its own, and the numbers are told
abbrev pub AreWritten : EntryBytes → StoredOutput → StoredOutput → Answer → Type 0
AreWritten stored old new answer =
    (new.numbers ≡ record { chain = stored.chain; kind = stored.kind })
    × (first : Answer) × (second : Answer) × (answer ≡ both_answers first second)
    × IsWritten stored.event old.event new.event new.event_size first
    × IsWritten stored.answer old.answer new.answer new.answer_size second

abbrev pub WritesStoredBytes : Result EntryBytes Refused → StoredOutput → StoredOutput → Answer → Type 0
WritesStoredBytes (Ok stored) old new answer = AreWritten stored old new answer
WritesStoredBytes (Err why) old new answer = (new ≡ old) × (answer ≡ Err why)

abbrev pub WritesStoredEntry : Entry → StoredOutput → StoredOutput → Answer → Type 0
WritesStoredEntry given old new answer =
    (found : Result EntryBytes Refused) × IsStored given found × WritesStoredBytes found old new answer

abbrev pub WritesStored : Option StampedEntry → StoredOutput → StoredOutput → Answer → Type 0
WritesStored None old new answer = (new ≡ old) × (answer ≡ Err NothingThere)
WritesStored (Some e) old new answer = WritesStoredEntry e.entry old new answer

unfoldable pub TellsStored : ℕ → Option HandleValue → StoredOutput → StoredOutput → Answer → Type 0
TellsStored index None old new answer = (new ≡ old) × (answer ≡ Err Empty)
TellsStored index (Some (held.Ledger l)) old new answer = WritesStored (slice_get l.ledger.ledger.history index) old new answer
TellsStored index (Some other) old new answer = (new ≡ old) × (answer ≡ Err OtherKind)

-- ---- lists of entries

abbrev pub AreNoEntries : HandleValue → Type 0
AreNoEntries (held.Entries list) = list.items ≡ []
AreNoEntries _ = ⊥

-- a list with no entries was made
unfoldable pub MakesEntries : Option HandleValue → Option HandleValue → Answer → Type 0
MakesEntries = OfEmptyOrFull (IsMade AreNoEntries)

-- numbers and bytes that a journal has of an entry
pub record KeptEntry : Type 0 where
  pub chain : ℕ
  pub kind : ℕ
  pub event : Text
  pub answer : Text

abbrev pub bytes_of : KeptEntry → EntryBytes
bytes_of kept = record { chain = kept.chain; kind = kept.kind; event = kept.event; answer = kept.answer }

-- this is kept of the entry; its numbers are bytes
abbrev pub IsKeptOf : KeptEntry → Entry → Type 0
IsKeptOf kept given = (kept.chain < 2 ^ 8) × (kept.kind < 2 ^ 8) × StoresEntry given (bytes_of kept)

-- the entry of which these bytes are kept; or they are kept of none, or memory ran out
abbrev pub IsRestored : EntryBytes → Result Entry Refused → Type 0
IsRestored stored (Ok given) = StoresEntry given stored
IsRestored stored (Err why) = ((why ≡ Core BadMessage) × ((given : Entry) → StoresEntry given stored → ⊥)) ⊎ (why ≡ Core NoMemory)

-- the entry of which this is kept; or it is kept of none, or memory ran out
abbrev pub FindsEntry : KeptEntry → Result Entry Refused → Type 0
FindsEntry kept (Ok given) = IsKeptOf kept given
FindsEntry kept (Err why) = ((why ≡ Core BadMessage) × ((given : Entry) → IsKeptOf kept given → ⊥)) ⊎ (why ≡ Core NoMemory)

-- The entry of which this is kept is behind the others; or this is kept of none, or memory ran out, and they are as they were.
unfoldable pub AddsEntry : KeptEntry → List Entry → List Entry → Answer → Type 0
AddsEntry kept old new answer =
    ((answer ≡ Ok tt) × (given : Entry) × IsKeptOf kept given × (new ≡ old ++ given ∷ []))
    ⊎ ((new ≡ old)
    × (((answer ≡ Err (Core BadMessage)) × ((given : Entry) → IsKeptOf kept given → ⊥)) ⊎ (answer ≡ Err (Core NoMemory))))

-- a list of entries goes on; another value is refused, and stays
abbrev pub EntriesGoOn : (List Entry → List Entry → Answer → Type 0) → HandleValue → Option HandleValue → Answer → Type 0
EntriesGoOn does (held.Entries old) (Some (held.Entries new)) answer = does old.items new.items answer
EntriesGoOn does (held.Entries old) new answer = ⊥
EntriesGoOn does old new answer = (new ≡ Some old) × (answer ≡ Err OtherKind)

unfoldable pub EntryAdded : KeptEntry → Option HandleValue → Option HandleValue → Answer → Type 0
EntryAdded kept = OfValueOrEmpty (EntriesGoOn (AddsEntry kept))
