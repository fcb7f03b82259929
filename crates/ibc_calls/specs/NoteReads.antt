-- The notes that came over channels of port `note`, one after another.
use Rattle.std.specs.Prelude.{◌≡◌, ◌⊎◌, ℕ, List, length, map, Option, Some, None, Result, Ok, Err}
use Rattle.std.specs.List.{slice_get}
use Rattle.std.specs.Global.{Vec}
use Rattle.ibc_ids.specs.Texts.{Text}
use Rattle.ibc_ids.specs.declared.refusal.Refusal.TheVariants.{NoMemory}
use Rattle.ibc_note.specs.AbstractNotes.{abstract_notes}
use Rattle.ibc_world_core.specs.WorldAudits.{notes_of}
use Rattle.ibc_machine.specs.ledger.Ledgers.{Ledger}
use Rattle.ibc_handle.specs.declared.handle_value.HandleValue.{HandleValue}
use Rattle.ibc_handle.specs.declared.handle_value.HandleValue.TheVariants as held
use Rattle.ibc_calls.specs.declared.answer.Refused.{Refused}
use Rattle.ibc_calls.specs.declared.answer.Refused.TheVariants.{Core, Empty, OtherKind}
use Rattle.ibc_calls.specs.CallAnswers.{Answer}
use Rattle.ibc_calls.specs.Handles.{OfEmptyOrFull, IsMade, StaysEmpty}
use Rattle.ibc_calls.specs.Holdings.{IsCount, found_or_refused, item_of, of_chain_or_refused}

-- ---- the notes of a ledger

abbrev pub AreNotes : Ledger → HandleValue → Type 0
AreNotes ledger (held.Notes list) = map abstract_notes list.items ≡ notes_of ledger
AreNotes ledger _ = ⊥

abbrev pub AreNotesOf : Option HandleValue → Option HandleValue → Answer → Type 0
AreNotesOf None new answer = StaysEmpty Empty new answer
AreNotesOf (Some (held.Ledger l)) new answer = IsMade (AreNotes l.ledger.ledger) new answer
AreNotesOf (Some other) new answer = StaysEmpty OtherKind new answer

unfoldable pub MakesNotes : Option HandleValue → Option HandleValue → Option HandleValue → Answer → Type 0
MakesNotes ledger = OfEmptyOrFull (AreNotesOf ledger)

-- ---- one channel

-- a channel, and the notes that came over it in the order in which they came
abbrev pub ChannelNotes : Type 0
ChannelNotes = Text × Vec Text

-- the channels of a list of notes; of an audit, those of a chain
unfoldable pub channels_at : ℕ → Option HandleValue → Result (List ChannelNotes) Refused
channels_at chain None = Err Empty
channels_at chain (Some (held.Notes list)) = Ok list.items
channels_at chain (Some (held.Audit audit)) = of_chain_or_refused (slice_get audit.notes.items chain)
channels_at chain (Some other) = Err OtherKind

unfoldable pub TellsChannelCount : ℕ → Option HandleValue → ℕ → ℕ → Answer → Type 0
TellsChannelCount chain value old new answer = IsCount (channels_at chain value) old new answer

-- the one at an index
unfoldable pub notes_at : ℕ → ℕ → Option HandleValue → Result ChannelNotes Refused
notes_at chain channel value = item_of channel (channels_at chain value)

-- this text is found, or memory ran out; or there is none, for this reason
abbrev pub IsFound : Result Text Refused → Result Text Refused → Type 0
IsFound (Ok text) found = (found ≡ Ok text) ⊎ (found ≡ Err (Core NoMemory))
IsFound (Err why) found = found ≡ Err why

-- the channel's name
abbrev pub name_in : Result ChannelNotes Refused → Result Text Refused
name_in (Ok notes) = Ok notes.0
name_in (Err why) = Err why

unfoldable pub FindsChannel : ℕ → ℕ → Option HandleValue → Result Text Refused → Type 0
FindsChannel chain channel old found = IsFound (name_in (notes_at chain channel old)) found

-- how many notes came over it
abbrev pub IsNoteCount : Result ChannelNotes Refused → ℕ → ℕ → Answer → Type 0
IsNoteCount (Ok notes) old new answer = (new ≡ length notes.1.items) × (answer ≡ Ok tt)
IsNoteCount (Err why) old new answer = (new ≡ old) × (answer ≡ Err why)

unfoldable pub TellsNoteCount : ℕ → ℕ → Option HandleValue → ℕ → ℕ → Answer → Type 0
TellsNoteCount chain channel value old new answer = IsNoteCount (notes_at chain channel value) old new answer

-- the note at an index of those that came over it
abbrev pub note_in : ℕ → Result ChannelNotes Refused → Result Text Refused
note_in index (Ok notes) = found_or_refused (slice_get notes.1.items index)
note_in index (Err why) = Err why

unfoldable pub FindsNote : ℕ → ℕ → ℕ → Option HandleValue → Result Text Refused → Type 0
FindsNote chain channel index old found = IsFound (note_in index (notes_at chain channel old)) found
