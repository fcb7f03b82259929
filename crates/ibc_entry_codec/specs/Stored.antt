-- How an entry of a history is kept: its event and its answer as bytes, beside the event's chain and kind.
use Rattle.std.specs.Prelude.{◌≡◌, ℕ, List, [], ◌∷◌, IsTrue}
use Rattle.ibc_wire.specs.Fields.{Field, be64, Spells, have_form}
use Rattle.ibc_wire.specs.Messages.{message_fields}
use Rattle.ibc_machine.specs.declared.event.Event.{Event}
use Rattle.ibc_machine.specs.declared.event.Event.TheVariants as event
use Rattle.ibc_machine.specs.declared.entry.Entry.{Entry}
use Rattle.ibc_machine.specs.ledger.Ledgers.{chain_of}
use Rattle.ibc_entry_codec.specs.Answers.{answer_fields}
use Rattle.ibc_entry_codec.specs.declared.answer.EntryAnswer.{EntryAnswer}
use Rattle.ibc_entry_codec.specs.declared.stored.EntryBytes.{EntryBytes}

-- a message is its bytes, and the end of a block the time of the next one
abbrev pub event_fields : Event → List Field
event_fields (event.Message chain message) = message_fields message
event_fields (event.Block chain next_time) = be64 next_time ∷ []

abbrev pub event_kind : Event → ℕ
event_kind (event.Block chain next_time) = 0
event_kind (event.Message chain message) = 1

abbrev pub answer_to : Entry → EntryAnswer
answer_to entry = record { reply = entry.reply; reading = entry.reading }

-- these bytes are kept for the entry
pub record StoresEntry (entry : Entry) (stored : EntryBytes) : Type 0 where
  pub chain : stored.chain ≡ chain_of entry.event
  pub kind : stored.kind ≡ event_kind entry.event
  pub event : Spells (event_fields entry.event) stored.event
  pub answer : Spells (answer_fields (answer_to entry)) stored.answer

-- the entry's names and numbers have their form
abbrev pub HasForm : Entry → Type 0
HasForm entry = IsTrue (have_form (event_fields entry.event)) × IsTrue (have_form (answer_fields (answer_to entry)))

-- what is kept is kept for one entry
abbrev pub IsOfOneEntry : Type 0
IsOfOneEntry = (a b : Entry) (stored : EntryBytes) → StoresEntry a stored → StoresEntry b stored → a ≡ b
