-- Which entry of a ledger's history a line of a run is of, and that no line and no entry is left out.
use Rattle.std.specs.Prelude.{◌≡◌, ◌==◌, ℕ, List, [], ◌∷◌, ◌++◌, length, if◌then◌else◌, slice_get, Option, None, Some, option_and_then, option_map, All, IfSome}
use Rattle.std.specs.List.{flat_map, range_with_len}
use Rattle.std.specs.Option.{option_map_or}
use Rattle.ibc_ids.specs.Texts.{Text}
use Rattle.ibc_machine.specs.declared.entry.Entry.{Entry}
use Rattle.ibc_machine.specs.declared.event.Event.{Event}
use Rattle.ibc_machine.specs.declared.event.Event.TheVariants as event
use Rattle.ibc_machine.specs.ledger.Ledgers.{Ledger}
use Rattle.ibc_machine.specs.ledger.Replay.{StampedEntry}
use Rattle.ibc_wire.specs.Kinds.{kind_of}
use Rattle.ibc_ledger.specs.declared.entry.StampedEntry.{StampedEntry as KeptEntry}
use Rattle.ibc_script.specs.EventKinds.{kind_name_of}
use Rattle.ibc_script.specs.declared.event_kind.EventKind.{EventKind}
use Rattle.ibc_script.specs.declared.event_kind.EventKind.TheVariants as kind
use Rattle.ibc_script_cli.specs.Lines.{reply_words, spaced_words}
use Rattle.ibc_script_cli.specs.Runs.{name_of}
use Rattle.ibc_explain.specs.declared.places.EntryPlace.{EntryPlace}
use Rattle.ibc_explain.specs.declared.places.PlacedLine.{PlacedLine}
use Rattle.ibc_explain.specs.declared.places.Placing.{Placing}

abbrev pub event_kind : Event → EventKind
event_kind (event.Message chain m) = kind.Message (kind_of m)
event_kind (event.Block chain next_time) = kind.Block

-- the line that a run prints of an entry of a chain, by the chain's name, and by its number
abbrev pub named_line : Text → Entry → Text
named_line name e = spaced_words (name ∷ kind_name_of (event_kind e.event) ∷ reply_words e.reply)

abbrev pub entry_line : List Text → ℕ → Entry → Text
entry_line names chain e = named_line (name_of names chain) e

-- the entry at a place of the ledgers' histories
abbrev pub entry_at : List Ledger → EntryPlace → Option Entry
entry_at ledgers place =
    option_map (λ (stamped : StampedEntry). stamped.entry)
    (option_and_then (λ (ledger : Ledger). slice_get ledger.history place.index) (slice_get ledgers place.chain))

-- the entry behind so many others of a history that is kept
abbrev pub kept_entry : List KeptEntry → ℕ → Option Entry
kept_entry history index = option_map (λ stamped. stamped.entry) (slice_get history index)

-- the line is that of the entry at the place
abbrev pub IsLineOf : List Text → List Ledger → Text → EntryPlace → Type 0
IsLineOf names ledgers text place = (e : Entry) × (entry_at ledgers place ≡ Some e) × (text ≡ entry_line names place.chain e)

-- the same among what the place is looked for
abbrev pub IsLineIn : Placing → Text → EntryPlace → Type 0
IsLineIn placing text = IsLineOf placing.names.now placing.world.now.ledgers text

abbrev pub IsPlaced : List Text → List Ledger → PlacedLine → Type 0
IsPlaced names ledgers line = IfSome line.place (IsLineOf names ledgers line.text.now)

-- ---- no line is left out

-- a line, with the line feed behind it
abbrev pub fed_line : PlacedLine → Text
fed_line line = line.text.now ++ 10 ∷ []

abbrev pub text_of : List PlacedLine → Text
text_of lines = flat_map fed_line lines

-- ---- no entry is left out

-- the index of a place, where it is of the chain
abbrev pub own_index : ℕ → Option EntryPlace → List ℕ
own_index chain None = []
own_index chain (Some place) = if place.chain == chain then place.index ∷ [] else []

-- the indexes of a chain's entries, in the order of their lines
abbrev pub indexes_of : ℕ → List PlacedLine → List ℕ
indexes_of chain [] = []
indexes_of chain (line ∷ lines) = own_index chain line.place ++ indexes_of chain lines

-- how many entries a chain has
abbrev pub entries_of : List Ledger → ℕ → ℕ
entries_of ledgers chain = option_map_or (λ (ledger : Ledger). length ledger.history) (slice_get ledgers chain) 0

-- of each chain all entries have their lines, each one, and in their order
abbrev pub TellsEach : List Ledger → List PlacedLine → Type 0
TellsEach ledgers lines = (chain : ℕ) → indexes_of chain lines ≡ range_with_len 0 (entries_of ledgers chain)

-- these are the lines of a text, each with the entry that it is of, and no entry is left out
pub record AreLinesOf (names : List Text) (ledgers : List Ledger) (text : Text) (lines : List PlacedLine) : Type 0 where
  pub whole : text_of lines ≡ text
  pub placed : All (IsPlaced names ledgers) lines
  pub each : TellsEach ledgers lines
