-- Ledgers that are made again of what a journal keeps.
use Rattle.std.specs.Prelude.{◌≡◌, ◌≢◌, ◌⊎◌, ℕ, Bool, true, false, List, [], Option, Some, None, Ok, Err, IsTrue}
use Rattle.ibc_ids.specs.Texts.{Text}
use Rattle.ibc_ids.specs.declared.refusal.Refusal.TheVariants.{NoMemory, BadMessage, UnknownChain}
use Rattle.ibc_wire.specs.Fields.{Field, Spells, have_form}
use Rattle.ibc_machine.specs.declared.entry.Entry.{Entry}
use Rattle.ibc_machine.specs.chain.Genesis.{GenesisState, genesis_state, is_allowed}
use Rattle.ibc_refinement.specs.World.{WorldState}
use Rattle.ibc_world_core.specs.WorldModel.{ledgers_alone}
use Rattle.ibc_replay.specs.Replays.{IsReplay, IsDifference}
use Rattle.ibc_replay.specs.declared.replaying.Answered.{Answered}
use Rattle.ibc_replay.specs.declared.replaying.Difference.{Difference}
use Rattle.ibc_replay.specs.declared.replaying.Difference.TheVariants as why
use Rattle.ibc_entry_codec.specs.Answers.{answer_fields}
use Rattle.ibc_handle.specs.declared.handle_value.HandleValue.{HandleValue}
use Rattle.ibc_handle.specs.declared.handle_value.HandleValue.TheVariants as held
use Rattle.ibc_calls.specs.declared.answer.Refused.{Refused}
use Rattle.ibc_calls.specs.declared.answer.Refused.TheVariants.{Core, Empty, Full, OtherKind, OtherAnswer}
use Rattle.ibc_calls.specs.CallAnswers.{Answer}
use Rattle.ibc_calls.specs.Handles.{IsPut, StaysEmpty}

-- ---- what is told of another answer

-- where the place of an entry is told, and the answer that is due there
pub record DueOutput : Type 0 where
  pub place : ℕ
  pub bytes : Text
  pub size : ℕ

abbrev pub due_fields : Answered → List Field
due_fields due = answer_fields (record { reply = due.reply; reading = due.reading })

-- the bytes of an answer, or none where it has no spelling
abbrev pub AreOfAnswer : Answered → Text → Type 0
AreOfAnswer due bytes = Spells (due_fields due) bytes ⊎ ((bytes ≡ []) × (IsTrue (have_form (due_fields due)) → ⊥))

-- the place is told, and the bytes of what is due there are written where there is room
abbrev pub IsDueTold : ℕ → Answered → DueOutput → DueOutput → Type 0
IsDueTold place due old new =
    (new.place ≡ place) × (bytes : Text) × AreOfAnswer due bytes × IsPut bytes old.bytes new.bytes new.size

-- what is told of a difference
abbrev pub TellsDifference : Difference → DueOutput → DueOutput → Answer → Type 0
TellsDifference why.NoGenesis old new answer = (new ≡ old) × (answer ≡ Err (Core BadMessage))
TellsDifference why.NoMemory old new answer = (new ≡ old) × (answer ≡ Err (Core NoMemory))
TellsDifference (why.UnknownChain place stored) old new answer =
    (new ≡ record old { place = place }) × (answer ≡ Err (Core UnknownChain))
TellsDifference (why.At place due stored) old new answer =
    (IsDueTold place due old new × (answer ≡ Err OtherAnswer)) ⊎ ((new ≡ old) × (answer ≡ Err (Core NoMemory)))

-- ---- the ledgers

-- the ledgers of a world, under its number
abbrev pub AreOfWorld : WorldState → ℕ → HandleValue → Type 0
AreOfWorld world number (held.Ledgers all) = (all.number ≡ number) × (ledgers_alone all.ledgers ≡ world.ledgers)
AreOfWorld world number _ = ⊥

-- the ledgers of a world of the genesis that kept just these entries
abbrev pub AreReplayed : GenesisState → List Entry → ℕ → HandleValue → Type 0
AreReplayed genesis list number value = (world : WorldState) × IsReplay genesis list world × AreOfWorld world number value

-- the ledgers are made; or memory ran out, or the first entry that isn't as it is due is told
abbrev pub Replays : GenesisState → List Entry → ℕ → Option HandleValue → DueOutput → DueOutput → Answer → Type 0
Replays genesis list number (Some value) old new answer =
    AreReplayed genesis list number value × (new ≡ old) × (answer ≡ Ok tt)
Replays genesis list number None old new answer =
    ((new ≡ old) × (answer ≡ Err (Core NoMemory)))
    ⊎ ((difference : Difference) × (difference ≢ why.NoGenesis) × IsDifference genesis list difference
    × TellsDifference difference old new answer)

-- no world begins with a genesis that isn't allowed
abbrev pub ReplaysIfAllowed : Bool → GenesisState → List Entry → ℕ → Option HandleValue → DueOutput → DueOutput → Answer → Type 0
ReplaysIfAllowed true genesis list number made old new answer = Replays genesis list number made old new answer
ReplaysIfAllowed false genesis list number made old new answer = (new ≡ old) × StaysEmpty (Core BadMessage) made answer

-- The entries are given up to the replay, whatever comes of it. Another value stays.
abbrev pub ReplaysValue : GenesisState → ℕ → Option HandleValue → Option HandleValue → Option HandleValue → DueOutput → DueOutput → Answer → Type 0
ReplaysValue genesis number None entries' made old new answer =
    (entries' ≡ None) × (new ≡ old) × StaysEmpty Empty made answer
ReplaysValue genesis number (Some (held.Entries list)) entries' made old new answer =
    (entries' ≡ None) × ReplaysIfAllowed (is_allowed genesis) genesis list.items number made old new answer
ReplaysValue genesis number (Some other) entries' made old new answer =
    (entries' ≡ Some other) × (new ≡ old) × StaysEmpty OtherKind made answer

abbrev pub ReplaysOf : Option HandleValue → ℕ → Option HandleValue → Option HandleValue → Option HandleValue → DueOutput → DueOutput → Answer → Type 0
ReplaysOf None number entries entries' made old new answer =
    (entries' ≡ entries) × (new ≡ old) × StaysEmpty Empty made answer
ReplaysOf (Some (held.Genesis genesis)) number entries entries' made old new answer =
    ReplaysValue (genesis_state genesis) number entries entries' made old new answer
ReplaysOf (Some other) number entries entries' made old new answer =
    (entries' ≡ entries) × (new ≡ old) × StaysEmpty OtherKind made answer

-- the ledgers are made in the last handle, of the genesis that the first one holds and of the entries of the second
unfoldable pub MakesReplayed : Option HandleValue → ℕ → Option HandleValue → Option HandleValue → Option HandleValue → Option HandleValue → DueOutput → DueOutput → Answer → Type 0
MakesReplayed genesis number entries entries' (Some full) made old new answer =
    (entries' ≡ entries) × (new ≡ old) × (made ≡ Some full) × (answer ≡ Err Full)
MakesReplayed genesis number entries entries' None made old new answer =
    ReplaysOf genesis number entries entries' made old new answer

-- ---- entries that are taken out

-- why no entries are taken out
abbrev pub HasNoEntries : Option HandleValue → Refused → Type 0
HasNoEntries None refused = refused ≡ Empty
HasNoEntries (Some (held.Entries list)) refused = ⊥
HasNoEntries (Some other) refused = refused ≡ OtherKind
