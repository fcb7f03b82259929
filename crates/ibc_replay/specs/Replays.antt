-- A world that is made again of the entries that were stored of one.
use Rattle.std.specs.Prelude.{◌≡◌, ◌≢◌, ◌≤◌, ◌+◌, ℕ, List, [], ◌∷◌, ◌++◌, map, take, length, Option, Some, slice_get, ⊤}
use Rattle.ibc_machine.specs.declared.event.Event.{Event}
use Rattle.ibc_machine.specs.declared.entry.Entry.{Entry}
use Rattle.ibc_machine.specs.declared.entry.Reading.{Reading}
use Rattle.ibc_machine.specs.chain.Genesis.{GenesisState}
use Rattle.ibc_machine.specs.ledger.Ledgers.{Ledger, chain_of, state_of}
use Rattle.ibc_machine.specs.promises.Worlds.{entries}
use Rattle.ibc_refinement.specs.World.{WorldState, kept_entries, AreNew, IsWorld}
use Rattle.ibc_refinement.specs.Steps.{AreSteps}
use Rattle.ibc_world_core.specs.EveryWorld.{IsLawfulUnlessClash}
use Rattle.ibc_replay.specs.declared.replaying.Answered.{Answered}
use Rattle.ibc_replay.specs.declared.replaying.Difference.{Difference}
use Rattle.ibc_replay.specs.declared.replaying.Difference.TheVariants.{NoGenesis, NoMemory, At, UnknownChain}

-- ---- a history that is as it is due

-- A world is asked the events of a list of entries, one after another. It answers as they say, and they are all that it
-- keeps besides what it had kept.
pub record GoesOnAsStored (old : WorldState) (list : List Entry) (new : WorldState) : Type 0 where
  pub steps : AreSteps old (map (λ (e : Entry). e.event) list) (map (λ (e : Entry). e.reply) list) new
  pub kept : kept_entries new ≡ kept_entries old ++ list

-- the world of a genesis in the beginning
pub record IsBeginning (genesis : GenesisState) (world : WorldState) : Type 0 where
  pub of : world.genesis ≡ genesis
  pub ledgers : AreNew genesis world.ledgers
  pub order : world.order ≡ []

-- each world of the genesis that keeps the list has its ledgers in these states
abbrev pub HasStatesOf : GenesisState → List Entry → WorldState → Type 0
HasStatesOf genesis list world = (stored : WorldState) → IsWorld stored → stored.genesis ≡ genesis
    → kept_entries stored ≡ list → map state_of stored.ledgers ≡ map state_of world.ledgers

-- From the beginning a world went on to this one as the list says. So the list is all that it keeps, its ledgers are in the
-- states of the world that was stored, and the page of every world is so of it.
pub record IsReplay (genesis : GenesisState) (list : List Entry) (world : WorldState) : Type 0 where
  pub beginning : WorldState
  pub begins : IsBeginning genesis beginning
  pub goes_on : GoesOnAsStored beginning list world
  pub of : world.genesis ≡ genesis
  pub kept : kept_entries world ≡ list
  pub states : HasStatesOf genesis list world
  pub lawful : IsLawfulUnlessClash world

-- ---- a history that is not

-- the entry of an event that was answered so
abbrev pub entry_of : Event → Answered → Entry
entry_of event given = record { event = event; reply = given.reply; reading = given.reading }

-- Up to an index a world goes on as the list says, and the next entry has this event and this answer.
pub record IsAsStoredUpTo (old : WorldState) (list : List Entry) (index : ℕ) (event : Event) (stored : Answered)
    (mid : WorldState) : Type 0 where
  pub goes_on : GoesOnAsStored old (take index list) mid
  pub next : slice_get list index ≡ Some (entry_of event stored)

-- Why a world that is asked as a list says, the first of which has this place, stops, and the world then. Another answer
-- is due than the stored one, and the world keeps that; or it has no chain for the event; or memory ran out.
abbrev pub StopsBy : WorldState → ℕ → List Entry → Difference → WorldState → Type 0
StopsBy old first list (At place due stored) new =
    (index : ℕ) × (event : Event) × (mid : WorldState) × (place ≡ first + index)
    × IsAsStoredUpTo old list index event stored mid × GoesOnAsStored mid (entry_of event due ∷ []) new × (due ≢ stored)
StopsBy old first list (UnknownChain place stored) new =
    (index : ℕ) × (event : Event) × (place ≡ first + index) × IsAsStoredUpTo old list index event stored new
    × (length new.ledgers ≤ chain_of event)
StopsBy old first list NoMemory new = (index : ℕ) × (kept_entries new ≡ kept_entries old ++ take index list)
StopsBy old first list NoGenesis new = ⊥

-- a world of the genesis that is asked as the list says, from its beginning on, stops for this reason
abbrev pub StopsFromBeginning : GenesisState → List Entry → Difference → Type 0
StopsFromBeginning genesis list why =
    (beginning : WorldState) × (new : WorldState) × IsBeginning genesis beginning × StopsBy beginning 0 list why new

abbrev pub IsDifference : GenesisState → List Entry → Difference → Type 0
IsDifference genesis list NoGenesis = ⊤
IsDifference genesis list NoMemory = ⊤
IsDifference genesis list why = StopsFromBeginning genesis list why

-- ---- one entry

-- Why a world doesn't take an entry that is stored at this place, and the world then.
abbrev pub StopsAt : WorldState → ℕ → Entry → Difference → WorldState → Type 0
StopsAt old here entry (At place due stored) new =
    (place ≡ here) × (entry ≡ entry_of entry.event stored) × GoesOnAsStored old (entry_of entry.event due ∷ []) new
    × (due ≢ stored)
StopsAt old here entry (UnknownChain place stored) new =
    (place ≡ here) × (entry ≡ entry_of entry.event stored) × (new ≡ old) × (length old.ledgers ≤ chain_of entry.event)
StopsAt old here entry NoMemory new = kept_entries new ≡ kept_entries old
StopsAt old here entry NoGenesis new = ⊥

-- what was read for the last entry of a list
abbrev pub IsLastReading : List Entry → Option Reading → Type 0
IsLastReading list reading = (front : List Entry) (last : Entry) → list ≡ front ++ last ∷ [] → reading ≡ last.reading

-- what was read for the last entry of a chain
abbrev pub HasLastReading : WorldState → ℕ → Option Reading → Type 0
HasLastReading world chain reading =
    (ledger : Ledger) → slice_get world.ledgers chain ≡ Some ledger → IsLastReading (entries ledger) reading
