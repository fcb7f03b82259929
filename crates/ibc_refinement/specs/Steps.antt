-- How a world goes on by an event, and by events one after another.
use Rattle.std.specs.Prelude.{◌≡◌, ◌⊎◌, ◌≤◌, ◌<◌, ◌==◌, ◌&&◌, ℕ, nat_lt, Bool, true, false, List, [], ◌∷◌, ◌++◌, length, Some, slice_get}
use Rattle.std.specs.List.{filter, zip}
use Rattle.ibc_ids.specs.declared.publication.Publication.{Publication}
use Rattle.ibc_ids.specs.declared.refusal.Refusal.TheVariants.{NoMemory, UnknownChain}
use Rattle.ibc_machine.specs.declared.event.Event.{Event}
use Rattle.ibc_machine.specs.declared.reply.Reply.{Reply}
use Rattle.ibc_machine.specs.declared.reply.Reply.TheVariants as reply
use Rattle.ibc_machine.specs.declared.entry.Entry.{Entry}
use Rattle.ibc_machine.specs.ledger.Ledgers.{Ledger, IsLedger, SeesMore, chain_of, AddsNext}
use Rattle.ibc_machine.specs.promises.Histories.{Happened}
use Rattle.ibc_machine.specs.promises.Worlds.{AppliesEach, Refines, happened_by}
use Rattle.ibc_refinement.specs.World.{WorldState, kept_entries, AllHaveSeen, AreOfFirstChains, IsWorld}

-- the event was this ledger's, or another's
abbrev pub AddsIf : Bool → Event → Reply → Ledger → Ledger → Type 0
AddsIf true event given before after = AddsNext before event given after
AddsIf false event given before after = SeesMore before after

-- the ledgers have at most seen more
abbrev pub AllSeeMore : List Ledger → List Ledger → Type 0
AllSeeMore old new = (k : ℕ) (before after : Ledger) → slice_get old k ≡ Some before → slice_get new k ≡ Some after
    → SeesMore before after

-- nothing was added: memory ran out, or there is no chain of the event's number
pub record AddsNothing (old : WorldState) (event : Event) (given : Reply) (new : WorldState) : Type 0 where
  pub no_memory : chain_of event < length old.ledgers → given ≡ reply.No NoMemory
  pub unknown : length old.ledgers ≤ chain_of event → given ≡ reply.No UnknownChain
  pub order : new.order ≡ old.order
  pub each : AllSeeMore old.ledgers new.ledgers

-- memory didn't run out
abbrev pub is_answered : Reply → Bool
is_answered (reply.No NoMemory) = false
is_answered _ = true

-- the ledger of the event's chain has one entry more
pub record AddsOne (old : WorldState) (event : Event) (given : Reply) (new : WorldState) : Type 0 where
  pub known : chain_of event < length old.ledgers
  pub answered : is_answered given ≡ true
  pub order : new.order ≡ old.order ++ chain_of event ∷ []
  pub each : (k : ℕ) (before after : Ledger) → slice_get old.ledgers k ≡ Some before
      → slice_get new.ledgers k ≡ Some after → AddsIf (chain_of event == k) event given before after

-- A world goes on by an event. Afterwards all ledgers have again seen the same publications.
pub record IsStep (old : WorldState) (event : Event) (given : Reply) (new : WorldState) : Type 0 where
  pub genesis : new.genesis ≡ old.genesis
  pub as_many : length new.ledgers ≡ length old.ledgers
  pub each_is : (k : ℕ) (ledger : Ledger) → slice_get new.ledgers k ≡ Some ledger → IsLedger ledger
  pub publications : List Publication
  pub seen : AllHaveSeen publications new.ledgers
  pub within : AreOfFirstChains (length new.ledgers) publications
  pub adds : AddsNothing old event given new ⊎ AddsOne old event given new

abbrev pub StepIsKept : Type 0
StepIsKept = (old : WorldState) (event : Event) (given : Reply) (new : WorldState) → IsWorld old
    → IsStep old event given new → IsWorld new

-- one reply for each event, one step after another
abbrev pub AreSteps : WorldState → List Event → List Reply → WorldState → Type 0
AreSteps old [] [] new = new ≡ old
AreSteps old (event ∷ events) (given ∷ replies) new =
    (mid : WorldState) × IsStep old event given mid × AreSteps mid events replies new
AreSteps old [] (given ∷ replies) new = ⊥
AreSteps old (event ∷ events) [] new = ⊥

-- an event has an entry just where there is its chain and memory didn't run out
abbrev pub has_entry : ℕ → Happened → Bool
has_entry chains h = nat_lt (chain_of h.0) chains && is_answered h.1

-- What steps leave: a world, which went on in the machine by the events that were applied. All entries that it
-- had kept stand as they stood, and behind them one for each event that has an entry, in their order.
pub record GoesOnBy (old : WorldState) (events : List Event) (replies : List Reply) (new : WorldState) : Type 0 where
  pub genesis : new.genesis ≡ old.genesis
  pub is : IsWorld new
  pub applies : AppliesEach old.ledgers events replies new.ledgers
  pub more : List Entry
  pub kept : kept_entries new ≡ kept_entries old ++ more
  pub answered : happened_by more ≡ filter (has_entry (length old.ledgers)) (zip events replies)
  pub refines : Refines old.genesis old.ledgers events replies new.ledgers

abbrev pub StepsRefine : Type 0
StepsRefine = (old : WorldState) (events : List Event) (replies : List Reply) (new : WorldState) → IsWorld old
    → AreSteps old events replies new → GoesOnBy old events replies new
