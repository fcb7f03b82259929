-- Ledgers of a world meet, so that all have seen the same again.
use Rattle.std.specs.Prelude.{◌≡◌, ◌⊎◌, ◌≤◌, ◌<◌, ℕ, List, [], ◌∷◌, ◌++◌, length, Some, slice_get}
use mathlib.Core.List.{IsPrefix}
use Rattle.ibc_ids.specs.declared.publication.Publication.{Publication}
use Rattle.ibc_ids.specs.declared.refusal.Refusal.TheVariants.{NoMemory, UnknownChain}
use Rattle.ibc_machine.specs.declared.event.Event.{Event}
use Rattle.ibc_machine.specs.declared.reply.Reply.{Reply}
use Rattle.ibc_machine.specs.declared.reply.Reply.TheVariants as reply
use Rattle.ibc_machine.specs.ledger.Ledgers.{Ledger, IsLedger, SeesMore, chain_of}
use Rattle.ibc_refinement.specs.World.{WorldState, AllHaveSeen, AreOfFirstChains, IsWorld}
use Rattle.ibc_refinement.specs.Steps.{AllSeeMore, AddsNothing, AddsOne, IsStep, AreSteps}

-- the ledgers have at most seen more, and all of them the same
pub record HaveMet (old new : List Ledger) : Type 0 where
  pub as_many : length new ≡ length old
  pub each : AllSeeMore old new
  pub each_is : (k : ℕ) (ledger : Ledger) → slice_get new k ≡ Some ledger → IsLedger ledger
  pub publications : List Publication
  pub seen : AllHaveSeen publications new
  pub within : AreOfFirstChains (length new) publications

-- the first so many have seen no more than this
abbrev pub FirstHaveSeenNoMore : ℕ → List Publication → List Ledger → Type 0
FirstHaveSeenNoMore n seen ledgers = (k : ℕ) (ledger : Ledger) → k < n → slice_get ledgers k ≡ Some ledger → IsPrefix ledger.seen seen

-- the first so many have seen just this
abbrev pub FirstHaveSeen : ℕ → List Publication → List Ledger → Type 0
FirstHaveSeen n seen ledgers = (k : ℕ) (ledger : Ledger) → k < n → slice_get ledgers k ≡ Some ledger → ledger.seen ≡ seen

-- Where the first ledger has seen more, and the others then just what it has seen, all have met.
abbrev pub AllMeetTheFirst : Type 0
AllMeetTheFirst = (first leader : Ledger) (others now : List Ledger) → SeesMore first leader
    → length now ≡ length others → AllSeeMore others now → FirstHaveSeen (length now) leader.seen now
    → ((k : ℕ) (ledger : Ledger) → slice_get (leader ∷ now) k ≡ Some ledger → IsLedger ledger)
    → AreOfFirstChains (length (leader ∷ now)) leader.seen → HaveMet (first ∷ others) (leader ∷ now)

-- an event was put to the ledgers, which haven't met since
pub record IsPut (old : WorldState) (event : Event) (given : Reply) (new : WorldState) : Type 0 where
  pub genesis : new.genesis ≡ old.genesis
  pub as_many : length new.ledgers ≡ length old.ledgers
  pub adds : AddsNothing old event given new ⊎ AddsOne old event given new

-- An event that was put to the ledgers is a step of the world once they have met.
abbrev pub MeetingEndsStep : Type 0
MeetingEndsStep = (old mid new : WorldState) (event : Event) (given : Reply) → IsPut old event given mid
    → HaveMet mid.ledgers new.ledgers → new ≡ record mid { ledgers = new.ledgers } → IsStep old event given new

-- Where nothing is done, the reply is that memory ran out, or that there is no such chain.
abbrev pub NothingDoneIsStep : Type 0
NothingDoneIsStep = (world : WorldState) (event : Event) (given : Reply) → IsWorld world
    → (chain_of event < length world.ledgers → given ≡ reply.No NoMemory)
    → (length world.ledgers ≤ chain_of event → given ≡ reply.No UnknownChain) → IsStep world event given world

-- One step more is behind the others.
abbrev pub StepsGoOn : Type 0
StepsGoOn = (old mid new : WorldState) (events : List Event) (replies : List Reply) (event : Event) (given : Reply)
    → AreSteps old events replies mid → IsStep mid event given new
    → AreSteps old (events ++ event ∷ []) (replies ++ given ∷ []) new
