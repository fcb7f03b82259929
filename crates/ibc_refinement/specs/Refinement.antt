-- The theorem from which a world's run and an audit take theirs.
use Rattle.std.specs.Prelude.{◌≡◌, ◌⊎◌, ◌≤◌, ℕ, List, [], ◌∷◌, ◌++◌, length, map, filter, Some, slice_get, IsTrue}
use Rattle.ibc_ids.specs.declared.publication.Publication.{Publication}
use Rattle.ibc_ids.specs.declared.refusal.Refusal.TheVariants.{NoMemory, UnknownChain}
use Rattle.ibc_machine.specs.declared.event.Event.{Event}
use Rattle.ibc_machine.specs.declared.reply.Reply.{Reply}
use Rattle.ibc_machine.specs.declared.reply.Reply.TheVariants as reply
use Rattle.ibc_machine.specs.declared.entry.Entry.{Entry}
use Rattle.ibc_machine.specs.chain.Records.{MachineChain}
use Rattle.ibc_machine.specs.chain.Genesis.{GenesisState, start, is_allowed}
use Rattle.ibc_machine.specs.ledger.Replay.{StampedEntry}
use Rattle.ibc_machine.specs.ledger.Ledgers.{Ledger, chain_of}
use Rattle.ibc_machine.specs.ics23.HashedTexts.{HasNoClash}
use Rattle.ibc_machine.specs.ledger.Merge.{is_of_chain, Merges}
use Rattle.ibc_machine.specs.promises.Worlds.{AreLedgersOf, AreOfOneTable, AppliesEach, entries, interleaved, IsWorldHistory, Refines, SinceGenesis}

-- Every list that merges the histories of the ledgers of a genesis along one list of publications is a run of
-- the machine since genesis to the ledgers' states, where no two texts that are hashed clash.
abbrev pub MergedIsRun : Type 0
MergedIsRun =
    (genesis : GenesisState) (ledgers : List Ledger) (publications : List Publication) (list : List Entry)
    → AreLedgersOf genesis ledgers → AreOfOneTable publications ledgers → IsTrue (is_allowed genesis) → HasNoClash ledgers
    → Merges genesis.window (map (λ (c : MachineChain). c.time) (start genesis)) (map entries ledgers) publications list
    → IsWorldHistory genesis ledgers publications list

-- The order that a world keeps, which merges the histories along its publications, is a run since genesis.
abbrev pub KeptOrderIsRun : Type 0
KeptOrderIsRun =
    (genesis : GenesisState) (order : List ℕ) (ledgers : List Ledger) (publications : List Publication)
    → AreLedgersOf genesis ledgers → AreOfOneTable publications ledgers → IsTrue (is_allowed genesis)
    → Merges genesis.window (map (λ (c : MachineChain). c.time) (start genesis)) (map entries ledgers) publications
    (interleaved order (map entries ledgers))
    → SinceGenesis genesis order ledgers publications

-- ---- from one state of a world to the next

-- the event gave no entry: memory ran out, or there is no chain of its number
abbrev pub GivesNothing : ℕ → Event → Reply → Type 0
GivesNothing chains event given =
    (given ≡ reply.No NoMemory) ⊎ ((given ≡ reply.No UnknownChain) × (chains ≤ chain_of event))

-- one reply for each event, and the entries of those events that gave one, in their order
abbrev pub AreAnswered : ℕ → List Event → List Reply → List Entry → Type 0
AreAnswered chains [] [] more = more ≡ []
AreAnswered chains (event ∷ events) (given ∷ replies) more =
    (GivesNothing chains event given × AreAnswered chains events replies more)
    ⊎ ((e : Entry) × (rest : List Entry) × (more ≡ e ∷ rest) × (e.event ≡ event) × (e.reply ≡ given)
    × AreAnswered chains events replies rest)
AreAnswered chains [] (given ∷ replies) more = ⊥
AreAnswered chains (event ∷ events) [] more = ⊥

-- the ledger has perhaps more entries, and has perhaps seen more
abbrev pub GoesOn : Ledger → Ledger → Type 0
GoesOn old new = (added : List StampedEntry) × (more : List Publication)
    × (new ≡ record old { history = old.history ++ added; seen = old.seen ++ more })

-- A world whose ledgers went on by the entries of events goes on in the machine by these events, with their
-- replies, where before and after its kept order merges the histories.
abbrev pub GoingOnIsRun : Type 0
GoingOnIsRun =
    (genesis : GenesisState) (old new : List Ledger) (publications : List Publication) (list more : List Entry)
    (events : List Event) (replies : List Reply)
    → AreLedgersOf genesis old → AreLedgersOf genesis new → AreOfOneTable publications new
    → ((k : ℕ) (before after : Ledger) → slice_get old k ≡ Some before → slice_get new k ≡ Some after → GoesOn before after)
    → ((k : ℕ) (before : Ledger) → slice_get old k ≡ Some before → filter (is_of_chain k) list ≡ entries before)
    → Merges genesis.window (map (λ (c : MachineChain). c.time) (start genesis)) (map entries new) publications (list ++ more)
    → AreAnswered (length new) events replies more
    → Refines genesis old events replies new

-- ---- by the contract of a world's run

-- the entries that events gave: each ledger has those of its chain more
pub record GaveEntries (old : List Ledger) (events : List Event) (replies : List Reply) (new : List Ledger) (more : List Entry) : Type 0 where
  pub as_many : length new ≡ length old
  pub answered : AreAnswered (length old) events replies more
  pub each : (k : ℕ) (before after : Ledger) → slice_get old k ≡ Some before → slice_get new k ≡ Some after
      → GoesOn before after × (entries after ≡ entries before ++ filter (is_of_chain k) more)

-- Events that were applied one after another refine the machine, where the kept order merges the histories
-- before, and with the entries that the events gave behind it those after.
abbrev pub AppliedIsRun : Type 0
AppliedIsRun =
    (genesis : GenesisState) (old new : List Ledger) (before publications : List Publication) (list : List Entry)
    (events : List Event) (replies : List Reply)
    → AreLedgersOf genesis old → AreLedgersOf genesis new → AreOfOneTable publications new
    → AppliesEach old events replies new
    → Merges genesis.window (map (λ (c : MachineChain). c.time) (start genesis)) (map entries old) before list
    → ((more : List Entry) → GaveEntries old events replies new more
    → Merges genesis.window (map (λ (c : MachineChain). c.time) (start genesis)) (map entries new) publications (list ++ more))
    → Refines genesis old events replies new
