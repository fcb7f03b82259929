-- What a world and an audit promise: what ledgers do over roots and proofs is a run of the machine, which looks.
use Rattle.std.specs.Prelude.{◌≡◌, ◌≤◌, ◌==◌, take, ℕ, Bool, true, false, List, [], ◌∷◌, map, length, Option, Some, None, slice_get, slice_set, IsTrue}
use Rattle.std.specs.List.{filter, flat_map, list_all, list_any, range_with_len}
use Rattle.ibc_ids.specs.Texts.{Text}
use Rattle.ibc_ids.specs.Maps.{Map}
use Rattle.ibc_ids.specs.Publications.{published_by}
use Rattle.ibc_ids.specs.declared.publication.Publication.{Publication}
use Rattle.ibc_ids.specs.declared.refusal.Refusal.TheVariants.{UnknownChain}
use Rattle.ibc_machine.specs.declared.event.Event.{Event}
use Rattle.ibc_machine.specs.declared.reply.Reply.{Reply}
use Rattle.ibc_machine.specs.declared.reply.Reply.TheVariants as reply
use Rattle.ibc_machine.specs.declared.entry.Entry.{Entry}
use Rattle.ibc_machine.specs.chain.Records.{MachineChain}
use Rattle.ibc_machine.specs.ics20.Bank.{Balances}
use Rattle.ibc_machine.specs.chain.Genesis.{GenesisState, start, is_allowed}
use Rattle.ibc_machine.specs.chain.Machine.{IsRun}
use Rattle.ibc_machine.specs.ledger.Replay.{StampedEntry}
use Rattle.ibc_machine.specs.ledger.Ledgers.{Ledger, IsLedger, Adds, SeesMore, chain_of, machine_of}
use Rattle.ibc_machine.specs.ics23.HashedTexts.{HasNoClash}
use Rattle.ibc_machine.specs.promises.Histories.{Happened}
use Rattle.ibc_machine.specs.promises.Laws.{IsPast}
use Rattle.ibc_machine.specs.ledger.Merge.{Merges}

-- ---- the refinement theorem

-- For every list of messages and blocks, in any order, with any message missing, repeated or forged, the
-- replies and the states of all chains are a run of the machine in which each end looks straight at what the
-- other had committed at the height named.
abbrev pub Refines : GenesisState → List Ledger → List Event → List Reply → List Ledger → Type 0
Refines genesis old events replies new =
    HasNoClash new → IsRun genesis (machine_of old) events replies (machine_of new)

-- the ledger of the event's chain has one entry more, or memory ran out; the others have at most seen more
abbrev pub AppliesIf : Bool → Event → Reply → Ledger → Ledger → Type 0
AppliesIf true event given before after = Adds before event given after
AppliesIf false event given before after = SeesMore before after

pub record Applies (old : List Ledger) (event : Event) (given : Reply) (new : List Ledger) : Type 0 where
  pub as_many : length new ≡ length old
  pub each : (k : ℕ) (before after : Ledger) → slice_get old k ≡ Some before → slice_get new k ≡ Some after
      → AppliesIf (chain_of event == k) event given before after
  pub unknown : length old ≤ chain_of event → given ≡ reply.No UnknownChain

-- one reply for each event, which were applied one after another
abbrev pub AppliesEach : List Ledger → List Event → List Reply → List Ledger → Type 0
AppliesEach old [] [] new = new ≡ old
AppliesEach old (event ∷ events) (given ∷ replies) new =
    (mid : List Ledger) × Applies old event given mid × AppliesEach mid events replies new
AppliesEach old [] (given ∷ replies) new = ⊥
AppliesEach old (event ∷ events) [] new = ⊥

-- ---- all ledgers' entries as one list

abbrev pub entries : Ledger → List Entry
entries ledger = map (λ (e : StampedEntry). e.entry) ledger.history

-- the first entry of history k, and then those that the rest of an order names
abbrev pub interleaved_from : (List (List Entry) → List Entry) → List (List Entry) → ℕ → Option (List Entry)
    → List Entry
interleaved_from next histories k (Some (entry ∷ rest)) = entry ∷ next (slice_set histories k rest)
interleaved_from next histories k (Some []) = next histories
interleaved_from next histories k None = next histories

-- the entries of histories, in an order that names for each entry its history's number
abbrev pub interleaved : List ℕ → List (List Entry) → List Entry
interleaved [] histories = []
interleaved (k ∷ order) histories = interleaved_from (interleaved order) histories k (slice_get histories k)

abbrev pub happened_by : List Entry → List Happened
happened_by list = map (λ (e : Entry). (e.event, e.reply)) list

-- The list has all entries of all histories, along these publications, and is a run since genesis to the
-- states of the ledgers.
pub record IsWorldHistory (genesis : GenesisState) (ledgers : List Ledger) (publications : List Publication)
    (list : List Entry) : Type 0 where
  pub merges : Merges genesis.window (map (λ (c : MachineChain). c.time) (start genesis)) (map entries ledgers)
      publications list
  pub past : IsPast genesis (happened_by list) (machine_of ledgers)

-- The entries since genesis, without steps that ran out of memory and events for chains that aren't there,
-- are a run too, in the order that the world keeps.
abbrev pub SinceGenesis : GenesisState → List ℕ → List Ledger → List Publication → Type 0
SinceGenesis genesis order ledgers publications = HasNoClash ledgers
    → IsWorldHistory genesis ledgers publications (interleaved order (map entries ledgers))

-- ---- ledgers of one world

-- one ledger of each chain of the genesis, in the order of their numbers
pub record AreLedgersOf (genesis : GenesisState) (ledgers : List Ledger) : Type 0 where
  pub each : (k : ℕ) (ledger : Ledger) → slice_get ledgers k ≡ Some ledger → (ledger.genesis ≡ genesis)
      × (ledger.chain ≡ k) × IsLedger ledger
  pub all : length ledgers ≡ length genesis.chains

-- the passes of ledgers have seen beginnings of one list of publications, and each all of its own chain's;
-- the publications are of these chains
pub record AreOfOneTable (publications : List Publication) (ledgers : List Ledger) : Type 0 where
  pub beginnings : (k : ℕ) (ledger : Ledger) → slice_get ledgers k ≡ Some ledger
      → (n : ℕ) × (ledger.seen ≡ take n publications)
  pub own : (k : ℕ) (ledger : Ledger) → slice_get ledgers k ≡ Some ledger → published_by ledger.chain ledger.seen
      ≡ published_by ledger.chain publications
  pub of_chains : list_all (λ (p : Publication). list_any (λ (l : Ledger). l.chain == p.chain) ledgers) publications ≡ true

-- ---- the merge theorem: threads

-- the ledgers of chain k, of which there should be one
abbrev pub of_chain : ℕ → List Ledger → List Ledger
of_chain k ledgers = filter (λ (l : Ledger). l.chain == k) ledgers

-- the ledgers by the numbers of their chains
abbrev pub by_number : GenesisState → List Ledger → List Ledger
by_number genesis ledgers = flat_map (λ k. of_chain k ledgers) (range_with_len 0 (length genesis.chains))

-- no chain of the genesis is missing or twice
abbrev pub is_complete : GenesisState → List Ledger → Bool
is_complete genesis ledgers =
    list_all (λ k. length (of_chain k ledgers) == 1) (range_with_len 0 (length genesis.chains))

-- The histories merge, along the publications that all passes saw, into one list. From an allowed genesis, and where
-- no texts clash, that list is a run with the replies in the histories; the balances and notes are those of its end.
pub record IsAudited (genesis : GenesisState) (ledgers : List Ledger) (publications : List Publication)
    (balances : List Balances) (notes : List (Map Text (List Text))) : Type 0 where
  pub list : List Entry
  pub merges : Merges genesis.window (map (λ (c : MachineChain). c.time) (start genesis))
      (map entries (by_number genesis ledgers)) publications list
  pub past : IsTrue (is_allowed genesis) → HasNoClash ledgers
      → IsPast genesis (happened_by list) (machine_of (by_number genesis ledgers))
  pub balances_are : balances ≡ map (λ (c : MachineChain). c.records.apps.balances) (machine_of (by_number genesis ledgers))
  pub notes_are : notes ≡ map (λ (c : MachineChain). c.records.apps.notes) (machine_of (by_number genesis ledgers))

-- there is one list of publications of which every pass saw a beginning, with all of its own chain's, and the
-- histories are audited along it
abbrev pub Audited : GenesisState → List Ledger → List Balances → List (Map Text (List Text)) → Type 0
Audited genesis ledgers balances notes =
    (publications : List Publication) × AreOfOneTable publications ledgers
    × IsAudited genesis ledgers publications balances notes
