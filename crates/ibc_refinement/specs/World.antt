-- A world: one ledger for each chain of a genesis, and the order in which their entries were added.
use Rattle.std.specs.Prelude.{◌≡◌, ◌<◌, ◌==◌, ℕ, true, nat_lt, List, [], map, filter, length, Some, slice_get, IsTrue}
use Rattle.std.specs.List.{list_all, count_by}
use Rattle.ibc_ids.specs.Publications.{height_of}
use Rattle.ibc_ids.specs.declared.publication.Publication.{Publication}
use Rattle.ibc_machine.specs.declared.entry.Entry.{Entry}
use Rattle.ibc_machine.specs.chain.Records.{MachineChain}
use Rattle.ibc_machine.specs.chain.Genesis.{GenesisState, start, is_allowed}
use Rattle.ibc_machine.specs.ledger.Ledgers.{Ledger, chain_of, is_accepted_block}
use Rattle.ibc_machine.specs.ledger.Merge.{Merges}
use Rattle.ibc_machine.specs.promises.Worlds.{AreLedgersOf, entries, interleaved, SinceGenesis}

-- the ledgers by the numbers of their chains, and for each entry that was added the number of its chain
pub record WorldState : Type 0 where
  pub genesis : GenesisState
  pub ledgers : List Ledger
  pub order : List ℕ

-- all entries, in the order in which they were added
abbrev pub kept_entries : WorldState → List Entry
kept_entries world = interleaved world.order (map entries world.ledgers)

-- every ledger has seen just these publications
abbrev pub AllHaveSeen : List Publication → List Ledger → Type 0
AllHaveSeen publications ledgers = (k : ℕ) (ledger : Ledger) → slice_get ledgers k ≡ Some ledger → ledger.seen ≡ publications

-- the publications are of the first so many chains
abbrev pub AreOfFirstChains : ℕ → List Publication → Type 0
AreOfFirstChains chains publications = (c : ℕ) → 0 < height_of c publications → c < chains

-- the order names each ledger as often as it has entries, and no others
pub record NamesEntries (order : List ℕ) (ledgers : List Ledger) : Type 0 where
  pub each : (k : ℕ) (ledger : Ledger) → slice_get ledgers k ≡ Some ledger
      → count_by (λ n. n == k) order ≡ length ledger.history
  pub no_others : list_all (λ n. nat_lt n (length ledgers)) order ≡ true

-- the chains of the blocks that were accepted
abbrev pub block_chains : List Entry → List ℕ
block_chains list = map (λ (e : Entry). chain_of e.event) (filter is_accepted_block list)

-- Between events: all ledgers have seen the same publications, and the kept order merges their histories along
-- these.
pub record IsWorld (world : WorldState) : Type 0 where
  pub allowed : IsTrue (is_allowed world.genesis)
  pub of : AreLedgersOf world.genesis world.ledgers
  pub publications : List Publication
  pub seen : AllHaveSeen publications world.ledgers
  pub within : AreOfFirstChains (length world.ledgers) publications
  pub names : NamesEntries world.order world.ledgers
  pub turns : block_chains (kept_entries world) ≡ map (λ (p : Publication). p.chain) publications
  pub merges : Merges world.genesis.window (map (λ (c : MachineChain). c.time) (start world.genesis))
      (map entries world.ledgers) publications (kept_entries world)

-- ---- a world's beginning and its past

-- a ledger with no entries, whose pass has seen nothing
abbrev pub new_ledger : GenesisState → ℕ → Ledger
new_ledger genesis k = record { genesis = genesis; chain = k; history = []; seen = [] }

-- the ledgers of a genesis, with no entries
pub record AreNew (genesis : GenesisState) (ledgers : List Ledger) : Type 0 where
  pub all : length ledgers ≡ length genesis.chains
  pub each : (k : ℕ) (ledger : Ledger) → slice_get ledgers k ≡ Some ledger → ledger ≡ new_ledger genesis k

abbrev pub NewIsWorld : Type 0
NewIsWorld = (genesis : GenesisState) (ledgers : List Ledger) → IsTrue (is_allowed genesis) → AreNew genesis ledgers
    → IsWorld record { genesis = genesis; ledgers = ledgers; order = [] }

-- the entries in their kept order are a run since genesis, along the publications that all ledgers have seen
abbrev pub HasItsPast : WorldState → Type 0
HasItsPast world = (publications : List Publication) × AllHaveSeen publications world.ledgers
    × SinceGenesis world.genesis world.order world.ledgers publications

abbrev pub OrderIsRun : Type 0
OrderIsRun = (world : WorldState) → IsWorld world → HasItsPast world
