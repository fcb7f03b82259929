-- A world as its callers see it, and what its ledgers have in common.
use Rattle.std.specs.Prelude.{◌≡◌, ◌<◌, ℕ, List, map, length, Some, slice_get, IsTrue}
use Rattle.ibc_machine.specs.ledger.Ledgers.{Ledger, IsLedger}
use Rattle.ibc_root_table.specs.Passes.{TableName}
use Rattle.ibc_ledger.specs.LedgerModel.{LedgerModel}
use Rattle.ibc_machine.specs.chain.Genesis.{GenesisState, is_allowed}
use Rattle.ibc_machine.specs.declared.event.Event.{Event}
use Rattle.ibc_machine.specs.declared.reply.Reply.{Reply}
use Rattle.ibc_refinement.specs.World.{new_ledger}
use Rattle.ibc_refinement.specs.Meetings.{IsPut, FirstHaveSeenNoMore}
use Rattle.ibc_refinement.specs.Steps.{AllSeeMore}

-- the ledgers alone
abbrev pub ledgers_alone : List LedgerModel → List Ledger
ledgers_alone ledgers = map (λ (h : LedgerModel). h.ledger) ledgers

-- all ledgers publish in this table
abbrev pub AllAtTable : TableName → List LedgerModel → Type 0
AllAtTable table ledgers = (k : ℕ) (h : LedgerModel) → slice_get ledgers k ≡ Some h → h.table ≡ table

-- all ledgers publish in the table of the first of these
abbrev pub AllAtTableOf : List LedgerModel → List LedgerModel → Type 0
AllAtTableOf old ledgers = (h : LedgerModel) → slice_get old 0 ≡ Some h → AllAtTable h.table ledgers

-- there are as many ledgers as the genesis of each has chains
abbrev pub AreOfEachChain : List LedgerModel → Type 0
AreOfEachChain ledgers = (k : ℕ) (h : LedgerModel)
    → slice_get ledgers k ≡ Some h → length h.ledger.genesis.chains ≡ length ledgers

-- no other ledger has seen more than the leader
abbrev pub HaveSeenNoMore : LedgerModel → List LedgerModel → Type 0
HaveSeenNoMore leader others = FirstHaveSeenNoMore (length others) leader.ledger.seen (ledgers_alone others)

-- as many ledgers at the same table, which have at most seen more
pub record HaveSeenMore (table : TableName) (old new : List LedgerModel) : Type 0 where
  pub as_many : length new ≡ length old
  pub tables : AllAtTable table new
  pub more : AllSeeMore (ledgers_alone old) (ledgers_alone new)

-- the first so many are ledgers
abbrev pub FirstAreLedgers : ℕ → List Ledger → Type 0
FirstAreLedgers n ledgers = (k : ℕ) (ledger : Ledger) → k < n → slice_get ledgers k ≡ Some ledger → IsLedger ledger

-- the ledgers of a genesis in the beginning, which publish in this table
pub record AreBegun (genesis : GenesisState) (table : TableName) (ledgers : List LedgerModel) : Type 0 where
  pub all : length ledgers ≡ length genesis.chains
  pub each : (k : ℕ) (h : LedgerModel) → slice_get ledgers k ≡ Some h → h ≡ record { ledger = new_ledger genesis k; table = table }

-- the ledgers of a genesis in the beginning, which publish in one table
abbrev pub AreBegunTogether : GenesisState → List LedgerModel → Type 0
AreBegunTogether genesis ledgers = (table : TableName) × AreBegun genesis table ledgers

-- each ledger's place is the number of its chain
abbrev pub AreNumbered : List LedgerModel → Type 0
AreNumbered ledgers = (k : ℕ) (h : LedgerModel) → slice_get ledgers k ≡ Some h → h.ledger.chain ≡ k

-- each ledger is still at its table
abbrev pub SameTables : List LedgerModel → List LedgerModel → Type 0
SameTables old new = (k : ℕ) (g h : LedgerModel) → slice_get old k ≡ Some g → slice_get new k ≡ Some h → h.table ≡ g.table

-- the event was put to the ledgers of a world, whatever its genesis
abbrev pub IsPutTo : List LedgerModel → List ℕ → Event → Reply → List LedgerModel → List ℕ → Type 0
IsPutTo old order event given new order' = (genesis : GenesisState)
    → IsPut (record { genesis = genesis; ledgers = ledgers_alone old; order = order }) event given (record { genesis = genesis; ledgers = ledgers_alone new; order = order' })

-- each is a ledger
abbrev pub AreLedgers : List LedgerModel → Type 0
AreLedgers ledgers = (k : ℕ) (h : LedgerModel) → slice_get ledgers k ≡ Some h → IsLedger h.ledger

-- each is of an allowed genesis
abbrev pub AreAllowed : List LedgerModel → Type 0
AreAllowed ledgers = (k : ℕ) (h : LedgerModel) → slice_get ledgers k ≡ Some h → IsTrue (is_allowed h.ledger.genesis)
