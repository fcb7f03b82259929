-- An audit takes ledgers in any order, with no chain missing or twice.
use Rattle.std.specs.Prelude.{◌≡◌, ℕ, List, map, Some, slice_get, IsTrue}
use Rattle.ibc_ids.specs.declared.publication.Publication.{Publication}
use Rattle.ibc_machine.specs.chain.Records.{MachineChain}
use Rattle.ibc_machine.specs.chain.Genesis.{GenesisState}
use Rattle.ibc_machine.specs.ledger.Ledgers.{Ledger, IsLedger, machine_of}
use Rattle.ibc_machine.specs.promises.Worlds.{AreOfOneTable, by_number, is_complete, IsAudited}

-- ledgers of this genesis
abbrev pub AreOfGenesis : GenesisState → List Ledger → Type 0
AreOfGenesis genesis ledgers =
    (k : ℕ) (ledger : Ledger) → slice_get ledgers k ≡ Some ledger → (ledger.genesis ≡ genesis) × IsLedger ledger

-- Their histories merge along the publications; from an allowed genesis, and where no texts clash, into a run since
-- genesis, to balances and notes that are those of the ledgers.
abbrev pub AuditIsRun : Type 0
AuditIsRun = (genesis : GenesisState) (ledgers : List Ledger) (publications : List Publication)
    → AreOfGenesis genesis ledgers → IsTrue (is_complete genesis ledgers) → AreOfOneTable publications ledgers
    → IsAudited genesis ledgers publications
    (map (λ (c : MachineChain). c.records.apps.balances) (machine_of (by_number genesis ledgers)))
    (map (λ (c : MachineChain). c.records.apps.notes) (machine_of (by_number genesis ledgers)))
