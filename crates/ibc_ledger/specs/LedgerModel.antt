-- A ledger as its callers see it.
use Rattle.std.specs.Prelude.{ℕ, List, [], length}
use Rattle.std.specs.Option.{option_map}
use Rattle.ibc_ids.specs.declared.publication.Publication.{Publication}
use Rattle.ibc_machine.specs.declared.genesis.Genesis.{Genesis}
use Rattle.ibc_machine.specs.chain.Genesis.{GenesisState, genesis_state}
use Rattle.ibc_machine.specs.ledger.Replay.{StampedEntry}
use Rattle.ibc_machine.specs.ledger.Ledgers.{Ledger}
use Rattle.ibc_root_table.specs.Passes.{TableName}
use Rattle.ibc_root_table.specs.declared.shape.Shape.{Shape}
use Rattle.ibc_ledger.specs.declared.entry.StampedEntry.{StampedEntry as KeptEntry}

-- the ledger of a chain, and the table in which it publishes
pub record LedgerModel : Type 0 where
  pub ledger : Ledger
  pub table : TableName

-- an entry with the number of publications that were seen by then
abbrev pub abstract_entry : KeptEntry → StampedEntry
abstract_entry e = record { entry = e.entry; stamp = option_map (λ s. length s.value.seen) e.seen }

-- the shape of a table for the chains of a genesis
abbrev pub shape_of : GenesisState → Shape
shape_of genesis = record { chains = length genesis.chains; window = genesis.window; capacity = genesis.capacity }

-- the ledger of a chain in the beginning, where its pass has seen this, and which publishes in this table
abbrev pub begun_ledger : Genesis → ℕ → List Publication → TableName → LedgerModel
begun_ledger genesis chain seen table =
    record { ledger = record { genesis = genesis_state genesis; chain = chain; history = []; seen = seen }; table = table }

-- a ledger whose pass has seen just what the leader's has seen
abbrev pub after_follow : LedgerModel → LedgerModel → LedgerModel
after_follow old leader = record old { ledger = record old.ledger { seen = leader.ledger.seen } }
