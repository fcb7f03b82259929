-- What a ledger keeps, and the ledger that it is.
use Rattle.std.specs.Prelude.{◌≡◌, map, length, Some, IsTrue}
use Rattle.ibc_machine.specs.chain.Genesis.{GenesisState, genesis_state, is_allowed}
use Rattle.ibc_machine.specs.ledger.Ledgers.{Ledger}
use Rattle.ibc_records.specs.RecordsModel.{core_of}
use Rattle.ibc_transfer.specs.InFlight.{IsInFlight}
use Rattle.ibc_ledger.specs.ReplayedState.{abstract_apps}
use Rattle.ibc_ledger.specs.ReplayedState.{IsReplayedState}
use Rattle.ibc_ledger.specs.LedgerModel.{LedgerModel, abstract_entry, shape_of}
use Rattle.ibc_ledger.specs.SentNames.{AreFirst}
use Rattle.ibc_ledger.specs.SentPackets.{happened_on}
use Rattle.ibc_ledger.specs.declared.ledger.Ledger.TheInside.{Inside}

abbrev pub genesis_of : Inside → GenesisState
genesis_of l = genesis_state l.genesis.value

abbrev pub ledger_of : Inside → Ledger
ledger_of l = record { genesis = genesis_of l; chain = l.node.number; history = map abstract_entry l.history.items; seen = l.pass.seen }

abbrev pub ledger_model : Inside → LedgerModel
ledger_model l = record { ledger = ledger_of l; table = l.table.value }

-- what is held is the state that the history leaves, and the bank knows what is burnt in flight; the pass is the chain's
-- own of the table of the genesis; and where in the history packets were sent is known
pub record IsSoundLedger (l : Inside) : Type 0 where
  pub stands : IsReplayedState (ledger_of l) l.node.records (abstract_apps l.node.applications)
  pub flight : IsInFlight l.node.applications.transfers (core_of l.node.records)
  pub allowed : IsTrue (is_allowed (genesis_of l))
  pub table : l.pass.table ≡ l.table.value
  pub own : l.pass.own ≡ Some l.node.number
  pub shape : l.table.value.shape ≡ shape_of (genesis_of l)
  pub chains : l.node.chains ≡ length (genesis_of l).chains
  pub capacity : l.capacity ≡ (genesis_of l).capacity
  pub sent : AreFirst l.sent.pairs (happened_on (ledger_of l))
