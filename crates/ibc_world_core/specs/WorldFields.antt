-- What a world keeps, and the world that it is.
use Rattle.std.specs.Prelude.{◌≡◌, Some, slice_get}
use Rattle.ibc_machine.specs.chain.Genesis.{genesis_state}
use Rattle.ibc_ledger.specs.LedgerModel.{LedgerModel}
use Rattle.ibc_refinement.specs.World.{WorldState, IsWorld}
use Rattle.ibc_world_core.specs.declared.world.World.TheInside.{Inside}
use Rattle.ibc_world_core.specs.WorldModel.{ledgers_alone, AllAtTable}

abbrev pub state_of : Inside → WorldState
state_of w = record { genesis = genesis_state w.genesis.value; ledgers = ledgers_alone w.ledgers.items; order = w.order.items }

-- it is a world, whose ledgers publish in one table
pub record IsSoundWorld (w : Inside) : Type 0 where
  pub world : IsWorld (state_of w)
  pub tables : (h : LedgerModel) → slice_get w.ledgers.items 0 ≡ Some h → AllAtTable h.table w.ledgers.items
