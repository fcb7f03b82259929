-- The ledgers so far are of the world, and have answered.
use Rattle.std.proofs.Common.{All}
use Rattle.ibc_ledger_lock.specs.ReceiptsAndReadings.{HasAnswered, IsOfWorld}
use Rattle.ibc_sim.proofs.racing.ledgers_of.Given as goal

abbrev pub invariant-loop-chain : goal.invariant-loop-chain
invariant-loop-chain g l = record {
  world : All (IsOfWorld g.W.WorldBrand.table g.W.WorldBrand.genesis) l.ledgers.items;
  answered : All (HasAnswered l.fn.receipts) l.ledgers.items;
}
