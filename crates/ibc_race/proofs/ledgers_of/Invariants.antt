use Rattle.std.proofs.Common.{◌≡◌, ◌++◌, length}
use Rattle.std.specs.Vec.Iter.{into_iter_items, into_iter_len}
use Rattle.ibc_race.specs.SharedWorlds.{AreGathered, numbers_of}
use Rattle.ibc_race.proofs.ledgers_of.Given as goal

abbrev pub invariant-loop-chain : goal.invariant-loop-chain
invariant-loop-chain g l = record {
  counted : into_iter_len l.chain-iterator ≡ length (into_iter_items l.chain-iterator);
  numbers : numbers_of l.ledgers.items ++ into_iter_items l.chain-iterator ≡ l.fn.chains.items;
  gathered : AreGathered g.W.WorldBrand.table g.W.WorldBrand.genesis l.fn.receipts l.fn.readings l.ledgers.items;
}
