use Rattle.std.proofs.Common.{◌≡◌, length}
use Rattle.std.specs.List.{All}
use Rattle.std.specs.Vec.Iter.{into_iter_items, into_iter_len}
use Rattle.ibc_race.specs.SharedWorlds.{HasItsBook}
use Rattle.ibc_thread_tests.proofs.handing.come_back.Given as goal

abbrev pub invariant-loop-ledger : goal.invariant-loop-ledger
invariant-loop-ledger g l = record {
  left : All (HasItsBook g.W.WorldBrand.table g.W.WorldBrand.genesis g.W.WorldBrand.book) (into_iter_items l.ledger-iterator);
  counted : into_iter_len l.ledger-iterator ≡ length (into_iter_items l.ledger-iterator);
}
