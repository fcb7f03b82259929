use Rattle.std.proofs.Common.{◌≡◌, length}
use Rattle.std.specs.Vec.Iter.{into_iter_items, into_iter_len}
use Rattle.ibc_machine.specs.chain.Genesis.{genesis_state}
use Rattle.ibc_world_core.proofs.Beginnings.{BegunSoFar}
use Rattle.ibc_world_core.proofs.world.begin.Given as goal

abbrev pub invariant-loop-pass : goal.invariant-loop-pass
invariant-loop-pass l = record {
  so_far : BegunSoFar (genesis_state l.genesis) l.table.value (into_iter_items l.pass-iterator) l.ledgers.items;
  left : into_iter_len l.pass-iterator ≡ length (into_iter_items l.pass-iterator);
}
