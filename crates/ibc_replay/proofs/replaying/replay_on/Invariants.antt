use Rattle.std.proofs.Common.{◌≡◌, ◌+◌, ◌++◌, length}
use Rattle.std.specs.Vec.Iter.{into_iter_items, into_iter_len}
use Rattle.ibc_replay.specs.Replays.{GoesOnAsStored}
use Rattle.ibc_replay.proofs.replaying.replay_on.Given as goal

abbrev pub invariant-loop-stored : goal.invariant-loop-stored
invariant-loop-stored l = record {
  so_far : GoesOnAsStored l.fn.world l.yielded l.world;
  whole : l.yielded ++ into_iter_items l.stored-iterator ≡ l.fn.entries.items;
  left : into_iter_len l.stored-iterator ≡ length (into_iter_items l.stored-iterator);
  place : l.place ≡ l.fn.first + length l.yielded;
}
