use Rattle.std.proofs.Common.{◌≡◌, ◌≤◌, ◌+◌, length}
use Rattle.std.specs.Vec.{vec_len, vec_capacity}
use Rattle.std.specs.Vec.Iter.{into_iter_items, into_iter_len}
use Rattle.ibc_world_core.proofs.EventSequences.{HasRun}
use Rattle.ibc_world_core.proofs.world.World.run.Given as goal

abbrev pub invariant-loop-event : goal.invariant-loop-event
invariant-loop-event l = record {
  so_far : HasRun l.fn.self l.fn.events.items l.yielded (into_iter_items l.event-iterator) l.replies.items l.self;
  left : into_iter_len l.event-iterator ≡ length (into_iter_items l.event-iterator);
  room : vec_len l.replies + length (into_iter_items l.event-iterator) ≤ vec_capacity l.replies;
}
