use Rattle.std.proofs.Common.{◌+◌, ◌≤◌, length}
use Rattle.std.specs.Vec.Iter.{into_iter_items}
use Rattle.ibc_relayer.proofs.turns.submit_each.Given as goal

abbrev pub invariant-loop-message : goal.invariant-loop-message
invariant-loop-message g l = l.accepted + length (into_iter_items l.message-iterator) ≤ length l.fn.messages.items
