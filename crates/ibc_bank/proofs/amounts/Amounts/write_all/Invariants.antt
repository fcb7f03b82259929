-- The amounts so far are written, and the others have room.
use Rattle.std.proofs.Common.{◌≡◌, ◌≤◌, length}
use Rattle.std.specs.Vec.Iter.{into_iter_items}
use Rattle.ibc_bank.specs.Amounts.{with_amounts}
use Rattle.ibc_bank.proofs.amounts.Amounts.write_all.Given as goal

abbrev pub invariant-loop-key : goal.invariant-loop-key
invariant-loop-key g l = record {
  written : l.self.pairs ≡ with_amounts g.K.Ord.cmp l.yielded l.fn.self.pairs;
  room : length l.fn.changes.items ≤ l.fn.self.room → length (into_iter_items l.key-iterator) ≤ l.self.room;
}
