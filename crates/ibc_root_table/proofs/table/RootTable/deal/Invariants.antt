use Rattle.std.proofs.Common.{◌≡◌, ℕ, ◌<◌, ◌≤◌, ◌+◌, length, slice_get, Some, None, []}
use Rattle.ibc_root_table.specs.Rule.{new_seat}
use Rattle.ibc_root_table.specs.Passes.{unused_pass}
use Rattle.ibc_root_table.specs.TableFields.{IsPlaceOf}
use Rattle.ibc_root_table.proofs.table.RootTable.deal.Given as goal

abbrev pub invariant-loop-chain : goal.invariant-loop-chain
invariant-loop-chain l = record {
  place : l.place.table_id ≡ l.self.id;
  view : l.place.me ≡ (new_seat l.self.shape l.chain l.self.shape.chains, []);
  total : length l.passes.items ≡ l.chain;
  own : (k : ℕ) → k < l.chain → slice_get l.passes.items k ≡ Some (unused_pass l.self (Some k));
}

abbrev pub invariant-readers : goal.invariant-readers
invariant-readers l = record {
  place : IsPlaceOf l.self l.place;
  view : l.place.me.0.seen ≡ [];
  total : length l.passes.items ≡ l.self.shape.chains + l.counter;
  own : (k : ℕ) → k < l.self.shape.chains → slice_get l.passes.items k ≡ Some (unused_pass l.self (Some k));
  others : (k : ℕ) → l.self.shape.chains ≤ k → k < l.self.shape.chains + l.counter → slice_get l.passes.items k ≡ Some (unused_pass l.self None);
}
