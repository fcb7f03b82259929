use Rattle.std.proofs.Common.{◌≡◌, ◌-◌}
use Rattle.ibc_wire.specs.Fronts.{many_at_front}
use Rattle.ibc_wire.proofs.ValueSequences.{with_front}
use Rattle.ibc_wire.proofs.wire.many.read_many.Given as goal

abbrev pub invariant-loop : goal.invariant-loop
invariant-loop g l = with_front l.values.items (many_at_front g.T.Wire.front (l.count - l.counter) l.rest) ≡ many_at_front g.T.Wire.front l.count l.bytes
