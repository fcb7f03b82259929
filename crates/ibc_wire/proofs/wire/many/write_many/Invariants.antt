use Rattle.std.proofs.Common.{take}
use Rattle.ibc_wire.proofs.ValueSequences.{SoFar}
use Rattle.ibc_wire.proofs.wire.many.write_many.Given as goal

abbrev pub invariant-loop-value : goal.invariant-loop-value
invariant-loop-value g l = SoFar g.T.Wire.fields (take l.value-index l.values) l.initial.out.items l.out.items
