use Rattle.std.proofs.Common.{◌≡◌, drop}
use Rattle.ibc_merkle.specs.Proofs as proofs
use Rattle.ibc_ics23_proof.proofs.operations.climb.Given as goal

abbrev pub invariant-loop-operation : goal.invariant-loop-operation
invariant-loop-operation g l = proofs.climb l.child (drop l.operation-index l.operations) ≡ proofs.climb l.fn.leaf l.operations
