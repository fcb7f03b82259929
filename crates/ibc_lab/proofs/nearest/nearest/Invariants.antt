-- What was found is one of the known words.
use Rattle.std.proofs.Common.{◌<◌, length}
use Rattle.std.specs.Prelude.{IfSome}
use Rattle.ibc_lab.proofs.nearest.nearest.Given as goal

abbrev pub invariant-loop-index : goal.invariant-loop-index
invariant-loop-index l = IfSome l.found (λ index. index < length l.known)
