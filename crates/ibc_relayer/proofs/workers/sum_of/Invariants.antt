use Rattle.std.proofs.Common.{◌≡◌, IfErr}
use Rattle.ibc_ids.specs.declared.refusal.Refusal.TheVariants.{NoMemory}
use Rattle.ibc_relayer.proofs.workers.sum_of.Given as goal

abbrev pub invariant-loop-handle : goal.invariant-loop-handle
invariant-loop-handle g l = IfErr l.sum (λ refusal. refusal ≡ NoMemory)
