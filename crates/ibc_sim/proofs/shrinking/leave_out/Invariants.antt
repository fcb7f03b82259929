-- No step was added so far.
use Rattle.ibc_sim.specs.Shrinking.{KeepsNoMore}
use Rattle.ibc_sim.proofs.shrinking.leave_out.Given as goal

abbrev pub invariant-loop-place : goal.invariant-loop-place
invariant-loop-place l = KeepsNoMore l.initial.kept l.kept
