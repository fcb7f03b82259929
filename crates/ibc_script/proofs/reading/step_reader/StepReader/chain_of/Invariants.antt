use Rattle.std.proofs.Common.{◌≡◌, ◌<◌, ℕ, Some, slice_get}
use Rattle.ibc_script.proofs.reading.step_reader.StepReader.chain_of.Given as goal

-- no chain before this one has the name
abbrev pub invariant-loop-place : goal.invariant-loop-place
invariant-loop-place l = (n : ℕ) → n < l.place → slice_get l.self.names.now n ≡ Some l.name → ⊥
