-- The script is the one that was run, or the one on which relayers raced.
use Rattle.std.proofs.Common.{◌≡◌, ℕ, Option, IfOk, IfSome, subst}
use Rattle.ibc_sim.specs.declared.failed_script.FailedScript.{FailedScript}
use Rattle.ibc_sim.proofs.simulation.Simulation.race_next.Goals as goal

pub returns-then-is_some-clause-seed : goal.returns-then-is_some-clause-seed
returns-then-is_some-clause-seed g c =
    subst (λ (seed : ℕ). IfSome c.failed.result (λ (script : FailedScript). script.seed ≡ seed)) c.in_ok-seed.ensures.seed c.failed.ensures.seed

pub returns-in-Ok-clause-seed : goal.returns-in-Ok-clause-seed
returns-in-Ok-clause-seed g c =
    subst (λ (seed : ℕ). IfOk c.raced.result (λ (failed : Option FailedScript). IfSome failed (λ (script : FailedScript). script.seed ≡ seed))) c.in_ok-seed.ensures.seed c.raced.ensures.seed
