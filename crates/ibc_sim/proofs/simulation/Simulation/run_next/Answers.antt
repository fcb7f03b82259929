-- The script is the one that was run.
use Rattle.std.proofs.Common.{◌≡◌, ℕ, Bool, IfSome, subst}
use Rattle.ibc_sim.specs.declared.failed_script.FailedScript.{FailedScript}
use Rattle.ibc_sim.proofs.simulation.Simulation.run_next.Goals as goal

pub returns-clause-seed : goal.returns-clause-seed
returns-clause-seed c =
    subst (λ (seed : ℕ). IfSome c.failed.result (λ (script : FailedScript). script.seed ≡ seed)) c.in_ok-seed.ensures.seed c.failed.ensures.seed

pub returns-clause-raced : goal.returns-clause-raced
returns-clause-raced c =
    subst (λ (raced : Bool). IfSome c.failed.result (λ (script : FailedScript). script.is_raced ≡ raced)) c.in_ok-seed.ensures.raced c.failed.ensures.raced
