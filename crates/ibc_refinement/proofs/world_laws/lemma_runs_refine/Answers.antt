use Rattle.ibc_refinement.proofs.world.Runs.{steps_refine}
use Rattle.ibc_refinement.proofs.world_laws.lemma_runs_refine.Goals as goal

pub returns : goal.returns
returns c = steps_refine
