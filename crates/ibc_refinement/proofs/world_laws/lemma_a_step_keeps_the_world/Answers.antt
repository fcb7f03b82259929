use Rattle.ibc_refinement.proofs.world.Runs.{step_is_kept}
use Rattle.ibc_refinement.proofs.world_laws.lemma_a_step_keeps_the_world.Goals as goal

pub returns : goal.returns
returns c = step_is_kept
