use Rattle.ibc_refinement.proofs.world.Meetings.{nothing_done_is_step}
use Rattle.ibc_refinement.proofs.world_laws.lemma_nothing_done_is_a_step.Goals as goal

pub returns : goal.returns
returns c = nothing_done_is_step
