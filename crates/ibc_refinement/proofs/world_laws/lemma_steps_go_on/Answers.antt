use Rattle.ibc_refinement.proofs.world.Meetings.{steps_go_on}
use Rattle.ibc_refinement.proofs.world_laws.lemma_steps_go_on.Goals as goal

pub returns : goal.returns
returns c = steps_go_on
