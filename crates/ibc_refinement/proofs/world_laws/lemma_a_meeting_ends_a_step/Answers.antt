use Rattle.ibc_refinement.proofs.world.Meetings.{meeting_ends_step}
use Rattle.ibc_refinement.proofs.world_laws.lemma_a_meeting_ends_a_step.Goals as goal

pub returns : goal.returns
returns c = meeting_ends_step
