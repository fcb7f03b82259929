use Rattle.ibc_refinement.proofs.world.Leading.{all_meet_first}
use Rattle.ibc_refinement.proofs.world_laws.lemma_all_meet_the_first.Goals as goal

pub returns : goal.returns
returns c = all_meet_first
