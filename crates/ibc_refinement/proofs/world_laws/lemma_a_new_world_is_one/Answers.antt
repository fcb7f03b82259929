use Rattle.ibc_refinement.proofs.world.New.{new_is_world}
use Rattle.ibc_refinement.proofs.world_laws.lemma_a_new_world_is_one.Goals as goal

pub returns : goal.returns
returns c = new_is_world
