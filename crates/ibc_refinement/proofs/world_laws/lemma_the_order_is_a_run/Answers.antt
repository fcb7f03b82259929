use Rattle.ibc_refinement.proofs.world.Together.{order_is_run}
use Rattle.ibc_refinement.proofs.world_laws.lemma_the_order_is_a_run.Goals as goal

pub returns : goal.returns
returns c = order_is_run
