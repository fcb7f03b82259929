use Rattle.ibc_refinement.proofs.StampsMerged.{stamped_is_run}
use Rattle.ibc_refinement.proofs.stamps.lemma_stamped_is_run.Goals as goal

pub returns : goal.returns
returns c = stamped_is_run
