use Rattle.ibc_refinement.proofs.RunOn.{going_on_is_run}
use Rattle.ibc_refinement.proofs.refinement.lemma_going_on_is_run.Goals as goal

pub returns : goal.returns
returns c = going_on_is_run
