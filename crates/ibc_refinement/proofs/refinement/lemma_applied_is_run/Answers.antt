use Rattle.ibc_refinement.proofs.Applied.{applied_is_run}
use Rattle.ibc_refinement.proofs.refinement.lemma_applied_is_run.Goals as goal

pub returns : goal.returns
returns c = applied_is_run
