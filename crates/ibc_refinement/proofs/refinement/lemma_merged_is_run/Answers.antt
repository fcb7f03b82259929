use Rattle.ibc_refinement.proofs.Refined.{merged_is_run}
use Rattle.ibc_refinement.proofs.refinement.lemma_merged_is_run.Goals as goal

pub returns : goal.returns
returns c = merged_is_run
