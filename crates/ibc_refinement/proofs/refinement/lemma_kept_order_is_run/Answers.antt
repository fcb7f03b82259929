use Rattle.ibc_refinement.proofs.Refined.{kept_order_is_run}
use Rattle.ibc_refinement.proofs.refinement.lemma_kept_order_is_run.Goals as goal

pub returns : goal.returns
returns c = kept_order_is_run
