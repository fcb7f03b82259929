use Rattle.ibc_refinement.proofs.StampsMerged.{stamps_merge}
use Rattle.ibc_refinement.proofs.stamps.lemma_stamps_merge.Goals as goal

pub returns : goal.returns
returns c = stamps_merge
