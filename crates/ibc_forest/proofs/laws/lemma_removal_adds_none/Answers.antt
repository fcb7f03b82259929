use Rattle.ibc_forest.proofs.NewPairs.{new_without}
use Rattle.ibc_forest.proofs.laws.lemma_removal_adds_none.Goals as goal

pub returns : goal.returns
returns c = new_without
