use Rattle.ibc_forest.proofs.NewPairs.{new_with}
use Rattle.ibc_forest.proofs.laws.lemma_set_adds_one_at_most.Goals as goal

pub returns : goal.returns
returns c = new_with
