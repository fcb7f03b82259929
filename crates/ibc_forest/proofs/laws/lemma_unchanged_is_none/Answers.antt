use Rattle.ibc_forest.proofs.NewPairs.{new_unchanged}
use Rattle.ibc_forest.proofs.laws.lemma_unchanged_is_none.Goals as goal

pub returns : goal.returns
returns c = new_unchanged
