use Rattle.ibc_merkle.proofs.Clashes.{written_is_accepted}
use Rattle.ibc_merkle.proofs.laws.lemma_written_is_accepted.Goals as goal

pub returns : goal.returns
returns c = written_is_accepted
