use Rattle.ibc_merkle.proofs.Clashes.{accepted_is_written}
use Rattle.ibc_merkle.proofs.laws.lemma_accepted_is_written.Goals as goal

pub returns : goal.returns
returns c = accepted_is_written
