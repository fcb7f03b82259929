use Rattle.ibc_wire.proofs.ProofReaders.{reads_what_is_spelled}
use Rattle.ibc_wire.proofs.laws.lemma_proofs_are_read_as_they_are_spelled.Goals as goal

pub returns : goal.returns
returns c = reads_what_is_spelled
