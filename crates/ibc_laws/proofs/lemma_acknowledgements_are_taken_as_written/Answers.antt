use Rattle.ibc_laws.proofs.packets.TakenAsWritten.{lemma_taken_as_written}
use Rattle.ibc_laws.proofs.lemma_acknowledgements_are_taken_as_written.Goals as goal

pub returns : goal.returns
returns c = lemma_taken_as_written
