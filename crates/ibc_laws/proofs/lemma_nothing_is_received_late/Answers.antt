use Rattle.ibc_laws.proofs.ends.ReceivedInTime.{lemma_received_in_time}
use Rattle.ibc_laws.proofs.lemma_nothing_is_received_late.Goals as goal

pub returns : goal.returns
returns c = lemma_received_in_time
