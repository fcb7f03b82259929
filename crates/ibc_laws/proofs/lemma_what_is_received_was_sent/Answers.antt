use Rattle.ibc_laws.proofs.packets.ReceivedWasSent.{lemma_received_was_sent}
use Rattle.ibc_laws.proofs.lemma_what_is_received_was_sent.Goals as goal

pub returns : goal.returns
returns c = lemma_received_was_sent
