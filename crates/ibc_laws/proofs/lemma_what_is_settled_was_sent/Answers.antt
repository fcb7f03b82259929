use Rattle.ibc_laws.proofs.ends.SettledWasSent.{lemma_settled_was_sent}
use Rattle.ibc_laws.proofs.lemma_what_is_settled_was_sent.Goals as goal

pub returns : goal.returns
returns c = lemma_settled_was_sent
