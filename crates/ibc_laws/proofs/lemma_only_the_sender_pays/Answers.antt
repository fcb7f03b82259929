use Rattle.ibc_laws.proofs.tokens.WhoIsPaid.{lemma_who_pays}
use Rattle.ibc_laws.proofs.lemma_only_the_sender_pays.Goals as goal

pub returns : goal.returns
returns c = lemma_who_pays
