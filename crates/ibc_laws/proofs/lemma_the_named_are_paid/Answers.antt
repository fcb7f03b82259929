use Rattle.ibc_laws.proofs.tokens.WhoIsPaid.{lemma_who_is_paid}
use Rattle.ibc_laws.proofs.lemma_the_named_are_paid.Goals as goal

pub returns : goal.returns
returns c = lemma_who_is_paid
