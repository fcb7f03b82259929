use Rattle.ibc_laws.proofs.tokens.NeverPoor.{never_poor}
use Rattle.ibc_laws.proofs.lemma_no_refund_is_refused.Goals as goal

pub returns : goal.returns
returns c = never_poor
