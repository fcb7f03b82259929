use Rattle.ibc_laws.proofs.tokens.NeverShort.{never_short}
use Rattle.ibc_laws.proofs.lemma_no_escrow_is_short.Goals as goal

pub returns : goal.returns
returns c = never_short
