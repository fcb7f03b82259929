use Rattle.ibc_laws.proofs.tokens.NeverShort.{lemma_was_never_short}
use Rattle.ibc_laws.proofs.lemma_no_escrow_was_short.Goals as goal

pub returns : goal.returns
returns c = lemma_was_never_short
