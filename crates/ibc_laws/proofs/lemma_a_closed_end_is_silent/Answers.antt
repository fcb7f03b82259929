use Rattle.ibc_laws.proofs.ends.ClosedIsSilent.{lemma_closed_is_silent}
use Rattle.ibc_laws.proofs.lemma_a_closed_end_is_silent.Goals as goal

pub returns : goal.returns
returns c = lemma_closed_is_silent
