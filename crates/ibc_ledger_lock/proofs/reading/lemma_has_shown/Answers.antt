use Rattle.ibc_ledger_lock.proofs.LastBlocks.{has_shown}
use Rattle.ibc_ledger_lock.proofs.reading.lemma_has_shown.Goals as goal

pub returns : goal.returns
returns c = has_shown
