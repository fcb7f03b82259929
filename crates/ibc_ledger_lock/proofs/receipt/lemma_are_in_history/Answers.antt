use Rattle.ibc_ledger_lock.proofs.Places.{are_in_history}
use Rattle.ibc_ledger_lock.proofs.receipt.lemma_are_in_history.Goals as goal

pub returns : goal.returns
returns c = are_in_history
