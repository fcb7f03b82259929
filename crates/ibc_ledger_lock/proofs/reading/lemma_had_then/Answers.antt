use Rattle.ibc_ledger_lock.proofs.Noting.{had_then}
use Rattle.ibc_ledger_lock.proofs.reading.lemma_had_then.Goals as goal

pub returns : goal.returns
returns c = had_then
