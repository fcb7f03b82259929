use Rattle.ibc_refinement.proofs.Growing.{ledgers_see_more}
use Rattle.ibc_refinement.proofs.ledger_laws.lemma_a_ledger_sees_more.Goals as goal

pub returns : goal.returns
returns c = ledgers_see_more
