use Rattle.ibc_refinement.proofs.Growing.{ledgers_go_on}
use Rattle.ibc_refinement.proofs.ledger_laws.lemma_a_ledger_goes_on.Goals as goal

pub returns : goal.returns
returns c = ledgers_go_on
