use Rattle.ibc_laws.proofs.tokens.WhoIsPaid.{lemma_each_balance}
use Rattle.ibc_laws.proofs.lemma_a_balance_is_its_history.Goals as goal

pub returns : goal.returns
returns c = lemma_each_balance
