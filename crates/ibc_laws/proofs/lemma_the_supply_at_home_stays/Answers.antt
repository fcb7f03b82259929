use Rattle.ibc_laws.proofs.tokens.Supplies.{lemma_supply_stays}
use Rattle.ibc_laws.proofs.lemma_the_supply_at_home_stays.Goals as goal

pub returns : goal.returns
returns c = lemma_supply_stays
