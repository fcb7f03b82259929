use Rattle.ibc_laws.proofs.tokens.FourthLaw.{conserved}
use Rattle.ibc_laws.proofs.lemma_escrow_equals_vouchers_and_flight.Goals as goal

pub returns : goal.returns
returns c = conserved
