use Rattle.ibc_laws.proofs.ends.AcknowledgedInOrder.{lemma_acknowledged_in_order}
use Rattle.ibc_laws.proofs.lemma_acknowledgements_are_taken_in_order.Goals as goal

pub returns : goal.returns
returns c = lemma_acknowledged_in_order
