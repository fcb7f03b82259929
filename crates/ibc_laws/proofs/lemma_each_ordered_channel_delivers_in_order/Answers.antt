use Rattle.ibc_laws.proofs.lemma_each_ordered_channel_delivers_in_order.Goals as goal
use Rattle.ibc_laws.proofs.packets.ThirdLaw.{in_order}

pub returns : goal.returns
returns c = in_order
