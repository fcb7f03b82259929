use Rattle.ibc_laws.proofs.lemma_each_packet_is_handled_once.Goals as goal
use Rattle.ibc_laws.proofs.packets.SecondLaw.{exactly_once}

pub returns : goal.returns
returns c = exactly_once
