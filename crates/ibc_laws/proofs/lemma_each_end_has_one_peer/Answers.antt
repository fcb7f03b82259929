use Rattle.ibc_laws.proofs.lemma_each_end_has_one_peer.Goals as goal
use Rattle.ibc_laws.proofs.peers.FirstLaw.{one_peer}

pub returns : goal.returns
returns c = one_peer
