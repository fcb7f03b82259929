use Rattle.ibc_laws.proofs.ends.TakenOfPeer.{lemma_taken_of_peer}
use Rattle.ibc_laws.proofs.lemma_no_end_takes_without_a_peer.Goals as goal

pub returns : goal.returns
returns c = lemma_taken_of_peer
