use Rattle.ibc_laws.proofs.ends.PeersAgree.{lemma_peers_agree}
use Rattle.ibc_laws.proofs.lemma_peers_agree.Goals as goal

pub returns : goal.returns
returns c = lemma_peers_agree
