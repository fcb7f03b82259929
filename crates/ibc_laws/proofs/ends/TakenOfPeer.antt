-- An end without a peer takes nothing: what it receives was shown of a chain by its client, and an end that settles is OPEN
-- or CLOSED.
use Rattle.std.proofs.Common.{List}
use Rattle.ibc_wire.specs.declared.packet.Packet.{Packet}
use Rattle.ibc_machine.specs.chain.Machine.{World}
use Rattle.ibc_machine.specs.promises.Histories.{Happened, End}
use Rattle.ibc_laws.specs.Ends.{HasAPeer, TakenOfPeer}
use Rattle.ibc_laws.proofs.peers.Invariant.{Inv}
use Rattle.ibc_laws.proofs.peers.Peers.{peers_true}
use Rattle.ibc_laws.proofs.peers.FirstLaw.{peer_of, peers_of}
use Rattle.ibc_laws.proofs.packets.ReceivedWasSent.{lemma_all_sent}
use Rattle.ibc_laws.proofs.ends.SettledWasSent.{SentSo, lemma_all_settled}

lemma_has_peer : (happened : List Happened) (world : World) → Inv world → (e : End) (p : Packet) → SentSo happened world e p → HasAPeer world e
lemma_has_peer happened world inv e p x =
    let peer = peer_of world inv e x.mine x.here x.opened in
    (peer.other, peers_true world e peer.other (peers_of world e x.mine x.here peer))

pub lemma_taken_of_peer : TakenOfPeer
lemma_taken_of_peer genesis happened world past =
    let all = lemma_all_settled genesis happened world past in
    record {
      received = λ e p has.
          let x = (lemma_all_sent genesis happened world past).each e p has in
          (x.other, peers_true world e x.other x.peers);
      acknowledged = λ e p has. lemma_has_peer happened world all.ordering.inv e p (all.acknowledged e p has);
      timed_out = λ e p has. lemma_has_peer happened world all.ordering.inv e p (all.timed_out e p has);
    }
