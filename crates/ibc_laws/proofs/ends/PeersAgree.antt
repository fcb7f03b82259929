-- Peers agree on the channel's order and version: of two peers one is OPEN or CLOSED, and it has a peer of its own order
-- and version.
use Rattle.std.proofs.Common.{◌≡◌, true, ap, sym, ◌∙◌, inl, inr}
use Rattle.ibc_machine.specs.chain.Records.{Channel}
use Rattle.ibc_machine.specs.ics04.Channels.{is_established}
use Rattle.ibc_machine.specs.chain.Machine.{World}
use Rattle.ibc_machine.specs.promises.Histories.{End}
use Rattle.ibc_laws.specs.Ends.{Agree, PeersAgree}
use Rattle.ibc_laws.proofs.basics.PassedTests.{either}
use Rattle.ibc_laws.proofs.steps.PacketsPassed.{established_rank}
use Rattle.ibc_laws.proofs.peers.Invariant.{Inv, inv_of_past}
use Rattle.ibc_laws.proofs.peers.Peers.{Peers, stands, stands_same, stands_alike, true_peers, one_peer_only, peers_flip}
use Rattle.ibc_laws.proofs.peers.FirstLaw.{peer_of, peers_of}

lemma_of_established : (w : World) → Inv w → (e f : End) (p : Peers w e f) → is_established p.mine ≡ true → Agree p.mine p.theirs
lemma_of_established w inv e f p established =
    let peer = peer_of w inv e p.mine p.here (established_rank p.mine established) in
    let same : peer.other ≡ f = one_peer_only w e peer.other f (peers_of w e p.mine p.here peer) p in
    let alike = stands_alike peer.other f peer.theirs p.theirs same peer.there p.there in
    record {
      order = sym peer.order ∙ ap (λ (c : Channel). c.end.order) alike.1;
      version = sym peer.version ∙ ap (λ (c : Channel). c.end.version) alike.1;
    }

lemma_agree : (w : World) → Inv w → (e f : End) (p : Peers w e f) → Agree p.mine p.theirs
lemma_agree w inv e f p = elim (either (is_established p.mine) (is_established p.theirs) p.established) [
  | inl ours ↦ lemma_of_established w inv e f p ours
  | inr theirs ↦ (let back = lemma_of_established w inv f e (peers_flip e f p) theirs in
      record { order = sym back.order; version = sym back.version })
]

pub lemma_peers_agree : PeersAgree
lemma_peers_agree genesis happened world e f past are_peers mine theirs here there =
    let p = true_peers world e f are_peers in
    let agree = lemma_agree world (inv_of_past genesis happened world past) e f p in
    let ours = stands_same e p.mine mine p.here (stands world e mine here) in
    let others = stands_same f p.theirs theirs p.there (stands world f theirs there) in
    record {
      order = ap (λ (c : Channel). c.end.order) (sym ours) ∙ agree.order ∙ ap (λ (c : Channel). c.end.order) others;
      version = ap (λ (c : Channel). c.end.version) (sym ours) ∙ agree.version ∙ ap (λ (c : Channel). c.end.version) others;
    }
