-- Each end that is OPEN or CLOSED has exactly one peer, of its own order and version.
use Rattle.std.proofs.Common.{◌≡◌, ◌≤◌, true, refl, ap, sym, ◌∙◌, subst, Some, ◌||◌}
use Rattle.ibc_wire.specs.declared.records.ConnectionEnd.{ConnectionEnd}
use Rattle.ibc_machine.specs.chain.Records.{Core, MachineChain, Channel, client_at, connection_at}
use Rattle.ibc_machine.specs.ics04.Channels.{is_established}
use Rattle.ibc_machine.specs.chain.Machine.{World}
use Rattle.ibc_machine.specs.promises.Histories.{End}
use Rattle.ibc_machine.specs.promises.Laws.{OnePeer}
use Rattle.ibc_laws.proofs.basics.ListPlaces.{some_is}
use Rattle.ibc_laws.proofs.steps.CoreSteps.{rank}
use Rattle.ibc_laws.proofs.steps.EndSteps.{not_init}
use Rattle.ibc_laws.proofs.steps.PacketsPassed.{established_rank}
use Rattle.ibc_laws.proofs.peers.PeersKnown.{ClientOf, ConnectionTo}
use Rattle.ibc_laws.proofs.peers.Invariant.{Inv, inv_of_past}
use Rattle.ibc_laws.proofs.peers.Peers.{Stands, stands, Names, Peers, is_established_by, peers_true, true_peers, one_peer_only}

-- the peer of an end, of the end's order and version
pub record HasPeer (w : World) (e : End) (mine : Channel) (here : Stands w e mine) : Type 0 where
  pub other : End
  pub theirs : Channel
  pub there : Stands w other theirs
  pub names_them : Names here.chain.records.core mine other theirs
  pub names_us : Names there.chain.records.core theirs e mine
  pub established : (is_established mine || is_established theirs) ≡ true
  pub order : theirs.end.order ≡ mine.end.order
  pub version : theirs.end.version ≡ mine.end.version

abbrev pub peers_of : (w : World) (e : End) (mine : Channel) (here : Stands w e mine) (h : HasPeer w e mine here) → Peers w e h.other
peers_of w e mine here h = record {
  mine = mine;
  theirs = h.theirs;
  here = here;
  there = h.there;
  names_them = h.names_them;
  names_us = h.names_us;
  established = h.established;
}

pub peer_of : (w : World) → Inv w → (e : End) (m : Channel) (here : Stands w e m) → 1 ≤ rank m.end.state → HasPeer w e m here
peer_of w inv e m here ranks =
    let core : Core = here.chain.records.core in
    let shaped = (inv.shaped.each e.chain here.chain here.there).core in
    let peered = inv.peered e.chain here.chain here.there in
    let channel = peered.channels e.port e.channel m here.is in
    let k : ConnectionEnd = channel.connection in
    let connection = peered.connections m.end.connection k channel.there in
    let open_ = channel.over_open (not_init m.end.state ranks) in
    let peer = (shaped.channels e.port e.channel m here.is).peer.named (not_init m.end.state ranks) in
    let over = (shaped.connections m.end.connection k channel.there).named (λ i. absurd (cc (open_, i))) in
    let theirs = channel.back ranks peer.0 over.0 peer.1 over.1 connection.tracked connection.there in
    let client = connection.client over.0 over.1 in
    let back = connection.back open_ over.0 over.1 in
    let y : MachineChain = theirs.chain in
    let same_client : client.chain ≡ y = some_is client.there theirs.there in
    let same_back : back.chain ≡ y = some_is back.there theirs.there in
    let client_now = subst (λ (z : MachineChain). ClientOf e.chain k.peer_client z.records.core) same_client client.holds in
    let back_now = subst (λ (z : MachineChain). ConnectionTo m.end.connection k.peer_client over.0 z.records.core) same_back back.holds in
    let n : Channel = theirs.holds.0 in
    let f : End = record { chain = connection.tracked.state.chain; port = m.end.peer_port; channel = peer.0 } in
    record {
      other = f;
      theirs = n;
      there = record { chain = y; there = theirs.there; is = theirs.holds.1 };
      names_them = record {
        port = refl;
        channel = peer.1;
        connection = k;
        there = channel.there;
        client = connection.tracked;
        client_there = connection.there;
        tracks = refl;
        over = over.1 ∙ ap Some (sym theirs.holds.4);
      };
      names_us = record {
        port = sym theirs.holds.2;
        channel = theirs.holds.3;
        connection = back_now.0;
        there = ap (λ i. connection_at y.records.core i) theirs.holds.4 ∙ back_now.1;
        client = client_now.0;
        client_there = ap (λ i. client_at y.records.core i) back_now.2 ∙ client_now.1;
        tracks = client_now.2;
        over = back_now.3;
      };
      established = ap (λ b. b || is_established n) (is_established_by m ranks);
      order = theirs.holds.5;
      version = theirs.holds.6;
    }

pub one_peer : OnePeer
one_peer genesis happened w past =
    let inv = inv_of_past genesis happened w past in
    record {
      one = λ e mine is established.
          let here = stands w e mine is in
          let h = peer_of w inv e mine here (established_rank mine established) in
          (h.other, peers_true w e h.other (peers_of w e mine here h));
      no_two = λ e f g a b. one_peer_only w e f g (true_peers w e f a) (true_peers w e g b);
    }
