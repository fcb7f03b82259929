-- What an end of a connection, and of a channel, knows of its peer; it holds on where the worlds go on.
use Rattle.std.proofs.Common.{◌≡◌, ℕ, ◌≤◌, ap, sym, ◌∙◌, subst, Some, ◌⊎◌, inl, inr}
use Rattle.ibc_ids.specs.Texts.{Text}
use Rattle.ibc_wire.specs.declared.records.ConnectionState.TheVariants as conn
use Rattle.ibc_wire.specs.declared.records.ChannelState.TheVariants as chan
use Rattle.ibc_wire.specs.declared.records.ConnectionEnd.{ConnectionEnd}
use Rattle.ibc_machine.specs.chain.Records.{Core, Client, Channel, client_at, connection_at, channel_at}
use Rattle.ibc_machine.specs.chain.Machine.{World}
use Rattle.ibc_laws.proofs.basics.ListPlaces.{some_is}
use Rattle.ibc_laws.proofs.steps.CoreSteps.{rank}
use Rattle.ibc_laws.proofs.steps.Growth.{ChannelGrows, Grows}
use Rattle.ibc_laws.proofs.steps.EndSteps.{not_init}
use Rattle.ibc_laws.proofs.steps.WorldGrowth.{At, At-grows, WorldGrows}

-- ---- connections

-- the core has the client, of the chain
abbrev pub ClientOf : ℕ → Text → Core → Type 0
ClientOf chain client core = (c : Client) × (client_at core client ≡ Some c) × (c.state.chain ≡ chain)

-- the core has the end p of a connection, over the client, which names the end k
abbrev pub ConnectionTo : Text → Text → Text → Core → Type 0
ConnectionTo k client p core = (d : ConnectionEnd) × (connection_at core p ≡ Some d) × (d.client ≡ client)
    × (d.peer_connection ≡ Some k)

-- of the end k of a connection on chain x: its client is there; where it has a peer, the tracked chain has the
-- client that it names, which tracks x; where it is OPEN, its peer names it
pub record ConnectionPeer (w : World) (x : ℕ) (core : Core) (k : Text) (c : ConnectionEnd) : Type 0 where
  pub tracked : Client
  pub there : client_at core c.client ≡ Some tracked
  pub client : (p : Text) → c.peer_connection ≡ Some p → At w tracked.state.chain (ClientOf x c.peer_client)
  pub back : c.state ≡ conn.Open → (p : Text) → c.peer_connection ≡ Some p
      → At w tracked.state.chain (ConnectionTo k c.peer_client p)

ClientOf-grows : (x : ℕ) (client : Text) (r s : Core) → Grows r s → ClientOf x client r → ClientOf x client s
ClientOf-grows x client r s grows h = let new = grows.clients client h.0 h.1 in (new.0, new.1, new.2 ∙ h.2)

ConnectionTo-grows : (k client p : Text) (r s : Core) → Grows r s → ConnectionTo k client p r → ConnectionTo k client p s
ConnectionTo-grows k client p r s grows h =
    let new = grows.connections p h.0 h.1 in
    (new.0, new.1, new.2.client ∙ h.2, new.2.named k h.3)

pub ConnectionPeer-grows : {w v : World} (x : ℕ) {r s : Core} (k : Text) (c : ConnectionEnd) → WorldGrows w v → Grows r s
    → ConnectionPeer w x r k c → ConnectionPeer v x s k c
ConnectionPeer-grows {w} {v} x {r} {s} k c grows own h =
    let new = own.clients c.client h.tracked h.there in
    record {
      tracked = new.0;
      there = new.1;
      client = λ p e. subst (λ y. At v y (ClientOf x c.peer_client)) (sym new.2)
          (At-grows grows (ClientOf-grows x c.peer_client) (h.client p e));
      back = λ o p e. subst (λ y. At v y (ConnectionTo k c.peer_client p)) (sym new.2)
          (At-grows grows (ConnectionTo-grows k c.peer_client p) (h.back o p e));
    }

-- ---- channels

-- the core has the end p of a channel that names the end (port, id), over a connection, and is of its kind
abbrev pub ChannelTo : Text → Text → Channel → Text → Text → Core → Type 0
ChannelTo port id m p over core = (n : Channel) × (channel_at core m.end.peer_port p ≡ Some n) × (n.end.peer_port ≡ port)
    × (n.end.peer_channel ≡ Some id) × (n.end.connection ≡ over) × (n.end.order ≡ m.end.order) × (n.end.version ≡ m.end.version)

-- of the end (port, id) of a channel: its connection is there, OPEN unless the end is INIT; where the end is
-- OPEN or CLOSED, its peer names it, over the peer's end of the connection
pub record ChannelPeer (w : World) (core : Core) (port id : Text) (m : Channel) : Type 0 where
  pub connection : ConnectionEnd
  pub there : connection_at core m.end.connection ≡ Some connection
  pub over_open : (m.end.state ≡ chan.Init → ⊥) → connection.state ≡ conn.Open
  pub back : 1 ≤ rank m.end.state → (p over : Text) → m.end.peer_channel ≡ Some p → connection.peer_connection ≡ Some over
      → (tracked : Client) → client_at core connection.client ≡ Some tracked → At w tracked.state.chain (ChannelTo port id m p over)

ChannelTo-grows : (port id : Text) (m n : Channel) (p over : Text) → ChannelGrows m n → (r s : Core) → Grows r s
    → ChannelTo port id m p over r → ChannelTo port id n p over s
ChannelTo-grows port id m n p over g r s grows h =
    let new = grows.channels m.end.peer_port p h.0 h.1 in (
      new.0,
      ap (λ i. channel_at s i p) g.end.peer_port ∙ new.1,
      new.2.end.peer_port ∙ h.2,
      new.2.end.named id h.3,
      new.2.end.connection ∙ h.4,
      new.2.end.order ∙ h.5 ∙ sym g.end.order,
      new.2.end.version ∙ h.6 ∙ sym g.end.version,
    )

-- an established end, with the name of its peer
pub record Settled (m : Channel) : Type 0 where
  pub established : 1 ≤ rank m.end.state
  pub peer : Text
  pub named : m.end.peer_channel ≡ Some peer

-- each connection has its client; one that is OPEN names its peer
pub record Connected (core : Core) : Type 0 where
  pub clients : (k : Text) (c : ConnectionEnd) → connection_at core k ≡ Some c
      → (t : Client) × (client_at core c.client ≡ Some t)
  pub named : (k : Text) (c : ConnectionEnd) → connection_at core k ≡ Some c → c.state ≡ conn.Open
      → (p : Text) × (c.peer_connection ≡ Some p)

-- the end may go on too: if it is established afterwards, it was before, and what it had it keeps
pub ChannelPeer-grows : {w v : World} {r s : Core} (port id : Text) (m n : Channel) → WorldGrows w v → Grows r s
    → Connected r → ChannelGrows m n → ((m.end.state ≡ chan.Init → ⊥) ⊎ (n.end.state ≡ m.end.state))
    → (1 ≤ rank n.end.state → Settled m) → ChannelPeer w r port id m → ChannelPeer v s port id n
ChannelPeer-grows {w} {v} {r} {s} port id m n grows own connected g was settled h =
    let new = own.connections m.end.connection h.connection h.there in
    record {
      connection = new.0;
      there = ap (λ i. connection_at s i) g.end.connection ∙ new.1;
      over_open = λ not_init. new.2.open_stays (elim was [
        | inl f ↦ h.over_open f
        | inr e ↦ h.over_open (λ i. not_init (e ∙ i))
      ]);
      back = λ ranks p over named peer tracked there.
          let before = settled ranks in
          let old = connected.clients m.end.connection h.connection h.there in
          let now = own.clients h.connection.client old.0 old.1 in
          let open_ : h.connection.state ≡ conn.Open = h.over_open (not_init m.end.state before.established) in
          let over_was = connected.named m.end.connection h.connection h.there open_ in
          let same_over : over_was.0 ≡ over = some_is (new.2.named over_was.0 over_was.1) peer in
          let same_peer : before.peer ≡ p = some_is (g.end.named before.peer before.named) named in
          let same_client : now.0 ≡ tracked = some_is now.1 (subst (λ i. client_at s i ≡ Some tracked) new.2.client there) in
          let same_chain : old.0.state.chain ≡ tracked.state.chain = sym now.2 ∙ ap (λ (t : Client). t.state.chain) same_client in
          let stood = h.back before.established before.peer over_was.0 before.named over_was.1 old.0 old.1 in
          let there_now = At-grows grows (ChannelTo-grows port id m n before.peer over_was.0 g) stood in
          subst (λ y. At v y (ChannelTo port id n p over)) same_chain
          (subst (λ q. At v old.0.state.chain (ChannelTo port id n q over)) same_peer
          (subst (λ q. At v old.0.state.chain (ChannelTo port id n before.peer q)) same_over there_now));
    }
