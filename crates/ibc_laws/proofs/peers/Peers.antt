-- Ends that stand, that name each other, and that are peers: as records of facts, which hold on where the
-- worlds go on.
use Rattle.std.proofs.Common.{◌≡◌, ◌≤◌, Bool, true, false, refl, ap, sym, ◌∙◌, subst, Option, Some, None, inl, inr, arith, slice_get, ◌&&◌, ◌||◌, ◌==◌, option_map, eqb-true}
use Rattle.std.specs.Option.{option_map_or, option_and_then}
use Rattle.ibc_ids.specs.Texts.{Text, same_text}
use Rattle.ibc_ids.proofs.Texts.{text_same, same_text_itself}
use Rattle.ibc_wire.specs.declared.records.ConnectionEnd.{ConnectionEnd}
use Rattle.ibc_wire.specs.declared.records.ChannelState.TheVariants as chan
use Rattle.ibc_wire.specs.declared.records.ChannelState.{ChannelState}
use Rattle.ibc_machine.specs.chain.Records.{Core, Records, MachineChain, Client, Channel, client_at, connection_at, channel_at}
use Rattle.ibc_machine.specs.ics24.Values.{same_optional, same_channel_state}
use Rattle.ibc_machine.specs.ics04.Channels.{is_established}
use Rattle.ibc_machine.specs.ics04.Packets.{has_peer}
use Rattle.ibc_machine.specs.chain.Machine.{World}
use Rattle.ibc_machine.specs.promises.Histories.{End}
use Rattle.ibc_machine.specs.promises.Peers.{end_at, found_at, is_connected_to, names, are_paired_if, are_peers}
use Rattle.ibc_machine.proofs.SameValues.{same_optional_is}
use Rattle.ibc_laws.proofs.basics.PassedTests.{or_left, or_right, both, either, and_true, number-self}
use Rattle.ibc_laws.proofs.basics.ListPlaces.{some_is}
use Rattle.ibc_laws.proofs.steps.CoreSteps.{rank}
use Rattle.ibc_laws.proofs.steps.Growth.{ChannelGrows, Grows}
use Rattle.ibc_laws.proofs.steps.PacketsPassed.{established_rank}
use Rattle.ibc_laws.proofs.steps.WorldGrowth.{ChainGrows, WorldGrows}

-- ---- what stands at an end

pub record Stands (w : World) (e : End) (m : Channel) : Type 0 where
  pub chain : MachineChain
  pub there : slice_get w e.chain ≡ Some chain
  pub is : channel_at chain.records.core e.port e.channel ≡ Some m

pub stands : (w : World) (e : End) (m : Channel) → end_at w e ≡ Some m → Stands w e m
stands w e m is = go (slice_get w e.chain) refl is
  where
    go : (o : Option MachineChain) → slice_get w e.chain ≡ o
        → option_and_then (λ (records : Records). channel_at records.core e.port e.channel) (option_map (λ (c : MachineChain). c.records) o) ≡ Some m → Stands w e m
    go (Some c) there is = record { chain = c; there = there; is = is }
    go None there is = absurd (cc is)

pub stands_at : (w : World) (e : End) (m : Channel) → Stands w e m → end_at w e ≡ Some m
stands_at w e m s =
    ap (λ (o : Option MachineChain). option_and_then (λ (records : Records). channel_at records.core e.port e.channel) (option_map (λ (c : MachineChain). c.records) o)) s.there
    ∙ s.is

found : (w : World) (e : End) (m : Channel) (s : Stands w e m) → found_at w e ≡ Some (s.chain.records.core, m)
found w e m s =
    ap (λ (o : Option MachineChain). option_and_then (λ (records : Records). option_map (λ (c : Channel). (records.core, c)) (channel_at records.core e.port e.channel)) (option_map (λ (c : MachineChain). c.records) o)) s.there
    ∙ ap (λ (o : Option Channel). option_map (λ (c : Channel). (s.chain.records.core, c)) o) s.is

found_stands : (w : World) (e : End) (x : Core × Channel) → found_at w e ≡ Some x → (s : Stands w e x.1) × (s.chain.records.core ≡ x.0)
found_stands w e x is = go (slice_get w e.chain) refl is
  where
    inner : (c : MachineChain) → slice_get w e.chain ≡ Some c → (o : Option Channel) → channel_at c.records.core e.port e.channel ≡ o
        → option_map (λ (m : Channel). (c.records.core, m)) o ≡ Some x → (s : Stands w e x.1) × (s.chain.records.core ≡ x.0)
    inner c there (Some m) at_ is =
        let same : (c.records.core, m) ≡ x = some_is refl is in
        (record { chain = c; there = there; is = at_ ∙ ap Some (ap (λ (y : Core × Channel). y.1) same) }, ap (λ (y : Core × Channel). y.0) same)
    inner c there None at_ is = absurd (cc is)

    go : (o : Option MachineChain) → slice_get w e.chain ≡ o
        → option_and_then (λ (records : Records). option_map (λ (c : Channel). (records.core, c)) (channel_at records.core e.port e.channel)) (option_map (λ (c : MachineChain). c.records) o) ≡ Some x
        → (s : Stands w e x.1) × (s.chain.records.core ≡ x.0)
    go (Some c) there is = inner c there (channel_at c.records.core e.port e.channel) refl is
    go None there is = absurd (cc is)

-- ---- one end names another

pub record Names (core : Core) (m : Channel) (f : End) (n : Channel) : Type 0 where
  pub port : f.port ≡ m.end.peer_port
  pub channel : m.end.peer_channel ≡ Some f.channel
  pub connection : ConnectionEnd
  pub there : connection_at core m.end.connection ≡ Some connection
  pub client : Client
  pub client_there : client_at core connection.client ≡ Some client
  pub tracks : client.state.chain ≡ f.chain
  pub over : connection.peer_connection ≡ Some n.end.connection

names_true : (core : Core) (m : Channel) (f : End) (n : Channel) → Names core m f n → names core m f n ≡ true
names_true core m f n h =
    and_true (and_true (subst (λ x. same_text f.port x ≡ true) h.port (same_text_itself f.port))
    (subst (λ (o : Option Text). same_optional o (Some f.channel) ≡ true) (sym h.channel) (same_text_itself f.channel)))
    (subst (λ (o : Option ConnectionEnd). option_map_or (λ c. is_connected_to core c f.chain n.end.connection) o false ≡ true) (sym h.there)
    (and_true (subst (λ (o : Option Client). option_map_or (λ (c : Client). c.state.chain == f.chain) o false ≡ true) (sym h.client_there)
    (subst (λ k. (h.client.state.chain == k) ≡ true) h.tracks (number-self h.client.state.chain)))
    (subst (λ (o : Option Text). same_optional o (Some n.end.connection) ≡ true) (sym h.over) (same_text_itself n.end.connection))))

pub true_names : (core : Core) (m : Channel) (f : End) (n : Channel) → names core m f n ≡ true → Names core m f n
true_names core m f n e =
    let one = both (has_peer m f.port f.channel) _ e in
    let peer = both (same_text f.port m.end.peer_port) (same_optional m.end.peer_channel (Some f.channel)) one.0 in
    over (connection_at core m.end.connection) refl one.1 (text_same f.port m.end.peer_port peer.0) (same_optional_is m.end.peer_channel (Some f.channel) peer.1)
  where
    tracked : (c : ConnectionEnd) → connection_at core m.end.connection ≡ Some c → same_optional c.peer_connection (Some n.end.connection) ≡ true
        → (o : Option Client) → client_at core c.client ≡ o → option_map_or (λ (k : Client). k.state.chain == f.chain) o false ≡ true
        → f.port ≡ m.end.peer_port → m.end.peer_channel ≡ Some f.channel → Names core m f n
    tracked c there so (Some k) is e port channel = record {
      port = port;
      channel = channel;
      connection = c;
      there = there;
      client = k;
      client_there = is;
      tracks = eqb-true k.state.chain f.chain e;
      over = same_optional_is c.peer_connection (Some n.end.connection) so;
    }
    tracked c there so None is e port channel = absurd (cc e)

    over : (o : Option ConnectionEnd) → connection_at core m.end.connection ≡ o → option_map_or (λ c. is_connected_to core c f.chain n.end.connection) o false ≡ true
        → f.port ≡ m.end.peer_port → m.end.peer_channel ≡ Some f.channel → Names core m f n
    over (Some c) is e port channel =
        let parts = both (option_map_or (λ (k : Client). k.state.chain == f.chain) (client_at core c.client) false) (same_optional c.peer_connection (Some n.end.connection)) e in
        tracked c is parts.1 (client_at core c.client) refl parts.0 port channel
    over None is e port channel = absurd (cc e)

-- ---- peers

pub record Peers (w : World) (e f : End) : Type 0 where
  pub mine : Channel
  pub theirs : Channel
  pub here : Stands w e mine
  pub there : Stands w f theirs
  pub names_them : Names here.chain.records.core mine f theirs
  pub names_us : Names there.chain.records.core theirs e mine
  pub established : (is_established mine || is_established theirs) ≡ true

pub true_peers : (w : World) (e f : End) → are_peers w e f ≡ true → Peers w e f
unfolding are_peers
true_peers w e f so = go (found_at w e) refl (found_at w f) refl so
  where
    go : (x : Option (Core × Channel)) → found_at w e ≡ x → (y : Option (Core × Channel)) → found_at w f ≡ y → are_paired_if e x f y ≡ true → Peers w e f
    go (Some x) is (Some y) was so =
        let one = both (names x.0 x.1 f y.1 && names y.0 y.1 e x.1) _ so in
        let two = both (names x.0 x.1 f y.1) (names y.0 y.1 e x.1) one.0 in
        let a = found_stands w e x is in
        let b = found_stands w f y was in
        record {
          mine = x.1;
          theirs = y.1;
          here = a.0;
          there = b.0;
          names_them = subst (λ core. Names core x.1 f y.1) (sym a.1) (true_names x.0 x.1 f y.1 two.0);
          names_us = subst (λ core. Names core y.1 e x.1) (sym b.1) (true_names y.0 y.1 e x.1 two.1);
          established = one.1;
        }
    go (Some x) is None was so = absurd (cc so)
    go None is (Some y) was so = absurd (cc so)
    go None is None was so = absurd (cc so)

pub peers_true : (w : World) (e f : End) → Peers w e f → are_peers w e f ≡ true
unfolding are_peers
peers_true w e f h =
    subst (λ (x : Option (Core × Channel)). are_paired_if e x f (found_at w f) ≡ true) (sym (found w e h.mine h.here))
    (subst (λ (y : Option (Core × Channel)). are_paired_if e (Some (h.here.chain.records.core, h.mine)) f y ≡ true) (sym (found w f h.theirs h.there))
    (and_true (and_true (names_true h.here.chain.records.core h.mine f h.theirs h.names_them) (names_true h.there.chain.records.core h.theirs e h.mine h.names_us)) h.established))

-- the other way round
pub or_flip : (a b : Bool) → (a || b) ≡ true → (b || a) ≡ true
or_flip true true e = refl
or_flip true false e = refl
or_flip false true e = refl
or_flip false false e = e

abbrev pub peers_flip : {w : World} (e f : End) → Peers w e f → Peers w f e
peers_flip e f p = record {
  mine = p.theirs;
  theirs = p.mine;
  here = p.there;
  there = p.here;
  names_them = p.names_us;
  names_us = p.names_them;
  established = or_flip (is_established p.mine) (is_established p.theirs) p.established;
}

-- ---- there is one peer at most

pub stands_same : {w : World} (e : End) (m n : Channel) → Stands w e m → Stands w e n → m ≡ n
stands_same e m n a b =
    let chain : a.chain ≡ b.chain = some_is a.there b.there in
    some_is a.is (subst (λ (c : MachineChain). channel_at c.records.core e.port e.channel ≡ Some n) (sym chain) b.is)

pub stands_alike : {w : World} (g f : End) (a b : Channel) → g ≡ f → (x : Stands w g a) (y : Stands w f b)
    → (x.chain ≡ y.chain) × (a ≡ b)
stands_alike {w} g f a b same x y =
    let there = subst (λ (z : End). slice_get w z.chain ≡ Some x.chain) same x.there in
    let chain = some_is there y.there in
    let is = subst (λ (z : End). channel_at x.chain.records.core z.port z.channel ≡ Some a) same x.is in
    (chain, some_is (subst (λ (c : MachineChain). channel_at c.records.core f.port f.channel ≡ Some a) chain is) y.is)

pub one_peer_only : (w : World) (e f g : End) → Peers w e f → Peers w e g → f ≡ g
one_peer_only w e f g p q =
    let chain : q.here.chain ≡ p.here.chain = some_is q.here.there p.here.there in
    let mine : q.mine ≡ p.mine = stands_same e q.mine p.mine q.here p.here in
    let nq : Names p.here.chain.records.core p.mine g q.theirs =
    subst (λ (m : Channel). Names p.here.chain.records.core m g q.theirs) mine (subst (λ (z : MachineChain). Names z.records.core q.mine g q.theirs) chain q.names_them) in
    let np = p.names_them in
    let port : f.port ≡ g.port = np.port ∙ sym nq.port in
    let channel : f.channel ≡ g.channel = some_is np.channel nq.channel in
    let over : nq.connection ≡ np.connection = some_is nq.there np.there in
    let client : nq.client ≡ np.client = some_is (subst (λ (k : ConnectionEnd). client_at p.here.chain.records.core k.client ≡ Some nq.client) over nq.client_there) np.client_there in
    let tracked : f.chain ≡ g.chain = sym np.tracks ∙ sym (ap (λ (k : Client). k.state.chain) client) ∙ nq.tracks in
    λ i. record { chain = tracked i; port = port i; channel = channel i }

-- ---- they hold on

-- an end that stood, in a world that went on
pub record StandsOn (w v : World) (e : End) (m : Channel) (s : Stands w e m) : Type 0 where
  pub now : Channel
  pub stands : Stands v e now
  pub grows : ChannelGrows m now
  pub chain_grows : ChainGrows s.chain stands.chain

pub stands_on : {w v : World} (e : End) (m : Channel) → WorldGrows w v → (s : Stands w e m) → StandsOn w v e m s
stands_on e m grows s =
    let d = grows.each e.chain s.chain s.there in
    let n = d.2.core.channels e.port e.channel m s.is in
    record { now = n.0; stands = record { chain = d.0; there = d.1; is = n.1 }; grows = n.2; chain_grows = d.2 }

Names-grows : (r s : Core) (m n : Channel) (f : End) (t u : Channel) → Grows r s → ChannelGrows m n
    → u.end.connection ≡ t.end.connection → Names r m f t → Names s n f u
Names-grows r s m n f t u grows g same h =
    let new = grows.connections m.end.connection h.connection h.there in
    let client = grows.clients h.connection.client h.client h.client_there in
    record {
      port = h.port ∙ sym g.end.peer_port;
      channel = g.end.named f.channel h.channel;
      connection = new.0;
      there = ap (λ i. connection_at s i) g.end.connection ∙ new.1;
      client = client.0;
      client_there = ap (λ i. client_at s i) new.2.client ∙ client.1;
      tracks = client.2 ∙ h.tracks;
      over = new.2.named t.end.connection h.over ∙ ap Some (sym same);
    }

rank_established : (s : ChannelState) → 1 ≤ rank s → (same_channel_state s chan.Open || same_channel_state s chan.Closed) ≡ true
rank_established chan.Init ranks = absurd (omega arith)
rank_established chan.TryOpen ranks = absurd (omega arith)
rank_established chan.Open ranks = refl
rank_established chan.Closed ranks = refl

pub is_established_by : (m : Channel) → 1 ≤ rank m.end.state → is_established m ≡ true
is_established_by m ranks = rank_established m.end.state ranks

stays_established : (m n : Channel) → ChannelGrows m n → is_established m ≡ true → is_established n ≡ true
stays_established m n g e =
    let low = established_rank m e in
    let up = g.end.ranks in
    rank_established n.end.state (omega arith)

-- peers in a world that went on
pub record PeersOn (w v : World) (e f : End) (p : Peers w e f) : Type 0 where
  pub peers : Peers v e f
  pub mine_grows : ChannelGrows p.mine peers.mine
  pub theirs_grow : ChannelGrows p.theirs peers.theirs
  pub our_chain_grows : ChainGrows p.here.chain peers.here.chain
  pub their_chain_grows : ChainGrows p.there.chain peers.there.chain

pub peers_on : {w v : World} (e f : End) → WorldGrows w v → (p : Peers w e f) → PeersOn w v e f p
peers_on {w} {v} e f grows p =
    let a = stands_on e p.mine grows p.here in
    let b = stands_on f p.theirs grows p.there in
    record {
      peers = record {
        mine = a.now;
        theirs = b.now;
        here = a.stands;
        there = b.stands;
        names_them = Names-grows p.here.chain.records.core a.stands.chain.records.core p.mine a.now f p.theirs b.now
            a.chain_grows.core a.grows b.grows.end.connection p.names_them;
        names_us = Names-grows p.there.chain.records.core b.stands.chain.records.core p.theirs b.now e p.mine a.now
            b.chain_grows.core b.grows a.grows.end.connection p.names_us;
        established = elim (either (is_established p.mine) (is_established p.theirs) p.established) [
          | inl s ↦ or_left (is_established a.now) (is_established b.now) (stays_established p.mine a.now a.grows s)
          | inr s ↦ or_right (is_established a.now) (is_established b.now) (stays_established p.theirs b.now b.grows s)
        ];
      };
      mine_grows = a.grows;
      theirs_grow = b.grows;
      our_chain_grows = a.chain_grows;
      their_chain_grows = b.chain_grows;
    }
