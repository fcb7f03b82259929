-- On an ordered channel what was received is a beginning of what was sent, equal in every field.
use Rattle.std.proofs.Common.{◌≡◌, ℕ, true, refl, ap, sym, ◌∙◌, subst, List, [], ◌∷◌, ◌++◌, length, Option, Some, inl, inr, filter_map}
use Rattle.std.specs.Option.{unwrap_or}
use Rattle.ibc_ids.specs.Texts.{Text}
use Rattle.ibc_wire.specs.declared.packet.Packet.{Packet}
use Rattle.ibc_wire.specs.declared.records.Order.TheVariants.{Ordered}
use Rattle.ibc_machine.specs.chain.Records.{Channel}
use Rattle.ibc_machine.specs.ics24.Values.{same_order}
use Rattle.ibc_machine.specs.ics04.Channels.{is_established, peer_channel_of}
use Rattle.ibc_machine.specs.ics04.Packets.{is_ordered}
use Rattle.ibc_machine.specs.chain.Genesis.{GenesisState, start}
use Rattle.ibc_machine.specs.chain.Machine.{World}
use Rattle.ibc_machine.specs.promises.Histories.{Happened, End, sent_packets, received_packets, history_of}
use Rattle.ibc_machine.specs.promises.Peers.{end_at}
use Rattle.ibc_machine.specs.promises.Laws.{InOrder, IsPast, IsBeginning}
use Rattle.ibc_laws.proofs.basics.PassedTests.{either}
use Rattle.ibc_laws.proofs.steps.Told.{Told, Quiet, Sent, Received, Acknowledged, TimedOut, told_of, is_told, sent_in}
use Rattle.ibc_laws.proofs.steps.MachineSteps.{Stepped, stepped}
use Rattle.ibc_laws.proofs.steps.PacketsPassed.{established_rank}
use Rattle.ibc_laws.proofs.peers.Invariant.{Inv, Inv-start, stepped_inv, starts_empty, no_channel, no_block}
use Rattle.ibc_laws.proofs.steps.Induction.{past_has}
use Rattle.ibc_laws.proofs.peers.Peers.{stands, Peers, stands_same, stands_alike, true_peers, one_peer_only, peers_flip}
use Rattle.ibc_laws.proofs.peers.FirstLaw.{peer_of, peers_of}
use Rattle.ibc_laws.proofs.packets.SentInOrder.{SentInOrder, sent_in_order_step}
use Rattle.ibc_laws.proofs.packets.ReceivedInOrder.{ReceivedInOrder, received_in_order_step, toward}

pub record Ordering (hs : List Happened) (w : World) : Type 0 where
  pub inv : Inv w
  pub sent : (e : End) → SentInOrder hs w e
  pub received : (f : End) → ReceivedInOrder hs w f

pub ordering_start : (genesis : GenesisState) → Ordering [] (start genesis)
ordering_start genesis = record {
  inv = Inv-start genesis;
  sent = λ e. record {
    none = λ nothing mine. refl;
    counts = λ m s mine. absurd (no_channel s.chain (starts_empty genesis e.chain s.chain s.there) e.port e.channel m s.is);
    now = λ m s n c is mine. absurd (no_channel s.chain (starts_empty genesis e.chain s.chain s.there) e.port e.channel m s.is);
    blocks = λ c there h b is m at_ n d found mine. absurd (no_block c (starts_empty genesis e.chain c there) h b is);
  };
  received = λ f. record {
    none = λ nothing. refl;
    counts = λ m s ordered. absurd (no_channel s.chain (starts_empty genesis f.chain s.chain s.there) f.port f.channel m s.is);
    from_peer = λ m s ordered. inl refl;
  };
}

pub ordering_step : (chains : ℕ) (hs : List Happened) (w : World) (h : Happened) (v : World) → Ordering hs w → Stepped chains w h v
    → Ordering (hs ++ h ∷ []) v
ordering_step chains hs w h v o step = record {
  inv = stepped_inv chains w h v o.inv step;
  sent = λ e. sent_in_order_step chains w hs h v o.inv step e (o.sent e);
  received = λ f. received_in_order_step chains w hs h v o.inv step o.sent f (o.received f);
}

ordering_of_past : (genesis : GenesisState) (happened : List Happened) (world : World) → IsPast genesis happened world → Ordering happened world
ordering_of_past genesis = past_has genesis Ordering
    (λ happened old h new typed o step. ordering_step (length genesis.chains) happened old h new o (stepped genesis old h new step))
    (ordering_start genesis)

-- ---- what was sent to a peer

sent_toward_in : (e f : End) (mine : Channel) → mine.end.peer_port ≡ f.port → peer_channel_of mine.end ≡ f.channel → (told : Told)
    → sent_in e mine told ≡ sent_in e (toward f) told
sent_toward_in e f mine port channel (Sent p q n c) =
    ap (λ (x : Text × Text). sent_in e (record (toward f) { end = record (toward f).end { peer_port = x.0; peer_channel = Some x.1 } }) (Sent p q n c))
    (λ i. (port i, channel i))
sent_toward_in e f mine port channel Quiet = refl
sent_toward_in e f mine port channel (Received p ack) = refl
sent_toward_in e f mine port channel (Acknowledged p ack) = refl
sent_toward_in e f mine port channel (TimedOut p) = refl

pub sent_toward : (e f : End) (mine : Channel) → mine.end.peer_port ≡ f.port → mine.end.peer_channel ≡ Some f.channel
    → (hs : List Happened) → sent_packets e mine hs ≡ sent_packets e (toward f) hs
sent_toward e f mine port channel hs =
    ap (λ (by : Happened → Option Packet). filter_map by (history_of e.chain hs))
    (λ i h. ((is_told h).sent e mine
    ∙ sent_toward_in e f mine port (ap (λ (o : Option Text). unwrap_or o []) channel) (told_of h)
    ∙ sym ((is_told h).sent e (toward f))) i)

-- what an end's own record says of its peer is all that counts
pub lemma_sent_to_peer : (w : World) (e f : End) → Peers w e f → (mine : Channel) → end_at w e ≡ Some mine → (hs : List Happened)
    → sent_packets e mine hs ≡ sent_packets e (toward f) hs
lemma_sent_to_peer w e f p mine is hs =
    let same : p.mine ≡ mine = stands_same e p.mine mine p.here (stands w e mine is) in
    ap (λ (c : Channel). sent_packets e c hs) (sym same) ∙ sent_toward e f p.mine (sym p.names_them.port) p.names_them.channel hs

-- ---- peers are of one order

pub same_order_as : (w : World) → Inv w → (e f : End) (p : Peers w e f) → p.theirs.end.order ≡ p.mine.end.order
same_order_as w inv e f p = elim (either (is_established p.mine) (is_established p.theirs) p.established) [
  | inl ours ↦ of_established e f p ours
  | inr theirs ↦ sym (of_established f e (peers_flip e f p) theirs)
]
  where
    of_established : (e f : End) (p : Peers w e f) → is_established p.mine ≡ true → p.theirs.end.order ≡ p.mine.end.order
    of_established e f p established =
        let peer = peer_of w inv e p.mine p.here (established_rank p.mine established) in
        let same : peer.other ≡ f = one_peer_only w e peer.other f (peers_of w e p.mine p.here peer) p in
        let alike = stands_alike peer.other f peer.theirs p.theirs same peer.there p.there in
        ap (λ (c : Channel). c.end.order) (sym alike.1) ∙ peer.order

pub in_order : InOrder
in_order genesis happened world e f past are_peers mine is ordered =
    let all = ordering_of_past genesis happened world past in
    let p = true_peers world e f are_peers in
    let same : p.mine ≡ mine = stands_same e p.mine mine p.here (stands world e mine is) in
    let ours : is_ordered p.mine ≡ true = ap (λ (c : Channel). is_ordered c) same ∙ ordered in
    let theirs : is_ordered p.theirs ≡ true = ap (λ o. same_order o Ordered) (same_order_as world all.inv e f p) ∙ ours in
    let toward_f = lemma_sent_to_peer world e f p mine is happened in
    subst (IsBeginning (received_packets f happened)) (sym toward_f)
    (elim ((all.received f).from_peer p.theirs p.there theirs) [
      | inl nothing ↦ (sent_packets e (toward f) happened, ap (λ ps. ps ++ sent_packets e (toward f) happened) nothing)
      | inr x ↦ subst (λ g. IsBeginning (received_packets f happened) (sent_packets g (toward f) happened)) (one_peer_only world f x.other e x.peers (peers_flip e f p)) x.beginning
    ])
