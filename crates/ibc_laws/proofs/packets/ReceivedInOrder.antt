-- What an ordered end received is a beginning of what its peer sent to it.
use Rattle.std.proofs.Common.{◌≡◌, ℕ, ◌+◌, true, false, refl, ap, sym, ◌∙◌, subst, List, [], ◌∷◌, ◌++◌, length, Some, inl, inr, ◌⊎◌, arith, slice_get, append_assoc}
use Rattle.ibc_ids.specs.Texts.{Text}
use Rattle.ibc_wire.specs.declared.packet.Packet.{Packet}
use Rattle.ibc_wire.specs.declared.records.Order.TheVariants.{Ordered}
use Rattle.ibc_wire.specs.declared.records.ChannelState.TheVariants as chan
use Rattle.ibc_machine.specs.chain.Records.{Channel, channel_at, commitment_of}
use Rattle.ibc_machine.specs.ics24.Values.{same_order}
use Rattle.ibc_machine.specs.chain.Handlers.{host_of}
use Rattle.ibc_machine.specs.ics04.Channels.{channel_end, new_channel}
use Rattle.ibc_machine.specs.ics04.Packets.{is_ordered, after_receive}
use Rattle.ibc_machine.specs.chain.Machine.{World}
use Rattle.ibc_machine.specs.promises.Histories.{Happened, End, packet_from, sent_packets, received_packets}
use Rattle.ibc_machine.specs.promises.Laws.{IsBeginning}
use Rattle.ibc_laws.proofs.steps.CoreSteps.{Receives}
use Rattle.ibc_laws.proofs.steps.EndSteps.{the_next, taken}
use Rattle.ibc_laws.proofs.steps.WorldGrowth.{WorldGrows}
use Rattle.ibc_laws.proofs.steps.MachineSteps.{Stepped}
use Rattle.ibc_laws.proofs.peers.Invariant.{Inv, stepped_grows}
use Rattle.ibc_laws.proofs.peers.Peers.{Stands, Peers, stands_same, stands_on, one_peer_only, peers_on}
use Rattle.ibc_laws.proofs.peers.FirstLaw.{peers_of}
use Rattle.ibc_laws.proofs.steps.AtEnds.{at_end}
use Rattle.ibc_laws.proofs.steps.EndKeeps.{SameReceiving, StoodBefore, was_there, is_new}
use Rattle.ibc_laws.proofs.steps.Happenings.{Receiving, received_nothing, received_one, receiving, Sending, sent_nothing, sent_one, sending}
use Rattle.ibc_laws.proofs.packets.ReceiptsAndTimeouts.{sender_seen}
use Rattle.ibc_laws.proofs.packets.SentInOrder.{IsNth, SentInOrder, longer_by_one}

-- an end whose peer is f; of an end, what was sent depends on no more
abbrev pub toward : End → Channel
toward f = new_channel (channel_end chan.Open Ordered f.port (Some f.channel) [] [])

pub record FromPeer (hs : List Happened) (w : World) (f : End) : Type 0 where
  pub other : End
  pub peers : Peers w f other
  pub beginning : IsBeginning (received_packets f hs) (sent_packets other (toward f) hs)

pub record ReceivedInOrder (hs : List Happened) (w : World) (f : End) : Type 0 where
  pub none : ((m : Channel) → Stands w f m → ⊥) → received_packets f hs ≡ []
  pub counts : (m : Channel) → Stands w f m → is_ordered m ≡ true → length (received_packets f hs) + 1 ≡ m.next_recv
  pub from_peer : (m : Channel) → Stands w f m → is_ordered m ≡ true → (received_packets f hs ≡ []) ⊎ FromPeer hs w f

-- ---- a packet that is received is the one that the peer sent under its number, in every field

pub lemma_sent_so : (w v : World) (inv : Inv w) (grows : WorldGrows w v) (hs : List Happened) → ((e : End) → SentInOrder hs w e)
    → (chains : ℕ) (f : End) (m : Channel) (stood : Stands w f m) (p : Packet)
    → (r : Receives w (host_of chains f.chain stood.chain) stood.chain.records.core f.port f.channel m p)
    → IsNth (sent_packets (sender_seen w v inv grows chains f m stood p r).peer.other (toward f) hs) p.sequence p
lemma_sent_so w v inv grows hs all_sent chains f m stood p r =
    let seen = sender_seen w v inv grows chains f m stood p r in
    let e : End = seen.peer.other in
    let had = r.sees.had in
    let there : channel_at r.sees.block.records.core e.port e.channel ≡ Some had.0 =
    subst (λ i. channel_at r.sees.block.records.core i e.channel ≡ Some had.0) seen.port_is
    (subst (λ i. channel_at r.sees.block.records.core p.source_port i ≡ Some had.0) seen.channel_is had.1) in
    let nth = (all_sent e).blocks seen.peer.there.chain seen.peer.there.there r.height r.sees.block seen.stood had.0 there p.sequence (commitment_of p) had.2 (toward f) in
    let same : packet_from e (toward f) p.sequence (commitment_of p) ≡ p = (λ i. record {
      sequence = p.sequence;
      timeout_height = p.timeout_height;
      timeout_time = p.timeout_time;
      source_port = sym seen.port_is i;
      source_channel = sym seen.channel_is i;
      destination_port = sym r.to_port i;
      destination_channel = sym r.to_channel i;
      payload = p.payload;
    }) in
    record { index = nth.index; number = nth.number; got = nth.got ∙ ap Some same }

-- ---- beginnings

beginning-longer : (front all more : List Packet) → IsBeginning front all → IsBeginning front (all ++ more)
beginning-longer front all more h =
    (h.0 ++ more, sym (append_assoc front h.0 more) ∙ ap (λ xs. xs ++ more) h.1)

-- the entry behind a beginning joins it
next_of : (front rest : List Packet) (p : Packet) → slice_get (front ++ rest) (length front) ≡ Some p
    → (behind : List Packet) × (rest ≡ p ∷ behind)
next_of [] [] p e = absurd (cc e)
next_of [] (q ∷ rest) p e = (rest, ap (λ x. x ∷ rest) (cc e))
next_of (x ∷ front) rest p e = next_of front rest p e

beginning-next : (front all : List Packet) (p : Packet) → IsBeginning front all → slice_get all (length front) ≡ Some p
    → IsBeginning (front ++ p ∷ []) all
beginning-next front all p h e =
    let next = next_of front h.0 p (subst (λ xs. slice_get xs (length front) ≡ Some p) (sym h.1) e) in
    (next.0, append_assoc front (p ∷ []) next.0 ∙ ap (λ xs. front ++ xs) (sym next.1) ∙ h.1)

module _ (chains : ℕ) (w : World) (hs : List Happened) (h : Happened) (v : World) (inv : Inv w) (step : Stepped chains w h v)
    (all_sent : (e : End) → SentInOrder hs w e) (f : End) (was : ReceivedInOrder hs w f) where
  -- what the other end sent may have grown
  still_beginning : (e : End) (front : List Packet) → IsBeginning front (sent_packets e (toward f) hs) → IsBeginning front (sent_packets e (toward f) (hs ++ h ∷ []))
  still_beginning e front begins = go (sending chains w hs h v e inv (at_end chains w h v inv step e))
    where
      go : Sending chains w hs h v e → IsBeginning front (sent_packets e (toward f) (hs ++ h ∷ []))
      go (sent_nothing same before) = subst (IsBeginning front) (sym (same (toward f))) begins
      go (sent_one c m stood now more) = subst (IsBeginning front) (sym (more (toward f))) (beginning-longer front (sent_packets e (toward f) hs) _ begins)

  on : (x : FromPeer hs w f) → (received_packets f (hs ++ h ∷ []) ≡ received_packets f hs) → FromPeer (hs ++ h ∷ []) v f
  on x same = record {
    other = x.other;
    peers = (peers_on f x.other (stepped_grows chains w h v inv step) x.peers).peers;
    beginning = subst (λ ps. IsBeginning ps (sent_packets x.other (toward f) (hs ++ h ∷ []))) (sym same) (still_beginning x.other (received_packets f hs) x.beginning);
  }

  -- ---- a packet is received

  module _ (m : Channel) (stood : Stands w f m) (p : Packet) (r : Receives w (host_of chains f.chain stood.chain) stood.chain.records.core f.port f.channel m p) where
    -- what stood before of the peer that is seen now
    so_far : (e : End) → Peers w f e → is_ordered m ≡ true → IsBeginning (received_packets f hs) (sent_packets e (toward f) hs)
    so_far e peers ordered = elim (was.from_peer m stood ordered) [
      | inl nothing ↦ (sent_packets e (toward f) hs, ap (λ ps. ps ++ sent_packets e (toward f) hs) nothing)
      | inr x ↦ subst (λ g. IsBeginning (received_packets f hs) (sent_packets g (toward f) hs)) (one_peer_only w f x.other e x.peers peers) x.beginning
    ]

    -- the packet is the peer's next one
    is_next : is_ordered m ≡ true → slice_get (sent_packets (sender_seen w v inv (stepped_grows chains w h v inv step) chains f m stood p r).peer.other (toward f) hs) (length (received_packets f hs)) ≡ Some p
    is_next ordered =
        let e : End = (sender_seen w v inv (stepped_grows chains w h v inv step) chains f m stood p r).peer.other in
        let nth = lemma_sent_so w v inv (stepped_grows chains w h v inv step) hs all_sent chains f m stood p r in
        let count = was.counts m stood ordered in
        let next = the_next m p.sequence r.fresh r.in_order ordered in
        let index : nth.index ≡ length (received_packets f hs) = (let a = nth.number in omega arith) in
        subst (λ i. slice_get (sent_packets e (toward f) hs) i ≡ Some p) index nth.got

    now_from_peer : is_ordered m ≡ true → received_packets f (hs ++ h ∷ []) ≡ received_packets f hs ++ p ∷ [] → FromPeer (hs ++ h ∷ []) v f
    now_from_peer ordered more =
        let seen = sender_seen w v inv (stepped_grows chains w h v inv step) chains f m stood p r in
        let e : End = seen.peer.other in
        let peers = peers_of w f m stood seen.peer in
        record {
          other = e;
          peers = (peers_on f e (stepped_grows chains w h v inv step) peers).peers;
          beginning = subst (λ ps. IsBeginning ps (sent_packets e (toward f) (hs ++ h ∷ []))) (sym more)
              (still_beginning e (received_packets f hs ++ p ∷ []) (beginning-next (received_packets f hs) (sent_packets e (toward f) hs) p (so_far e peers ordered) (is_next ordered)));
        }

  -- ---- the step

  same_order_after : (n : ℕ) (ack : Text) (m : Channel) → is_ordered (after_receive n ack m) ≡ is_ordered m
  same_order_after n ack m = go (is_ordered m)
    where
      go : (b : _) → is_ordered (taken b n ack m) ≡ is_ordered m
      go true = refl
      go false = refl

  next_after : (n : ℕ) (ack : Text) (m : Channel) → is_ordered m ≡ true → (after_receive n ack m).next_recv ≡ m.next_recv + 1
  next_after n ack m ordered = ap (λ b. (taken b n ack m).next_recv) ordered

  counts_after : Receiving chains w hs h v f → (k : Channel) → Stands v f k → is_ordered k ≡ true → length (received_packets f (hs ++ h ∷ [])) + 1 ≡ k.next_recv
  counts_after (received_nothing same before) k stands ordered = go (before k stands)
    where
      go : StoodBefore w f SameReceiving k → length (received_packets f (hs ++ h ∷ [])) + 1 ≡ k.next_recv
      go (was_there m stood kept) =
          ap (λ (ps : List Packet). length ps + 1) same ∙ was.counts m stood (ap (λ o. same_order o Ordered) (sym kept.order) ∙ ordered) ∙ sym kept.next
      go (is_new none end new) = ap (λ (ps : List Packet). length ps + 1) (same ∙ was.none none) ∙ ap (λ (x : Channel). x.next_recv) new
  counts_after (received_one p ack m stood now r told more) k stands ordered =
      let now_k = stands_same f _ k now stands in
      let before : is_ordered m ≡ true = sym (same_order_after p.sequence ack m) ∙ ap (λ (x : Channel). is_ordered x) now_k ∙ ordered in
      ap (λ (ps : List Packet). length ps + 1) more ∙ ap (λ n. n + 1) (longer_by_one (received_packets f hs) p ∙ was.counts m stood before)
      ∙ sym (next_after p.sequence ack m before) ∙ ap (λ (x : Channel). x.next_recv) now_k

  from_peer_after : Receiving chains w hs h v f → (k : Channel) → Stands v f k → is_ordered k ≡ true
      → (received_packets f (hs ++ h ∷ []) ≡ []) ⊎ FromPeer (hs ++ h ∷ []) v f
  from_peer_after (received_nothing same before) k stands ordered = go (before k stands)
    where
      go : StoodBefore w f SameReceiving k → (received_packets f (hs ++ h ∷ []) ≡ []) ⊎ FromPeer (hs ++ h ∷ []) v f
      go (was_there m stood kept) = elim (was.from_peer m stood (ap (λ o. same_order o Ordered) (sym kept.order) ∙ ordered)) [
        | inl nothing ↦ inl (same ∙ nothing)
        | inr x ↦ inr (on x same)
      ]
      go (is_new none end new) = inl (same ∙ was.none none)
  from_peer_after (received_one p ack m stood now r told more) k stands ordered =
      let now_k = stands_same f _ k now stands in
      inr (now_from_peer m stood p r (sym (same_order_after p.sequence ack m) ∙ ap (λ (x : Channel). is_ordered x) now_k ∙ ordered) more)

  none_after : Receiving chains w hs h v f → ((m : Channel) → Stands v f m → ⊥) → received_packets f (hs ++ h ∷ []) ≡ []
  none_after (received_nothing same before) nothing =
      same ∙ was.none (λ m stood. let on = stands_on f m (stepped_grows chains w h v inv step) stood in nothing on.now on.stands)
  none_after (received_one p ack m stood now r told more) nothing = absurd (nothing _ now)

  pub received_in_order_step : ReceivedInOrder (hs ++ h ∷ []) v f
  received_in_order_step = record {
    none = none_after (receiving chains w hs h v f (at_end chains w h v inv step f));
    counts = counts_after (receiving chains w hs h v f (at_end chains w h v inv step f));
    from_peer = from_peer_after (receiving chains w hs h v f (at_end chains w h v inv step f));
  }
