-- What two peers know of each other's books: a packet that is received is committed to still; one that was
-- acknowledged so was acknowledged so; one that times out was not acknowledged, and neither was the next one.
use Rattle.std.proofs.Common.{◌≡◌, ℕ, ◌≤◌, ◌<◌, true, false, refl, ap, sym, ◌∙◌, subst, List, Option, Some, None, inl, inr, arith, nat_cmp}
use Rattle.std.specs.Option.{option_map_or}
use Rattle.ibc_ids.specs.Texts.{Text, same_text}
use Rattle.ibc_ids.specs.Maps.{at}
use Rattle.ibc_wire.specs.declared.packet.Packet.{Packet}
use Rattle.ibc_machine.specs.chain.Records.{Channel, channel_at, commitment_of}
use Rattle.ibc_machine.specs.chain.Handlers.{host_of}
use Rattle.ibc_machine.specs.ics04.Packets.{has_received}
use Rattle.ibc_machine.specs.ics20.TokenData.{tokens_of, success}
use Rattle.ibc_machine.specs.ics20.Bank.{Balances}
use Rattle.ibc_machine.specs.ics20.Transfers.{transfer_port}
use Rattle.ibc_machine.specs.promises.Totals.{has_succeeded}
use Rattle.ibc_machine.specs.chain.Machine.{World}
use Rattle.ibc_machine.specs.promises.Histories.{Happened, End}
use Rattle.ibc_laws.proofs.steps.CoreSteps.{Receives, Acks, TimesOut, HadAck}
use Rattle.ibc_laws.proofs.steps.WorldGrowth.{WorldGrows, WorldGrows-refl}
use Rattle.ibc_laws.proofs.peers.Invariant.{Inv, shape_of}
use Rattle.ibc_laws.proofs.peers.Peers.{Peers, stands_alike, one_peer_only, peers_flip}
use Rattle.ibc_laws.proofs.peers.FirstLaw.{peers_of}
use Rattle.ibc_laws.proofs.peers.PeerSeen.{PeerSeen, peer_seen}
use Rattle.ibc_laws.proofs.packets.ReceiptsAndTimeouts.{sender_seen, receiver_seen, not_after_timeout, not_after_receipt}
use Rattle.ibc_laws.proofs.packets.Lasting.{WasReceived}
use Rattle.ibc_laws.proofs.packets.AcknowledgedReceived.{IsReceived}
use Rattle.ibc_laws.proofs.packets.SecondLaw.{Once}
use Rattle.ibc_laws.proofs.packets.ThirdLaw.{Ordering}
use Rattle.ibc_laws.proofs.tokens.ChainKinds.{Kinds}
use Rattle.ibc_laws.proofs.tokens.GoneSettled.{GoneSettled, IsSettled}
use Rattle.ibc_laws.proofs.tokens.TokenEffects.{OwnEffect, does_nothing, sends_out, takes_in, turns_down, is_done, is_refused, is_over, Leaving, Returning, Arriving}
use Rattle.ibc_laws.proofs.tokens.BalancedPair.{PairEffect, keeps, sends_more, takes_one, turns_one_down, settles_one, gets_back}

-- what the earlier laws have found of a world after a history
pub record Known (hs : List Happened) (w : World) : Type 0 where
  pub once : Once hs w
  pub ordering : Ordering hs w
  pub kinds : Kinds w
  pub gone : (e : End) → GoneSettled hs w e

none_or : {A : Type 0} (o : Option A) → ((x : A) → o ≡ Some x → ⊥) → o ≡ None
none_or None never = refl
none_or (Some x) never = absurd (never x refl)

module _ (hs : List Happened) (w : World) (k : Known hs w) (chains : ℕ) (e f : End) (p : Peers w e f) where
  abbrev inv : Inv w
  inv = k.once.inv

  abbrev grows : WorldGrows w w
  grows = WorldGrows-refl w

  -- ---- acknowledged at the peer

  was_received : (n : ℕ) (ack : Text) → at nat_cmp n p.theirs.acks ≡ Some ack → WasReceived w f n
  was_received n ack is = k.once.not_both.received f n (k.once.acknowledged.written f p.theirs p.there n ack is)

  was_used : (n : ℕ) (ack : Text) → at nat_cmp n p.theirs.acks ≡ Some ack → n < p.mine.next_send
  was_used n ack is =
      let x = was_received n ack is in
      let same : x.other ≡ e = one_peer_only w f x.other e x.peers (peers_flip e f p) in
      let alike = stands_alike x.other e x.peers.theirs p.mine same x.peers.there p.here in
      subst (λ (c : Channel). n < c.next_send) alike.1 x.used

  not_succeeded : (n : ℕ) → ((ack : Text) → at nat_cmp n p.theirs.acks ≡ Some ack → ⊥) → has_succeeded p.theirs n ≡ false
  not_succeeded n never = ap (λ o. option_map_or (λ ack. same_text ack success) o false) (none_or (at nat_cmp n p.theirs.acks) never)

  pub next_is_new : has_succeeded p.theirs p.mine.next_send ≡ false
  next_is_new = not_succeeded p.mine.next_send (λ ack is. let lt = was_used p.mine.next_send ack is in omega arith)

  pub next_is_free : at nat_cmp p.mine.next_send p.mine.commitments ≡ None
  next_is_free = none_or (at nat_cmp p.mine.next_send p.mine.commitments)
      (λ c is. let lt = (shape_of w inv e p.mine p.here).below p.mine.next_send c is in omega arith)

  -- ---- a packet is acknowledged, and times out

  pub acknowledged_so : (port : Text) (q : Packet) (s : Acks w p.here.chain.records.core port e.channel p.mine q)
      → has_succeeded p.theirs q.sequence ≡ same_text s.ack success
  acknowledged_so port q s =
      let seen = peer_seen w inv e p.mine p.here s.settles.settled q.destination_port q.destination_channel s.settles.peer s.height (HadAck q s.ack) s.sees in
      let had = s.sees.had in
      let same : seen.peer.other ≡ f = one_peer_only w e seen.peer.other f (peers_of w e p.mine p.here seen.peer) p in
      let alike = stands_alike seen.peer.other f seen.peer.theirs p.theirs same seen.peer.there p.there in
      let stands : at nat_cmp q.sequence p.theirs.acks ≡ Some s.ack =
      subst (λ (c : Channel). at nat_cmp q.sequence c.acks ≡ Some s.ack) alike.1 ((seen.grows had.0 had.1).receiving.acks q.sequence s.ack had.2) in
      ap (λ o. option_map_or (λ ack. same_text ack success) o false) stands

  pub not_acknowledged : (q : Packet) → TimesOut w p.here.chain.records.core e.port e.channel p.mine q → has_succeeded p.theirs q.sequence ≡ false
  not_acknowledged q s = not_succeeded q.sequence (λ ack is.
      let peer = (receiver_seen w w inv grows e p.mine p.here q s).peer in
      let same : peer.other ≡ f = one_peer_only w e peer.other f (peers_of w e p.mine p.here peer) p in
      not_after_receipt w w inv grows e p.mine p.here q s (subst (λ g. WasReceived w g q.sequence) (sym same) (was_received q.sequence ack is)))

  -- ---- a packet is received

  module _ (q : Packet) (r : Receives w (host_of chains e.chain p.here.chain) p.here.chain.records.core e.port e.channel p.mine q) where
    abbrev seen : PeerSeen w e p.mine p.here q.source_port q.source_channel r.height r.sees.block
    seen = sender_seen w w inv grows chains e p.mine p.here q r

    same_peer : seen.peer.other ≡ f
    same_peer = one_peer_only w e seen.peer.other f (peers_of w e p.mine p.here seen.peer) p

    pub from_port : q.source_port ≡ f.port
    from_port = seen.port_is ∙ ap (λ (g : End). g.port) same_peer

    pub from_channel : q.source_channel ≡ f.channel
    from_channel = seen.channel_is ∙ ap (λ (g : End). g.channel) same_peer

    same_record : seen.peer.theirs ≡ p.theirs
    same_record = (stands_alike seen.peer.other f seen.peer.theirs p.theirs same_peer seen.peer.there p.there).1

    -- the block had the commitment, whose number is one that the peer used
    was_sent : channel_at r.sees.block.records.core seen.peer.other.port seen.peer.other.channel ≡ Some r.sees.had.0
    was_sent = subst (λ i. channel_at r.sees.block.records.core i seen.peer.other.channel ≡ Some r.sees.had.0) seen.port_is
        (subst (λ i. channel_at r.sees.block.records.core q.source_port i ≡ Some r.sees.had.0) seen.channel_is r.sees.had.1)

    from_one : 1 ≤ q.sequence
    from_one =
        let nth = (k.ordering.sent seen.peer.other).blocks seen.peer.there.chain seen.peer.there.there r.height r.sees.block seen.stood r.sees.had.0 was_sent
        q.sequence (commitment_of q) r.sees.had.2 p.mine in
        let number = nth.number in
        omega arith

    below_next : q.sequence < r.sees.had.0.next_send
    below_next = (seen.shaped.channels q.source_port q.source_channel r.sees.had.0 r.sees.had.1).below q.sequence (commitment_of q) r.sees.had.2

    not_here : IsReceived hs e q.sequence → ⊥
    not_here is =
        let x = k.once.not_both.received e q.sequence is in
        let same : x.peers.mine ≡ p.mine = (stands_alike e e x.peers.mine p.mine refl x.peers.here p.here).1 in
        absurd (cc (r.fresh, subst (λ (c : Channel). has_received c q.sequence ≡ true) same x.received))

    not_settled : IsSettled hs seen.peer.other q.sequence → ⊥
    not_settled (inl acked) =
        let x = k.once.acknowledged.acknowledged seen.peer.other q.sequence acked in
        let same : x.0 ≡ e = one_peer_only w seen.peer.other x.0 e x.1 (peers_flip e seen.peer.other (peers_of w e p.mine p.here seen.peer)) in
        not_here (subst (λ g. IsReceived hs g q.sequence) same x.2)
    not_settled (inr over) = not_after_timeout w w inv grows chains e p.mine p.here q r (k.once.not_both.timed_out seen.peer.other q.sequence over)

    pub still_committed : at nat_cmp q.sequence p.theirs.commitments ≡ Some (commitment_of q)
    still_committed =
        let grown = seen.grows r.sees.had.0 r.sees.had.1 in
        let on = elim (grown.sending.stays q.sequence below_next) as (λ x. at nat_cmp q.sequence seen.peer.theirs.commitments ≡ Some (commitment_of q)) [
          | inl same ↦ same ∙ r.sees.had.2
          | inr none ↦ (let lt = below_next in let counts = grown.sending.counts in
              absurd (not_settled ((k.gone seen.peer.other).settled seen.peer.theirs seen.peer.there q.sequence from_one (omega arith) none)))
        ] in
        subst (λ (c : Channel). at nat_cmp q.sequence c.commitments ≡ Some (commitment_of q)) same_record on

    pub not_yet : at nat_cmp q.sequence p.mine.acks ≡ None
    not_yet = none_or (at nat_cmp q.sequence p.mine.acks)
        (λ ack is. absurd (cc (r.fresh, (shape_of w inv e p.mine p.here).acks_received q.sequence ack is)))

  -- ---- so the end's own effect is one of the pair

  module _ (is : e.port ≡ transfer_port) (is_there : f.port ≡ transfer_port) (version : Text) (version_is : p.mine.end.version ≡ version) (before after : Balances) (n : Channel) where
    pub pair_effect : OwnEffect w (host_of chains e.chain p.here.chain) p.here.chain.records.core e.channel before after p.mine n
        → PairEffect version e.channel f.channel p.theirs before after p.mine n
    pair_effect (does_nothing books shift) = keeps books shift
    pair_effect (sends_out c open_ sent acks shift) =
        sends_more p.mine.next_send c next_is_free next_is_new sent acks (subst (λ v. Leaving before after e.channel (tokens_of v c)) version_is shift)
    pair_effect (takes_in q r books shift) =
        let r_is = subst (λ port. Receives w (host_of chains e.chain p.here.chain) p.here.chain.records.core port e.channel p.mine q) (sym is) r in
        takes_one q.sequence (commitment_of q) (still_committed q r_is) (not_yet q r_is) books
        (subst (λ v. Arriving before after e.channel transfer_port f.channel (tokens_of v (commitment_of q))) version_is
        (subst (λ port. Arriving before after e.channel port f.channel (tokens_of p.mine.end.version (commitment_of q))) (from_port q r_is ∙ is_there)
        (subst (λ i. Arriving before after e.channel q.source_port i (tokens_of p.mine.end.version (commitment_of q))) (from_channel q r_is) shift)))
    pair_effect (turns_down q ack r bad books shift) =
        let r_is = subst (λ port. Receives w (host_of chains e.chain p.here.chain) p.here.chain.records.core port e.channel p.mine q) (sym is) r in
        turns_one_down q.sequence (commitment_of q) ack (still_committed q r_is) (not_yet q r_is) bad books shift
    pair_effect (is_done q s good books shift) =
        settles_one q.sequence (commitment_of q) s.settles.committed (acknowledged_so transfer_port q s ∙ good) books shift
    pair_effect (is_refused q s bad books shift) =
        gets_back q.sequence (commitment_of q) s.settles.committed (acknowledged_so transfer_port q s ∙ bad) books
        (subst (λ v. Returning before after e.channel (tokens_of v (commitment_of q))) version_is shift)
    pair_effect (is_over q s books shift) =
        gets_back q.sequence (commitment_of q) s.settles.committed
        (not_acknowledged q (subst (λ port. TimesOut w p.here.chain.records.core port e.channel p.mine q) (sym is) s)) books
        (subst (λ v. Returning before after e.channel (tokens_of v (commitment_of q))) version_is shift)
