-- A packet that is received has not timed out, and one that times out has not been received: what the step sees
-- of the other chain contradicts what lasts of the earlier one.
use Rattle.std.proofs.Common.{◌≡◌, ℕ, ◌≤◌, ◌<◌, true, false, refl, ap, sym, ◌∙◌, subst, Some, inl, inr, arith, nat_cmp}
use Rattle.ibc_ids.specs.Maps.{at}
use Rattle.ibc_wire.specs.declared.packet.Packet.{Packet}
use Rattle.ibc_wire.specs.declared.records.Order.TheVariants.{Ordered}
use Rattle.ibc_wire.specs.declared.records.ChannelEnd.{ChannelEnd}
use Rattle.ibc_machine.specs.chain.Records.{Records, Block, MachineChain, Channel, Commitment, channel_at, commitment_of}
use Rattle.ibc_machine.specs.ics24.Values.{same_order}
use Rattle.ibc_machine.specs.chain.Handlers.{host_of, working_height}
use Rattle.ibc_machine.specs.ics04.Packets.{has_received, is_timed_out, after_receive, after_timeout}
use Rattle.ibc_machine.specs.chain.Machine.{World, block_of}
use Rattle.ibc_machine.specs.promises.Histories.{End}
use Rattle.ibc_laws.proofs.basics.ListPlaces.{some_is}
use Rattle.ibc_laws.proofs.steps.CoreSteps.{rank, Receives, TimesOut, HadCommitment, HadNotReceived, WasOver}
use Rattle.ibc_laws.proofs.steps.Growth.{ChannelGrows, ChannelGrows-trans}
use Rattle.ibc_laws.proofs.steps.EndSteps.{the_next, received_now, open_rank}
use Rattle.ibc_laws.proofs.steps.WorldGrowth.{height_below, WorldGrows}
use Rattle.ibc_laws.proofs.peers.Invariant.{Inv, shape_of}
use Rattle.ibc_laws.proofs.peers.Peers.{Stands, stands_same, stands_alike, peers_flip, one_peer_only, peers_on}
use Rattle.ibc_laws.proofs.peers.FirstLaw.{peers_of}
use Rattle.ibc_laws.proofs.peers.PeerSeen.{PeerSeen, peer_seen}
use Rattle.ibc_laws.proofs.packets.SettledOnce.{IsGone, gone_after_timeout}
use Rattle.ibc_laws.proofs.packets.Lasting.{WasReceived, committed_later, BlockOfReceiver, WasTimedOut, closed_later, over_later, not_over_before}

module _ (w v : World) (inv : Inv w) (grows : WorldGrows w v) where
  -- ---- a packet is received

  module _ (chains : ℕ) (f : End) (m : Channel) (was : Stands w f m) (p : Packet) (r : Receives w (host_of chains f.chain was.chain) was.chain.records.core f.port f.channel m p) where
    established : 1 ≤ rank m.end.state
    established = let z = open_rank m.end.state r.state in omega arith

    pub sender_seen : PeerSeen w f m was p.source_port p.source_channel r.height r.sees.block
    sender_seen = peer_seen w inv f m was established p.source_port p.source_channel r.peer r.height (HadCommitment p) r.sees

    -- each block of the receiver is before the packet's timeouts, and the end isn't CLOSED in it
    block_before : (h : ℕ) (b : Block) → block_of h was.chain.committed ≡ Some b → BlockOfReceiver f p.sequence (commitment_of p) h b
    block_before h b is =
        let shape = inv.shaped.each f.chain was.chain was.there in
        let below = height_below was.chain h b is in
        inr (
          not_over_before (commitment_of p) h b.time (working_height was.chain) was.chain.time (omega arith) (shape.times h b is) r.in_time,
          λ k there.
              let now = (shape.grows h b is).channels f.port f.channel k there in
              let same : now.0 ≡ m = some_is now.1 was.is in
              let up = (subst (λ (x : Channel). ChannelGrows k x) same now.2).end.ranks in
              let z = open_rank m.end.state r.state in
              omega arith,
        )

    pub now_received : (ack : _) → Stands v f (after_receive p.sequence ack m) → WasReceived v f p.sequence
    now_received ack now =
        let seen = sender_seen in
        let peer = seen.peer in
        let had = r.sees.had in
        let on = peers_on f peer.other grows (peers_of w f m was peer) in
        let mine = stands_same f (after_receive p.sequence ack m) on.peers.mine now on.peers.here in
        let sender : ChannelGrows had.0 on.peers.theirs = ChannelGrows-trans (seen.grows had.0 had.1) on.theirs_grow in
        let used : p.sequence < had.0.next_send = (seen.shaped.channels p.source_port p.source_channel had.0 had.1).below p.sequence (commitment_of p) had.2 in
        record {
          other = peer.other;
          peers = on.peers;
          received = subst (λ (x : Channel). has_received x p.sequence ≡ true) mine
              (received_now p.sequence ack m (the_next m p.sequence r.fresh r.in_order) p.sequence (inl refl));
          c = commitment_of p;
          used = let up = sender.sending.counts in omega arith;
          committed = committed_later had.0 on.peers.theirs p.sequence (commitment_of p) sender used (λ d is. some_is is had.2);
          blocks = λ h b is. elim (on.our_chain_grows.blocks h b is) [
            | inl old ↦ block_before h b old
            | inr new ↦ inr (
              subst (λ t. is_timed_out (commitment_of p) h t ≡ false) (sym new.2)
                  (subst (λ i. is_timed_out (commitment_of p) i was.chain.time ≡ false) (sym new.0) r.in_time),
              λ k there.
                  let same : m ≡ k = some_is was.is (ap (λ (x : Records). channel_at x.core f.port f.channel) (sym new.1) ∙ there) in
                  let z : rank k.end.state ≡ 1 = ap (λ (x : Channel). rank x.end.state) (sym same) ∙ open_rank m.end.state r.state in
                  omega arith,
            )
          ];
        }

    -- it had not timed out at its sender
    pub not_after_timeout : WasTimedOut w sender_seen.peer.other p.sequence → ⊥
    not_after_timeout x =
        let seen = sender_seen in
        let e : End = seen.peer.other in
        let had = r.sees.had in
        let same : x.other ≡ f = one_peer_only w e x.other f x.peers (peers_flip f e (peers_of w f m was seen.peer)) in
        let ours = stands_alike x.other f x.peers.theirs m same x.peers.there was in
        let theirs = some_is x.peers.here.there seen.peer.there.there in
        let there : channel_at r.sees.block.records.core e.port e.channel ≡ Some had.0 =
        subst (λ i. channel_at r.sees.block.records.core i e.channel ≡ Some had.0) seen.port_is
        (subst (λ i. channel_at r.sees.block.records.core p.source_port i ≡ Some had.0) seen.channel_is had.1) in
        let c_is : commitment_of p ≡ x.c = x.blocks r.height r.sees.block
        (subst (λ (c : MachineChain). block_of r.height c.committed ≡ Some r.sees.block) (sym theirs) seen.stood) had.0 there (commitment_of p) had.2 in
        elim x.over [
          | inl closed ↦ (
              let two : rank m.end.state ≡ 2 = ap (λ (k : Channel). rank k.end.state) (sym ours.1) ∙ closed in
              let one = open_rank m.end.state r.state in
              absurd (omega arith)
              )
          | inr late ↦ absurd (cc (
            r.in_time,
            subst (λ (c : MachineChain). is_timed_out (commitment_of p) (working_height c) c.time ≡ true) ours.0
                (subst (λ c. is_timed_out c (working_height x.peers.there.chain) x.peers.there.chain.time ≡ true) (sym c_is) late),
          ))
        ]

  -- ---- a packet times out

  module _ (e : End) (m : Channel) (was : Stands w e m) (p : Packet) (s : TimesOut w was.chain.records.core e.port e.channel m p) where
    pub receiver_seen : PeerSeen w e m was p.destination_port p.destination_channel s.height s.sees.block
    receiver_seen = peer_seen w inv e m was s.settles.settled p.destination_port p.destination_channel s.settles.peer s.height
        (λ b. HadNotReceived m p b × WasOver was.chain.records.core m p s.height b) s.sees

    -- in each block of the sender the packet's commitment, if it stands, is the one that timed out
    block_commits : (h : ℕ) (b : Block) → block_of h was.chain.committed ≡ Some b → (k : Channel)
        → channel_at b.records.core e.port e.channel ≡ Some k → (d : Commitment) → at nat_cmp p.sequence k.commitments ≡ Some d → d ≡ commitment_of p
    block_commits h b is k there d at_ =
        let shape = inv.shaped.each e.chain was.chain was.there in
        let now = (shape.grows h b is).channels e.port e.channel k there in
        let grows : ChannelGrows k m = subst (λ (x : Channel). ChannelGrows k x) (some_is now.1 was.is) now.2 in
        let used = ((shape.blocks_shaped h b is).channels e.port e.channel k there).below p.sequence d at_ in
        elim (grows.sending.stays p.sequence used) [
          | inl same ↦ some_is (same ∙ at_) s.settles.committed
          | inr none ↦ absurd (cc (none, s.settles.committed))
        ]

    pub now_timed_out : Stands v e (after_timeout p.sequence m) → WasTimedOut v e p.sequence
    now_timed_out now =
        let seen = receiver_seen in
        let peer = seen.peer in
        let on = peers_on e peer.other grows (peers_of w e m was peer) in
        let mine = stands_same e (after_timeout p.sequence m) on.peers.mine now on.peers.here in
        let shaped = shape_of w inv e m was in
        let later_height : s.height ≤ working_height on.peers.there.chain = (let a = seen.below in let b = on.their_chain_grows.height in omega arith) in
        let later_time : s.sees.block.time ≤ on.peers.there.chain.time = (let a = seen.earlier in let b = on.their_chain_grows.time in omega arith) in
        record {
          other = peer.other;
          peers = on.peers;
          c = commitment_of p;
          gone = subst (IsGone p.sequence) mine (gone_after_timeout p.sequence m shaped (shaped.below p.sequence (commitment_of p) s.settles.committed));
          blocks = λ h b is k there d at_. elim (on.our_chain_grows.blocks h b is) [
            | inl old ↦ block_commits h b old k there d at_
            | inr new ↦ (
                let same : m ≡ k = some_is was.is (ap (λ (x : Records). channel_at x.core e.port e.channel) (sym new.1) ∙ there) in
                some_is at_ (ap (λ (x : Channel). at nat_cmp p.sequence x.commitments) (sym same) ∙ s.settles.committed)
                )
          ];
          over = elim (s.sees.had.1) [
            | inl late ↦ inr (over_later (commitment_of p) s.height s.sees.block.time (working_height on.peers.there.chain) on.peers.there.chain.time later_height later_time late)
            | inr closed ↦ (
                let there : channel_at s.sees.block.records.core p.destination_port p.destination_channel ≡ Some closed.0 =
                subst (λ i. channel_at s.sees.block.records.core i p.destination_channel ≡ Some closed.0) (sym peer.names_them.port ∙ sym seen.port_is) closed.1 in
                let z : rank closed.0.end.state ≡ 2 = ap (λ (x : ChannelEnd). rank x.state) closed.2 in
                inl (closed_later closed.0 on.peers.theirs (ChannelGrows-trans (seen.grows closed.0 there) on.theirs_grow) z)
                )
          ];
        }

    -- its receiver hadn't received it
    pub not_after_receipt : WasReceived w receiver_seen.peer.other p.sequence → ⊥
    not_after_receipt x =
        let seen = receiver_seen in
        let peer = seen.peer in
        let g : End = peer.other in
        let same : x.other ≡ e = one_peer_only w g x.other e x.peers (peers_flip e g (peers_of w e m was peer)) in
        let ours = stands_alike x.other e x.peers.theirs m same x.peers.there was in
        let c_is : commitment_of p ≡ x.c = x.committed (commitment_of p)
        (ap (λ (k : Channel). at nat_cmp p.sequence k.commitments) ours.1 ∙ s.settles.committed) in
        let theirs = some_is x.peers.here.there peer.there.there in
        elim (x.blocks s.height s.sees.block (subst (λ (c : MachineChain). block_of s.height c.committed ≡ Some s.sees.block) (sym theirs) seen.stood)) [
          | inl had ↦ (
              let there : channel_at s.sees.block.records.core p.destination_port p.destination_channel ≡ Some had.0 =
              subst (λ i. channel_at s.sees.block.records.core i p.destination_channel ≡ Some had.0) (sym seen.port_is)
              (subst (λ i. channel_at s.sees.block.records.core g.port i ≡ Some had.0) (sym seen.channel_is) had.1) in
              let order : had.0.end.order ≡ m.end.order = sym (seen.grows had.0 there).end.order ∙ peer.order in
              absurd (cc (had.2, s.sees.had.0 had.0 there (ap (λ o. same_order o Ordered) order)))
              )
          | inr early ↦ elim (s.sees.had.1) [
            | inl late ↦ absurd (cc (early.0, subst (λ c. is_timed_out c s.height s.sees.block.time ≡ true) c_is late))
            | inr closed ↦ (
                let there : channel_at s.sees.block.records.core g.port g.channel ≡ Some closed.0 =
                subst (λ i. channel_at s.sees.block.records.core i g.channel ≡ Some closed.0) (sym peer.names_them.port)
                (subst (λ i. channel_at s.sees.block.records.core m.end.peer_port i ≡ Some closed.0) seen.channel_is closed.1) in
                let two : rank closed.0.end.state ≡ 2 = ap (λ (x : ChannelEnd). rank x.state) closed.2 in
                let low = early.1 closed.0 there in
                absurd (omega arith)
                )
          ]
        ]
