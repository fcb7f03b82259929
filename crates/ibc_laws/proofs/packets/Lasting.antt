-- What lasts of a packet that was received, or that timed out: facts on its commitment and on the blocks of
-- either end, which every step keeps.
use Rattle.std.proofs.Common.{◌≡◌, ℕ, ◌≤◌, ◌<◌, Bool, true, false, refl, ap, sym, ◌∙◌, Some, ◌⊎◌, inl, inr, arith, nat_cmp, not, ◌==◌, nat_le, leb-true, le-leb}
use Rattle.ibc_ids.specs.Maps.{at}
use Rattle.ibc_machine.specs.chain.Records.{Records, Block, Channel, Commitment, channel_at}
use Rattle.ibc_machine.specs.chain.Handlers.{working_height}
use Rattle.ibc_machine.specs.ics04.Packets.{has_received, is_reached, is_timed_out}
use Rattle.ibc_machine.specs.chain.Machine.{World, block_of}
use Rattle.ibc_machine.specs.promises.Histories.{End}
use Rattle.ibc_laws.proofs.basics.PassedTests.{or_left, or_right, both, either, and_true}
use Rattle.ibc_laws.proofs.basics.ListPlaces.{some_is}
use Rattle.ibc_laws.proofs.steps.CoreSteps.{rank}
use Rattle.ibc_laws.proofs.steps.Growth.{ChannelGrows}
use Rattle.ibc_laws.proofs.steps.EndSteps.{rank_below_closed}
use Rattle.ibc_laws.proofs.packets.ReceivedOnce.{received_stays}
use Rattle.ibc_laws.proofs.packets.SettledOnce.{IsGone, IsGone-grows}
use Rattle.ibc_laws.proofs.steps.WorldGrowth.{WorldGrows}
use Rattle.ibc_laws.proofs.peers.Peers.{Peers, peers_on}

-- ---- a timeout that is over stays over

reached_later : (limit a b : ℕ) → a ≤ b → is_reached limit a ≡ true → is_reached limit b ≡ true
reached_later limit a b later e =
    let parts = both (not (limit == 0)) (nat_le limit a) e in
    let low : limit ≤ a = leb-true limit a parts.1 in
    and_true parts.0 (le-leb limit b (omega arith))

pub over_later : (c : Commitment) (h t h' t' : ℕ) → h ≤ h' → t ≤ t' → is_timed_out c h t ≡ true → is_timed_out c h' t' ≡ true
over_later c h t h' t' height time e = elim (either (is_reached c.timeout_height h) (is_reached c.timeout_time t) e) [
  | inl x ↦ or_left (is_reached c.timeout_height h') (is_reached c.timeout_time t') (reached_later c.timeout_height h h' height x)
  | inr x ↦ or_right (is_reached c.timeout_height h') (is_reached c.timeout_time t') (reached_later c.timeout_time t t' time x)
]

-- and one that isn't over wasn't over earlier
pub not_over_before : (c : Commitment) (h t h' t' : ℕ) → h ≤ h' → t ≤ t' → is_timed_out c h' t' ≡ false → is_timed_out c h t ≡ false
not_over_before c h t h' t' height time e = go (is_timed_out c h t) refl
  where
    go : (b : Bool) → is_timed_out c h t ≡ b → is_timed_out c h t ≡ false
    go true is = absurd (cc (over_later c h t h' t' height time is, e))
    go false is = is

-- ---- received

-- the receipt is in the block, or the block is before the packet's timeouts and the end isn't CLOSED in it
abbrev pub BlockOfReceiver : End → ℕ → Commitment → ℕ → Block → Type 0
BlockOfReceiver f n c h b =
    ((m : Channel) × (channel_at b.records.core f.port f.channel ≡ Some m) × (has_received m n ≡ true))
    ⊎ ((is_timed_out c h b.time ≡ false)
    × ((m : Channel) → channel_at b.records.core f.port f.channel ≡ Some m → rank m.end.state ≤ 1))

-- a packet that the end f received: its peer committed to it, or did once
pub record WasReceived (w : World) (f : End) (n : ℕ) : Type 0 where
  pub other : End
  pub peers : Peers w f other
  pub received : has_received peers.mine n ≡ true
  pub c : Commitment
  pub used : n < peers.theirs.next_send
  pub committed : (d : Commitment) → at nat_cmp n peers.theirs.commitments ≡ Some d → d ≡ c
  pub blocks : (h : ℕ) (b : Block) → block_of h peers.here.chain.committed ≡ Some b → BlockOfReceiver f n c h b

pub committed_later : (m k : Channel) (n : ℕ) (c : Commitment) → ChannelGrows m k → n < m.next_send
    → ((d : Commitment) → at nat_cmp n m.commitments ≡ Some d → d ≡ c)
    → (d : Commitment) → at nat_cmp n k.commitments ≡ Some d → d ≡ c
committed_later m k n c g used was d is = elim (g.sending.stays n used) [
  | inl same ↦ was d (sym same ∙ is)
  | inr none ↦ absurd (cc (none, is))
]

pub was_received_on : {w v : World} (f : End) (n : ℕ) → WorldGrows w v → WasReceived w f n → WasReceived v f n
was_received_on f n grows x =
    let p = x.peers in
    let now = peers_on f x.other grows p in
    record {
      other = x.other;
      peers = now.peers;
      received = received_stays p.mine now.peers.mine n now.mine_grows x.received;
      c = x.c;
      used = let a = x.used in let b = now.theirs_grow.sending.counts in omega arith;
      committed = committed_later p.theirs now.peers.theirs n x.c now.theirs_grow x.used x.committed;
      blocks = λ h b is. elim (now.our_chain_grows.blocks h b is) [
        | inl old ↦ x.blocks h b old
        | inr new ↦ inl (p.mine, ap (λ (r : Records). channel_at r.core f.port f.channel) new.1 ∙ p.here.is, x.received)
      ];
    }

-- ---- timed out

-- a packet of the end e that timed out: its peer is CLOSED, or past the packet's timeouts
pub record WasTimedOut (w : World) (e : End) (n : ℕ) : Type 0 where
  pub other : End
  pub peers : Peers w e other
  pub c : Commitment
  pub gone : IsGone n peers.mine
  pub blocks : (h : ℕ) (b : Block) → block_of h peers.here.chain.committed ≡ Some b → (m : Channel)
      → channel_at b.records.core e.port e.channel ≡ Some m → (d : Commitment) → at nat_cmp n m.commitments ≡ Some d → d ≡ c
  pub over : (rank peers.theirs.end.state ≡ 2)
      ⊎ (is_timed_out c (working_height peers.there.chain) peers.there.chain.time ≡ true)

pub closed_later : (m k : Channel) → ChannelGrows m k → rank m.end.state ≡ 2 → rank k.end.state ≡ 2
closed_later m k g e = let up = g.end.ranks in let low = rank_below_closed k.end.state in omega arith

pub was_timed_out_on : {w v : World} (e : End) (n : ℕ) → WorldGrows w v → WasTimedOut w e n → WasTimedOut v e n
was_timed_out_on e n grows x =
    let p = x.peers in
    let now = peers_on e x.other grows p in
    record {
      other = x.other;
      peers = now.peers;
      c = x.c;
      gone = IsGone-grows n p.mine now.peers.mine now.mine_grows x.gone;
      blocks = λ h b is m there d at_. elim (now.our_chain_grows.blocks h b is) [
        | inl old ↦ x.blocks h b old m there d at_
        | inr new ↦ (
            let found = ap (λ (r : Records). channel_at r.core e.port e.channel) (sym new.1) ∙ there in
            let same : p.mine ≡ m = some_is p.here.is found in
            absurd (cc (x.gone.gone, ap (λ (k : Channel). at nat_cmp n k.commitments) same, at_))
            )
      ];
      over = elim x.over [
        | inl closed ↦ inl (closed_later p.theirs now.peers.theirs now.theirs_grow closed)
        | inr late ↦ inr (over_later x.c (working_height p.there.chain) p.there.chain.time (working_height now.peers.there.chain) now.peers.there.chain.time
            now.their_chain_grows.height now.their_chain_grows.time late)
      ];
    }
