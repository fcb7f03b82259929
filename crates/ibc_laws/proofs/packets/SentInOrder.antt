-- What an end sent, in order, is its commitments by number: the n-th packet has the sequence n, and each
-- commitment that stands, now or in a block, is that of the packet of its number.
use Rattle.std.proofs.Common.{◌≡◌, ℕ, zero, suc, ◌+◌, refl, ap, sym, ◌∙◌, subst, List, [], ◌∷◌, ◌++◌, length, Some, inl, inr, arith, nat_cmp, slice_get}
use Rattle.ibc_ids.specs.Maps.{at}
use Rattle.ibc_wire.specs.declared.packet.Packet.{Packet}
use Rattle.ibc_wire.specs.declared.records.ChannelEnd.{ChannelEnd}
use Rattle.ibc_machine.specs.chain.Records.{Records, Block, MachineChain, Channel, Commitment, channel_at}
use Rattle.ibc_machine.specs.ics04.Channels.{new_channel}
use Rattle.ibc_machine.specs.chain.Machine.{World, block_of}
use Rattle.ibc_machine.specs.promises.Histories.{Happened, End, packet_from, sent_packets}
use Rattle.ibc_machine.proofs.FiniteMaps.{by_number, found_in_with}
use Rattle.ibc_laws.proofs.steps.MachineSteps.{Stepped}
use Rattle.ibc_laws.proofs.peers.Invariant.{Inv, stepped_grows, stepped_back}
use Rattle.ibc_laws.proofs.peers.Peers.{Stands, stands_same, stands_on}
use Rattle.ibc_laws.proofs.steps.AtEnds.{at_end}
use Rattle.ibc_laws.proofs.steps.EndKeeps.{SameSending, StoodBefore, was_there, is_new}
use Rattle.ibc_laws.proofs.steps.Happenings.{Sending, sent_nothing, sent_one, sending}

-- the entry of this number, from 1
pub record IsNth {A : Type 0} (xs : List A) (n : ℕ) (x : A) : Type 0 where
  pub index : ℕ
  pub number : n ≡ suc index
  pub got : slice_get xs index ≡ Some x

pub got_in_longer : {A : Type 0} (xs ys : List A) (i : ℕ) (x : A) → slice_get xs i ≡ Some x → slice_get (xs ++ ys) i ≡ Some x
got_in_longer [] ys i x e = absurd (cc e)
got_in_longer (y ∷ xs) ys zero x e = e
got_in_longer (y ∷ xs) ys (suc i) x e = got_in_longer xs ys i x e

IsNth-longer : {A : Type 0} (xs ys : List A) (n : ℕ) (x : A) → IsNth xs n x → IsNth (xs ++ ys) n x
IsNth-longer xs ys n x h = record { index = h.index; number = h.number; got = got_in_longer xs ys h.index x h.got }

got_last : {A : Type 0} (xs : List A) (x : A) → slice_get (xs ++ x ∷ []) (length xs) ≡ Some x
got_last [] x = refl
got_last (y ∷ xs) x = got_last xs x

pub longer_by_one : {A : Type 0} (xs : List A) (x : A) → length (xs ++ x ∷ []) ≡ length xs + 1
longer_by_one [] x = omega arith
longer_by_one (y ∷ xs) x = let h = longer_by_one xs x in omega arith

IsNth-last : {A : Type 0} (xs : List A) (x : A) (n : ℕ) → length xs + 1 ≡ n → IsNth (xs ++ x ∷ []) n x
IsNth-last xs x n is = record { index = length xs; number = omega arith; got = got_last xs x }

-- each commitment of the channel is that of the packet of its number, whoever the peer is
abbrev pub AreSent : List Happened → End → Channel → Type 0
AreSent hs e m = (n : ℕ) (c : Commitment) → at nat_cmp n m.commitments ≡ Some c → (mine : Channel)
    → IsNth (sent_packets e mine hs) n (packet_from e mine n c)

pub record SentInOrder (hs : List Happened) (w : World) (e : End) : Type 0 where
  pub none : ((m : Channel) → Stands w e m → ⊥) → (mine : Channel) → sent_packets e mine hs ≡ []
  pub counts : (m : Channel) → Stands w e m → (mine : Channel) → length (sent_packets e mine hs) + 1 ≡ m.next_send
  pub now : (m : Channel) → Stands w e m → AreSent hs e m
  pub blocks : (c : MachineChain) → slice_get w e.chain ≡ Some c → (h : ℕ) (b : Block) → block_of h c.committed ≡ Some b
      → (m : Channel) → channel_at b.records.core e.port e.channel ≡ Some m → AreSent hs e m

module _ (chains : ℕ) (w : World) (hs : List Happened) (h : Happened) (v : World) (inv : Inv w) (step : Stepped chains w h v) (e : End) (was_sent : SentInOrder hs w e) where
  -- the history may have grown at its end
  grown : (m : Channel) → AreSent hs e m → Sending chains w hs h v e → AreSent (hs ++ h ∷ []) e m
  grown m are (sent_nothing same before) n c is mine =
      subst (λ ps. IsNth ps n (packet_from e mine n c)) (sym (same mine)) (are n c is mine)
  grown m are (sent_one d k stood now more) n c is mine =
      subst (λ ps. IsNth ps n (packet_from e mine n c)) (sym (more mine))
      (IsNth-longer (sent_packets e mine hs) _ n (packet_from e mine n c) (are n c is mine))

  the_sending : Sending chains w hs h v e
  the_sending = sending chains w hs h v e inv (at_end chains w h v inv step e)

  counts_after : Sending chains w hs h v e → (m : Channel) → Stands v e m → (mine : Channel)
      → length (sent_packets e mine (hs ++ h ∷ [])) + 1 ≡ m.next_send
  counts_after (sent_nothing same before) m stands mine = go (before m stands)
    where
      go : StoodBefore w e SameSending m → length (sent_packets e mine (hs ++ h ∷ [])) + 1 ≡ m.next_send
      go (was_there k stood kept) = ap (λ ps. length ps + 1) (same mine) ∙ was_sent.counts k stood mine ∙ sym kept.next
      go (is_new none end new) = ap (λ (ps : List Packet). length ps + 1) (same mine ∙ was_sent.none none mine) ∙ ap (λ (x : Channel). x.next_send) new
  counts_after (sent_one c k stood now more) m stands mine =
      let before : length (sent_packets e mine hs) + 1 ≡ k.next_send = was_sent.counts k stood mine in
      let one = longer_by_one (sent_packets e mine hs) (packet_from e mine k.next_send c) in
      ap (λ (ps : List Packet). length ps + 1) (more mine) ∙ ap (λ n. n + 1) (one ∙ before)
      ∙ ap (λ (x : Channel). x.next_send) (stands_same e _ m now stands)

  now_after : Sending chains w hs h v e → (m : Channel) → Stands v e m → AreSent (hs ++ h ∷ []) e m
  now_after (sent_nothing same before) m stands = go (before m stands)
    where
      no_commitment : (end : ChannelEnd) (n : ℕ) (c : Commitment) → at nat_cmp n (new_channel end).commitments ≡ Some c → ⊥
      no_commitment end n c e = absurd (cc e)

      go : StoodBefore w e SameSending m → AreSent (hs ++ h ∷ []) e m
      go (was_there k stood kept) n c is mine =
          grown k (was_sent.now k stood) (sent_nothing same before) n c (kept.stood n c is) mine
      go (is_new none end new) n c is mine =
          absurd (no_commitment end n c (ap (λ (x : Channel). at nat_cmp n x.commitments) new ∙ is))
  now_after (sent_one c k stood now more) m stands = λ n d is mine.
      let found = ap (λ (x : Channel). at nat_cmp n x.commitments) (stands_same e _ m now stands) ∙ is in
      subst (λ ps. IsNth ps n (packet_from e mine n d)) (sym (more mine))
      (elim (found_in_with by_number k.next_send n c d k.commitments found) [
        | inl new ↦ (
            let last = IsNth-last (sent_packets e mine hs) (packet_from e mine k.next_send c) k.next_send (was_sent.counts k stood mine) in
            subst (λ i. IsNth (sent_packets e mine hs ++ packet_from e mine k.next_send c ∷ []) i (packet_from e mine i d)) (sym new.0)
            (subst (λ x. IsNth (sent_packets e mine hs ++ packet_from e mine k.next_send c ∷ []) k.next_send (packet_from e mine k.next_send x)) new.1 last)
            )
        | inr old ↦ IsNth-longer (sent_packets e mine hs) _ n (packet_from e mine n d) (was_sent.now k stood n d old mine)
      ])

  blocks_after : (d : MachineChain) → slice_get v e.chain ≡ Some d → (n : ℕ) (b : Block) → block_of n d.committed ≡ Some b
      → (m : Channel) → channel_at b.records.core e.port e.channel ≡ Some m → AreSent (hs ++ h ∷ []) e m
  blocks_after d there n b is m at_ =
      let back = stepped_back chains w h v inv step e.chain d there in
      elim (back.2.blocks n b is) [
        | inl old ↦ grown m (was_sent.blocks back.0 back.1 n b old m at_) the_sending
        | inr new ↦ grown m (was_sent.now m (record {
          chain = back.0;
          there = back.1;
          is = ap (λ (r : Records). channel_at r.core e.port e.channel) (sym new.1) ∙ at_;
        })) the_sending
      ]

  none_after : Sending chains w hs h v e → ((m : Channel) → Stands v e m → ⊥) → (mine : Channel) → sent_packets e mine (hs ++ h ∷ []) ≡ []
  none_after (sent_nothing same before) nothing mine =
      same mine ∙ was_sent.none (λ m stood. let on = stands_on e m (stepped_grows chains w h v inv step) stood in nothing on.now on.stands) mine
  none_after (sent_one c k stood now more) nothing mine = absurd (nothing _ now)

  pub sent_in_order_step : SentInOrder (hs ++ h ∷ []) v e
  sent_in_order_step = record {
    none = none_after the_sending;
    counts = counts_after the_sending;
    now = now_after the_sending;
    blocks = blocks_after;
  }
