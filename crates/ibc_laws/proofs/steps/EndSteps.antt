-- What is true of each end of a channel on its own, and that each labelled step of an end keeps it and lets
-- the end go on as it may.
use Rattle.std.proofs.Common.{◌≡◌, ℕ, ◌+◌, ◌≤◌, ◌<◌, Bool, true, false, refl, ap, sym, ◌∙◌, subst, Option, Some, None, ◌⊎◌, inl, inr, arith, nat_cmp, le_refl, if◌then◌else◌, ltb-true, lt-ltb, ltb-false, ◌==◌, ◌&&◌, nat_lt, eqb-true}
use Rattle.std.specs.Cmp.{nat_cmp_total}
use Rattle.ibc_ids.specs.Texts.{Text}
use Rattle.ibc_ids.specs.Maps.{at, with, without}
use Rattle.ibc_wire.specs.declared.packet.Packet.{Packet}
use Rattle.ibc_wire.specs.declared.records.ChannelState.{ChannelState}
use Rattle.ibc_wire.specs.declared.records.ChannelState.TheVariants as chan
use Rattle.ibc_wire.specs.declared.records.ChannelEnd.{ChannelEnd}
use Rattle.ibc_machine.specs.chain.Records.{Core, Channel, Commitment, is_one_of, with_number}
use Rattle.ibc_machine.specs.ics24.Evidence.{Host}
use Rattle.ibc_machine.specs.ics04.Channels.{in_state}
use Rattle.ibc_machine.specs.ics04.Packets.{is_ordered, has_received, after_send, after_receive, without_commitment}
use Rattle.ibc_machine.specs.chain.Machine.{World}
use Rattle.ibc_machine.proofs.FiniteMaps.{by_number, at-with_split, found_in_with}
use Rattle.ibc_machine.proofs.SortedMaps.{Sorted, Sorted-with, Sorted-without, at-without_same, at-without_other, added_kept, added_there}
use Rattle.ibc_laws.proofs.steps.Told.{Told}
use Rattle.ibc_laws.proofs.steps.CoreSteps.{rank, ChannelStep, answers, follows, closes, sends, receives, acknowledges, times_out, Receives}
use Rattle.ibc_laws.proofs.steps.Growth.{EndGrows-refl, SendingGrows, SendingGrows-refl, ReceivingGrows-same, ChannelGrows}

-- an end in INIT has no peer yet, and in any other state it has one
pub record IsNamed (end : ChannelEnd) : Type 0 where
  pub unnamed : end.state ≡ chan.Init → end.peer_channel ≡ None
  pub named : (end.state ≡ chan.Init → ⊥) → (p : Text) × (end.peer_channel ≡ Some p)

pub record IsShaped (m : Channel) : Type 0 where
  pub peer : IsNamed m.end
  -- what was acknowledged was received
  pub acks_received : (k : ℕ) (ack : Text) → at nat_cmp k m.acks ≡ Some ack → has_received m k ≡ true
  -- commitments stand in order, below the next sequence
  pub sorted : Sorted nat_cmp m.commitments
  pub below : (k : ℕ) (c : Commitment) → at nat_cmp k m.commitments ≡ Some c → k < m.next_send

-- ---- the state and the peer's name alone change

abbrev reached : ChannelState → Option Text → Channel → Channel
reached state peer m = record m { end = record m.end { state = state; peer_channel = peer } }

module _ (state : ChannelState) (peer : Option Text) (m : Channel) where
  grows-reached : ((p : Text) → m.end.peer_channel ≡ Some p → peer ≡ Some p) → rank m.end.state ≤ rank state
      → ChannelGrows m (reached state peer m)
  grows-reached named ranks = record {
    end = record { order = refl; peer_port = refl; connection = refl; version = refl; named = named; ranks = ranks };
    sending = SendingGrows-refl m.next_send m.commitments;
    receiving = ReceivingGrows-same m (reached state peer m) refl refl refl;
  }

  shaped-reached : (state ≡ chan.Init → ⊥) → (p : Text) → peer ≡ Some p → IsShaped m → IsShaped (reached state peer m)
  shaped-reached not_init p named h = record {
    peer = record { unnamed = λ e. absurd (not_init e); named = λ f. (p, named) };
    acks_received = h.acks_received;
    sorted = h.sorted;
    below = h.below;
  }

pub rank_below_closed : (s : ChannelState) → rank s ≤ 2
rank_below_closed chan.Init = omega arith
rank_below_closed chan.TryOpen = omega arith
rank_below_closed chan.Open = omega arith
rank_below_closed chan.Closed = omega arith

-- ---- sending

grows-sent : (c : Commitment) (m : Channel) → ChannelGrows m (after_send c m)
grows-sent c m = record {
  end = EndGrows-refl m.end;
  receiving = ReceivingGrows-same m (after_send c m) refl refl refl;
  sending = record {
    counts = omega arith;
    stays = λ k lt. elim (at-with_split by_number m.next_send k c m.commitments) [
      | inl h ↦ (let same : k ≡ m.next_send = h.0 in absurd (omega arith))
      | inr h ↦ inl h.1
    ];
  };
}

shaped-sent : (c : Commitment) (m : Channel) → IsShaped m → IsShaped (after_send c m)
shaped-sent c m h = record {
  peer = h.peer;
  acks_received = h.acks_received;
  sorted = Sorted-with nat_cmp_total by_number m.next_send c m.commitments h.sorted;
  below = λ k d e. elim (found_in_with by_number m.next_send k c d m.commitments e) [
    | inl f ↦ (let same : k ≡ m.next_send = f.0 in omega arith)
    | inr f ↦ (let lt = h.below k d f in omega arith)
  ];
}

-- ---- receiving, by the order of the channel

abbrev pub taken : Bool → ℕ → Text → Channel → Channel
taken b n ack m =
    let acked : Channel = record m { acks = with nat_cmp n ack m.acks } in
    if b then record acked { next_recv = m.next_recv + 1 } else record acked { receipts = with_number n m.receipts }

abbrev was_taken : Bool → Channel → ℕ → Bool
was_taken b m n = if b then nat_lt n m.next_recv else is_one_of m.receipts n

-- what was received stays, and n is received now
received_after : (n : ℕ) (ack : Text) (m : Channel) (b : Bool) → (b ≡ true → n ≡ m.next_recv) → (k : ℕ)
    → (k ≡ n) ⊎ (was_taken b m k ≡ true) → was_taken b (taken b n ack m) k ≡ true
received_after n ack m true next k (inl e) =
    let a : n ≡ m.next_recv = next refl in lt-ltb k (m.next_recv + 1) (omega arith)
received_after n ack m true next k (inr e) =
    let a : k < m.next_recv = ltb-true k m.next_recv e in lt-ltb k (m.next_recv + 1) (omega arith)
received_after n ack m false next k (inl e) =
    subst (λ x. is_one_of (with_number n m.receipts) x ≡ true) (sym e) (added_there n m.receipts)
received_after n ack m false next k (inr e) = added_kept n k m.receipts e

-- an ordered end takes the sequence that it waits for
pub the_next : (m : Channel) (n : ℕ) → has_received m n ≡ false → (is_ordered m && nat_lt m.next_recv n) ≡ false
    → is_ordered m ≡ true → n ≡ m.next_recv
the_next m n fresh in_order is =
    let low = ltb-false n m.next_recv (subst (λ (b : Bool). was_taken b m n ≡ false) is fresh) in
    let high = ltb-false m.next_recv n (subst (λ (b : Bool). (b && nat_lt m.next_recv n) ≡ false) is in_order) in
    omega arith

-- an acknowledgement is the one written now, or stood before
pub acks_of_receive : (n : ℕ) (ack : Text) (m : Channel) (k : ℕ) (a : Text) → at nat_cmp k (after_receive n ack m).acks ≡ Some a
    → ((k ≡ n) × (ack ≡ a)) ⊎ (at nat_cmp k m.acks ≡ Some a)
acks_of_receive n ack m k a e = go (is_ordered m) e
  where
    go : (b : Bool) → at nat_cmp k (taken b n ack m).acks ≡ Some a → ((k ≡ n) × (ack ≡ a)) ⊎ (at nat_cmp k m.acks ≡ Some a)
    go true e = found_in_with by_number n k ack a m.acks e
    go false e = found_in_with by_number n k ack a m.acks e

module _ (n : ℕ) (ack : Text) (m : Channel) (next : is_ordered m ≡ true → n ≡ m.next_recv) where
  pub received_now : (k : ℕ) → (k ≡ n) ⊎ (has_received m k ≡ true) → has_received (after_receive n ack m) k ≡ true
  received_now k was = go (is_ordered m) refl was
    where
      go : (b : Bool) → is_ordered m ≡ b → (k ≡ n) ⊎ (was_taken b m k ≡ true) → has_received (taken b n ack m) k ≡ true
      go true is was = subst (λ b. was_taken b (taken true n ack m) k ≡ true) (sym is) (received_after n ack m true (λ t. next is) k was)
      go false is was = subst (λ b. was_taken b (taken false n ack m) k ≡ true) (sym is) (received_after n ack m false (λ t. next (is ∙ t)) k was)

  grows-received : IsShaped m → has_received m n ≡ false → ChannelGrows m (after_receive n ack m)
  grows-received h fresh = go (is_ordered m)
    where
      old_ack : (k : ℕ) (a : Text) → at nat_cmp k m.acks ≡ Some a → at nat_cmp k (with nat_cmp n ack m.acks) ≡ Some a
      old_ack k a e = elim (at-with_split by_number n k ack m.acks) [
        | inl f ↦ absurd (cc (h.acks_received k a e, fresh, ap (λ x. has_received m x) f.0))
        | inr f ↦ f.1 ∙ e
      ]

      go : (b : Bool) → ChannelGrows m (taken b n ack m)
      go true = record {
        end = EndGrows-refl m.end;
        sending = SendingGrows-refl m.next_send m.commitments;
        receiving = record { counts = omega arith; receipts = λ k e. e; acks = old_ack };
      }
      go false = record {
        end = EndGrows-refl m.end;
        sending = SendingGrows-refl m.next_send m.commitments;
        receiving = record { counts = le_refl _; receipts = λ k e. added_kept n k m.receipts e; acks = old_ack };
      }

  acks_received-now : IsShaped m → (k : ℕ) (a : Text) → at nat_cmp k (with nat_cmp n ack m.acks) ≡ Some a
      → has_received (after_receive n ack m) k ≡ true
  acks_received-now h k a e = received_now k (elim (found_in_with by_number n k ack a m.acks e) [
    | inl f ↦ inl f.0
    | inr f ↦ inr (h.acks_received k a f)
  ])

  shaped-received : IsShaped m → IsShaped (after_receive n ack m)
  shaped-received h = go (is_ordered m) (acks_received-now h)
    where
      go : (b : Bool) → ((k : ℕ) (a : Text) → at nat_cmp k (with nat_cmp n ack m.acks) ≡ Some a → has_received (taken b n ack m) k ≡ true)
          → IsShaped (taken b n ack m)
      go true acks = record { peer = h.peer; sorted = h.sorted; below = h.below; acks_received = acks }
      go false acks = record { peer = h.peer; sorted = h.sorted; below = h.below; acks_received = acks }

-- ---- a commitment goes

abbrev pub acked : ℕ → Channel → Bool → Channel
acked n m b =
    let settled : Channel = without_commitment n m in
    if b then record settled { next_ack = m.next_ack + 1 } else settled

abbrev pub over : ℕ → Channel → Bool → Channel
over n m b = let settled : Channel = without_commitment n m in if b then in_state chan.Closed settled else settled

module _ (n : ℕ) (m : Channel) (h : IsShaped m) where
  pub gone : (k : ℕ) → (at nat_cmp k (without nat_cmp n m.commitments) ≡ at nat_cmp k m.commitments)
      ⊎ (at nat_cmp k (without nat_cmp n m.commitments) ≡ None)
  gone k = go (k == n) refl
    where
      go : (b : Bool) → (k == n) ≡ b → (at nat_cmp k (without nat_cmp n m.commitments) ≡ at nat_cmp k m.commitments)
          ⊎ (at nat_cmp k (without nat_cmp n m.commitments) ≡ None)
      go true is = inr (subst (λ x. at nat_cmp x (without nat_cmp n m.commitments) ≡ None) (sym (eqb-true k n is))
          (at-without_same nat_cmp_total by_number n m.commitments h.sorted))
      go false is = inl (at-without_other nat_cmp_total by_number n k m.commitments
          (λ e. absurd (let same : k ≡ n = e in grind (arith, is))))

  pub gone_now : at nat_cmp n (without nat_cmp n m.commitments) ≡ None
  gone_now = at-without_same nat_cmp_total by_number n m.commitments h.sorted

  below-settled : (k : ℕ) (c : Commitment) → at nat_cmp k (without nat_cmp n m.commitments) ≡ Some c → k < m.next_send
  below-settled k c e = elim (gone k) [
    | inl same ↦ h.below k c (sym same ∙ e)
    | inr none ↦ absurd (cc (none, e))
  ]

  sorted-settled : Sorted nat_cmp (without nat_cmp n m.commitments)
  sorted-settled = Sorted-without nat_cmp_total by_number n m.commitments h.sorted

  sending-settled : SendingGrows m.next_send m.commitments m.next_send (without nat_cmp n m.commitments)
  sending-settled = record { counts = le_refl _; stays = λ k lt. gone k }

  grows-acked : (b : Bool) → ChannelGrows m (acked n m b)
  grows-acked true = record { end = EndGrows-refl m.end; sending = sending-settled; receiving = ReceivingGrows-same m (acked n m true) refl refl refl }
  grows-acked false = record { end = EndGrows-refl m.end; sending = sending-settled; receiving = ReceivingGrows-same m (acked n m false) refl refl refl }

  shaped-acked : (b : Bool) → IsShaped (acked n m b)
  shaped-acked true = record { peer = h.peer; acks_received = h.acks_received; sorted = sorted-settled; below = below-settled }
  shaped-acked false = record { peer = h.peer; acks_received = h.acks_received; sorted = sorted-settled; below = below-settled }

  grows-over : (b : Bool) → ChannelGrows m (over n m b)
  grows-over true = record {
    end = record { order = refl; peer_port = refl; connection = refl; version = refl; named = λ p e. e; ranks = rank_below_closed m.end.state };
    sending = sending-settled;
    receiving = ReceivingGrows-same m (over n m true) refl refl refl;
  }
  grows-over false = record { end = EndGrows-refl m.end; sending = sending-settled; receiving = ReceivingGrows-same m (over n m false) refl refl refl }

  shaped-over : (p : Text) → m.end.peer_channel ≡ Some p → (b : Bool) → IsShaped (over n m b)
  shaped-over p named true = record {
    peer = record { unnamed = λ e. absurd (cc e); named = λ f. (p, named) };
    acks_received = h.acks_received;
    sorted = sorted-settled;
    below = below-settled;
  }
  shaped-over p named false = record { peer = h.peer; acks_received = h.acks_received; sorted = sorted-settled; below = below-settled }

-- ---- by the labels

pub not_init : (s : ChannelState) → 1 ≤ rank s → s ≡ chan.Init → ⊥
not_init s ranks i = let z : rank s ≡ 0 = ap rank i in omega arith

pub open_rank : (s : ChannelState) → s ≡ chan.Open → rank s ≡ 1
open_rank s e = ap rank e

module _ (w : World) (host : Host) (core : Core) (port id : Text) (m : Channel) (h : IsShaped m) where
  next_of : (p : Packet) → Receives w host core port id m p → is_ordered m ≡ true → p.sequence ≡ m.next_recv
  next_of p r = the_next m p.sequence r.fresh r.in_order

  pub end_grows : (told : Told) (n : Channel) → ChannelStep w host core port id m told n → ChannelGrows m n
  end_grows told n (answers peer s) = grows-reached chan.Open (Some peer) m
      (λ p e. absurd (cc (h.peer.unnamed s.state, e))) (let z : rank m.end.state ≡ 0 = ap rank s.state in omega arith)
  end_grows told n (follows state s) = grows-reached state m.end.peer_channel m (λ p e. e) s.higher
  end_grows told n (closes s may) = grows-reached chan.Closed m.end.peer_channel m (λ p e. e) (rank_below_closed m.end.state)
  end_grows told n (sends c s) = grows-sent c m
  end_grows told n (receives p ack r) = grows-received p.sequence ack m (next_of p r) h r.fresh
  end_grows told n (acknowledges p s) = grows-acked p.sequence m h (is_ordered m)
  end_grows told n (times_out p s) = grows-over p.sequence m h (is_ordered m)

  pub end_shaped : (told : Told) (n : Channel) → ChannelStep w host core port id m told n → IsShaped n
  end_shaped told n (answers peer s) = shaped-reached chan.Open (Some peer) m (λ e. absurd (cc e)) peer refl h
  end_shaped told n (follows state s) =
      let p = h.peer.named s.answered in shaped-reached state m.end.peer_channel m s.not_init p.0 p.1 h
  end_shaped told n (closes s may) =
      let p = h.peer.named (λ i. absurd (cc (s, i))) in
      shaped-reached chan.Closed m.end.peer_channel m (λ e. absurd (cc e)) p.0 p.1 h
  end_shaped told n (sends c s) = shaped-sent c m h
  end_shaped told n (receives p ack r) = shaped-received p.sequence ack m (next_of p r) h
  end_shaped told n (acknowledges p s) = shaped-acked p.sequence m h (is_ordered m)
  end_shaped told n (times_out p s) =
      let q = h.peer.named (not_init m.end.state s.settles.settled) in
      shaped-over p.sequence m h q.0 q.1 (is_ordered m)
