-- Packets: an accepted message keeps the records typed, and the clients.
use Rattle.std.proofs.Common.{◌≡◌, ℕ, ◌+◌, ◌-◌, ◌<◌, ◌≤◌, ◌^◌, Bool, true, false, cond, ◌&&◌, not, eqb, ◌==◌, nat_lt, refl, sym, ap, ◌∙◌, Some, inl, inr, arith, nat_cmp, eqb-true, lt-ltb}
use Rattle.std.specs.FinMap.{nat_cmp-IsAntisymmetric}
use Rattle.std.proofs.lemmas.Bool.{and_parts, or_cases, false≢true, cases_lt}
use Rattle.ibc_ids.specs.Texts.{Text}
use Rattle.ibc_wire.specs.Spelling.{channel_state_number}
use Rattle.ibc_wire.specs.declared.messages.RecvPacket.{RecvPacket}
use Rattle.ibc_wire.specs.declared.messages.AckPacket.{AckPacket}
use Rattle.ibc_wire.specs.declared.messages.Timeout.{Timeout}
use Rattle.ibc_wire.specs.declared.messages.TimeoutOnClose.{TimeoutOnClose}
use Rattle.ibc_wire.specs.declared.packet.Packet.{Packet}
use Rattle.ibc_wire.specs.declared.records.ChannelState.TheVariants.{Open, Closed}
use Rattle.ibc_machine.specs.declared.reply.Effect.TheVariants as effect
use Rattle.ibc_machine.specs.chain.Records.{Core, Channel, Commitment, channel_at, with_channel, is_one_of}
use Rattle.ibc_machine.specs.chain.Checks.{Checked}
use Rattle.ibc_machine.specs.ics24.Evidence.{Host, Evidence}
use Rattle.ibc_machine.specs.ics04.Channels.{is_in_state, is_established}
use Rattle.ibc_machine.specs.ics04.Packets.{has_form, has_size, is_ordered, after_send, with_sent, after_receive, recv_packet, without_commitment, after_ack, ack_packet, after_timeout, timeout, timeout_on_close}
use Rattle.ibc_machine.proofs.PassedRows.{Gives, gives_ok, gives_bind}
use Rattle.ibc_machine.proofs.PacketChecks.{IsUnsettled, PassedRecv, recv_passed, PassedAck, ack_passed, timeout_passed, timeout_on_close_passed}
use Rattle.ibc_refinement.proofs.Entries.{all_with, all_without, all_added}
use Rattle.ibc_refinement.proofs.Typed.{IsTypedCommitment, IsSequence, HasSequence, IsTypedChannel, IsTyped}
use Rattle.ibc_refinement.proofs.TypedLook.{channel_typed}
use Rattle.ibc_refinement.proofs.TypedMessages.{IsTypedPacket}
use Rattle.ibc_refinement.proofs.FitClaims.{not_init}
use Rattle.ibc_refinement.proofs.KeptTypes.{Kept, KeptBeside, below_next}
use Rattle.ibc_refinement.proofs.KeptChannels.{typed_in_state, changed_typed}

-- ---- what an end becomes

pub send_typed : (c : Commitment) (mine : Channel) → IsTypedChannel mine → c.timeout_height < 2 ^ 64 → c.timeout_time < 2 ^ 64 → mine.next_send + 1 < 2 ^ 64 → IsTypedChannel (after_send c mine)
send_typed c mine typed height time next = record {
  end = typed.end;
  next_send = next;
  next_recv = typed.next_recv;
  next_ack = typed.next_ack;
  commitments = all_with nat_cmp IsTypedCommitment nat_cmp-IsAntisymmetric mine.next_send c mine.commitments (record { sequence = typed.next_send; timeout_height = height; timeout_time = time }) typed.commitments;
  receipts = typed.receipts;
  acks = typed.acks;
}

typed_if : (b : Bool) (x y : Channel) → (b ≡ true → IsTypedChannel x) → (b ≡ false → IsTypedChannel y) → IsTypedChannel (cond b x y)
typed_if true x y h g = h refl
typed_if false x y h g = g refl

receive_typed : (n : ℕ) (ack : Text) (mine : Channel) → IsTypedChannel mine → n < 2 ^ 64 → (is_ordered mine ≡ true → mine.next_recv + 1 < 2 ^ 64) → IsTypedChannel (after_receive n ack mine)
receive_typed n ack mine typed small next =
    let acks = all_with nat_cmp HasSequence nat_cmp-IsAntisymmetric n ack mine.acks small typed.acks in
    typed_if (is_ordered mine) _ _
    (λ ordered. record {
      end = typed.end;
      next_send = typed.next_send;
      next_recv = next ordered;
      next_ack = typed.next_ack;
      commitments = typed.commitments;
      receipts = typed.receipts;
      acks = acks;
    })
    (λ _. record {
      end = typed.end;
      next_send = typed.next_send;
      next_recv = typed.next_recv;
      next_ack = typed.next_ack;
      commitments = typed.commitments;
      receipts = all_added IsSequence n mine.receipts small typed.receipts;
      acks = acks;
    })

settled_typed : (n : ℕ) (mine : Channel) → IsTypedChannel mine → IsTypedChannel (without_commitment n mine)
settled_typed n mine typed = record {
  end = typed.end;
  next_send = typed.next_send;
  next_recv = typed.next_recv;
  next_ack = typed.next_ack;
  commitments = all_without nat_cmp IsTypedCommitment n mine.commitments typed.commitments;
  receipts = typed.receipts;
  acks = typed.acks;
}

ack_typed : (n : ℕ) (mine : Channel) → IsTypedChannel mine → (is_ordered mine ≡ true → mine.next_ack + 1 < 2 ^ 64) → IsTypedChannel (after_ack n mine)
ack_typed n mine typed next =
    let settled = settled_typed n mine typed in
    typed_if (is_ordered mine) _ _
    (λ ordered. record {
      end = typed.end;
      next_send = typed.next_send;
      next_recv = typed.next_recv;
      next_ack = next ordered;
      commitments = settled.commitments;
      receipts = typed.receipts;
      acks = typed.acks;
    })
    (λ _. settled)

timeout_typed : (n : ℕ) (mine : Channel) → IsTypedChannel mine → is_established mine ≡ true → IsTypedChannel (after_timeout n mine)
timeout_typed n mine typed established =
    let settled = settled_typed n mine typed in
    let other : eqb (channel_state_number mine.end.state) 1 ≡ false =
    elim (or_cases (is_in_state Open mine) (is_in_state Closed mine) established) [ inl s ↦ not_init _ 3 refl s | inr s ↦ not_init _ 4 refl s ]
    in
    typed_if (is_ordered mine) _ _ (λ _. typed_in_state Closed (without_commitment n mine) settled other refl) (λ _. settled)

-- ---- what the checks say

not_below : (a b : ℕ) → not (nat_lt a b) ≡ true → b ≤ a
not_below a b h = elim (cases_lt a b) [ inl low ↦ absurd (false≢true (sym (ap not (lt-ltb a b low)) ∙ h)) | inr high ↦ high ]

not_other : (a b : ℕ) → not (not (eqb a b)) ≡ true → a ≡ b
not_other a b h = elim (eqb a b) as (λ e. eqb a b ≡ e → not (not e) ≡ true → a ≡ b) [ true ↦ λ is _. eqb-true a b is | false ↦ λ _ h. absurd (false≢true h) ] refl h

form_below : (p : Packet) → p.sequence < 2 ^ 64 → has_form p ≡ true → p.sequence + 1 < 2 ^ 64
form_below p small form =
    let numbers = (and_parts (not (eqb p.sequence 0) && not (eqb p.sequence (2 ^ 64 - 1))) (has_size p.payload) form).0 in
    below_next p.sequence small (and_parts (not (eqb p.sequence 0)) (not (eqb p.sequence (2 ^ 64 - 1))) numbers).1

module _ (core : Core) (typed : IsTyped core) where
  -- an end that may send, with what it sent
  pub sent_kept : (port name : Text) (mine : Channel) (c : Commitment) → channel_at core port name ≡ Some mine → c.timeout_height < 2 ^ 64 → c.timeout_time < 2 ^ 64
      → not (mine.next_send == 2 ^ 64 - 1) ≡ true → Kept core (with_sent port name mine c core).0 (with_sent port name mine c core).1
  sent_kept port name mine c there height time number =
      let next = below_next mine.next_send (channel_typed core port name mine typed there).value.next_send number in
      record {
        sound = record { typed = changed_typed core typed port name mine (after_send c mine) there (λ t. send_typed c mine t height time next); effect = refl };
        clients = refl;
      }

  timed_out_kept : (p : Packet) (mine : Channel) → IsUnsettled core p mine → is_established mine ≡ true
      → Kept core effect.None (with_channel p.source_port p.source_channel (after_timeout p.sequence mine) core)
  timed_out_kept p mine stands established = record {
    sound = record {
      typed = changed_typed core typed p.source_port p.source_channel mine (after_timeout p.sequence mine) stands.there (λ c. timeout_typed p.sequence mine c established);
      effect = refl;
    };
    clients = refl;
  }

module _ {A : Type 0} (evidence : Evidence) (host : Host) (core : Core) (typed : IsTyped core) (app : A) where
  -- ---- receiving

  -- an ordered end waits for the very packet
  waits_for_it : (m : RecvPacket) (mine : Channel) → PassedRecv evidence host core m mine → m.packet.sequence < 2 ^ 64 → is_ordered mine ≡ true → mine.next_recv + 1 < 2 ^ 64
  waits_for_it m mine passed small ordered =
      let n = m.packet.sequence in
      let below = form_below m.packet small passed.form in
      let least = not_below n mine.next_recv (ap (λ b. not (cond b (nat_lt n mine.next_recv) (is_one_of mine.receipts n))) (sym ordered) ∙ passed.may.fresh) in
      let most = not_below mine.next_recv n (ap (λ b. not (b && nat_lt mine.next_recv n)) (sym ordered) ∙ passed.may.in_order) in
      omega arith

  pub recv_packet_kept : (on_recv : A → Text → Packet → Text × A) (m : RecvPacket) → IsTypedPacket m.packet → Gives (KeptBeside core) (recv_packet on_recv m evidence host core app)
  unfolding recv_packet
  recv_packet_kept on_recv m t =
      gives_bind _ _ λ (mine : Channel) is.
      let p = m.packet in
      let passed = recv_passed evidence host core m mine is in
      let ack = (on_recv app mine.end.version p).0 in
      gives_ok (KeptBeside core) _ (record {
        sound = record {
          typed = changed_typed core typed p.destination_port p.destination_channel mine (after_receive p.sequence ack mine) passed.there
              (λ c. receive_typed p.sequence ack mine c t.sequence (waits_for_it m mine passed t.sequence));
          effect = refl;
        };
        clients = refl;
      })

  -- ---- acknowledgements

  -- an ordered end waits for the very acknowledgement
  is_next : (m : AckPacket) (mine : Channel) → PassedAck evidence core m mine → m.packet.sequence < 2 ^ 64 → is_ordered mine ≡ true → mine.next_ack + 1 < 2 ^ 64
  is_next m mine passed small ordered =
      let n = m.packet.sequence in
      let below = form_below m.packet small passed.form in
      let same = not_other n mine.next_ack (ap (λ b. not (b && not (eqb n mine.next_ack))) (sym ordered) ∙ passed.in_order) in
      omega arith

  pub ack_packet_kept : (on_ack : A → Text → Packet → Text → Checked A) (m : AckPacket) → IsTypedPacket m.packet → Gives (KeptBeside core) (ack_packet on_ack m evidence host core app)
  unfolding ack_packet
  ack_packet_kept on_ack m t =
      gives_bind _ _ λ (mine : Channel) is. gives_bind _ _ λ (left : A) _.
      let p = m.packet in
      let passed = ack_passed evidence host core m mine is in
      gives_ok (KeptBeside core) _ (record {
        sound = record {
          typed = changed_typed core typed p.source_port p.source_channel mine (after_ack p.sequence mine) passed.unsettled.there
              (λ c. ack_typed p.sequence mine c (is_next m mine passed t.sequence));
          effect = refl;
        };
        clients = refl;
      })

  -- ---- timeouts

  module _ (on_timeout : A → Text → Packet → Checked A) where
    pub timeout_kept : (m : Timeout) → Gives (KeptBeside core) (timeout on_timeout m evidence host core app)
    unfolding timeout
    timeout_kept m =
        gives_bind _ _ λ (mine : Channel) is. gives_bind _ _ λ (left : A) _.
        let passed = timeout_passed evidence host core m mine is in
        gives_ok (KeptBeside core) _ (timed_out_kept core typed m.packet mine passed.unsettled passed.state)

    pub timeout_on_close_kept : (m : TimeoutOnClose) → Gives (KeptBeside core) (timeout_on_close on_timeout m evidence host core app)
    unfolding timeout_on_close
    timeout_on_close_kept m =
        gives_bind _ _ λ (mine : Channel) is. gives_bind _ _ λ (left : A) _.
        let passed = timeout_on_close_passed evidence host core m mine is in
        gives_ok (KeptBeside core) _ (timed_out_kept core typed m.packet mine passed.unsettled passed.state)
