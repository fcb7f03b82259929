-- What a message on a packet has passed where its checks end well: the end that was there, and what was shown of the peer.
use Rattle.std.proofs.Common.{◌≡◌, ℕ, Bool, true, false, refl, ap, subst, Option, Some, None, Ok, nat_cmp, ◌==◌, ◌&&◌, ◌||◌, not, nat_lt}
use Rattle.std.specs.Prelude.{if◌then◌else◌}
use Rattle.std.specs.Option.{option_map_or}
use Rattle.std.proofs.lemmas.Bool.{and_parts}
use Rattle.ibc_ids.specs.Texts.{Text}
use Rattle.ibc_ids.specs.Maps.{at}
use Rattle.ibc_ids.specs.declared.refusal.Refusal.TheVariants as refusal
use Rattle.ibc_wire.specs.declared.records.ChannelState.TheVariants.{Open, Closed}
use Rattle.ibc_wire.specs.declared.packet.Packet.{Packet}
use Rattle.ibc_wire.specs.declared.messages.RecvPacket.{RecvPacket}
use Rattle.ibc_wire.specs.declared.messages.AckPacket.{AckPacket}
use Rattle.ibc_wire.specs.declared.messages.Timeout.{Timeout}
use Rattle.ibc_wire.specs.declared.messages.TimeoutOnClose.{TimeoutOnClose}
use Rattle.ibc_machine.specs.chain.Records.{Core, Channel, Commitment, channel_at, commitment_of, is_one_of}
use Rattle.ibc_machine.specs.ics24.Values.{Claim, same_commitment}
use Rattle.ibc_machine.specs.ics24.Evidence.{Host, Evidence}
use Rattle.ibc_machine.specs.ics04.Channels.{is_in_state, is_established, client_of, counterpart, has_channel}
use Rattle.ibc_machine.specs.chain.Checks.{expect}
use Rattle.ibc_machine.specs.ics04.Packets.{has_size, has_form, has_peer, is_ordered, is_timed_out, is_committed, has_received, was_sent, was_acknowledged, not_received, waits_for, sending_end, may_receive, is_pending, recv_checked, ack_checked, timeout_checked, timeout_on_close_checked}
use Rattle.ibc_machine.proofs.SameValues.{same_commitment_is}
use Rattle.ibc_machine.proofs.PassedRows.{require_passed, require_holds, bind_passed, then_passed, expect_passed, ok_same}

committed_is : (mine : Channel) (p : Packet) → is_committed mine p ≡ true
    → at nat_cmp p.sequence mine.commitments ≡ Some (commitment_of p)
committed_is mine p e = go (at nat_cmp p.sequence mine.commitments) e
  where
    go : (o : Option Commitment) → option_map_or (λ c. same_commitment c (commitment_of p)) o false ≡ true → o ≡ Some (commitment_of p)
    go (Some c) e = ap Some (same_commitment_is c (commitment_of p) e)
    go None e = absurd (cc e)

-- the claim is shown of the peer of an end
abbrev pub IsShown : Evidence → Core → Channel → ℕ → Claim → Text → Type 0
IsShown evidence core mine height claim proof =
    evidence.shows (client_of core mine.end.connection) height claim proof ≡ true

-- ---- sending

pub record MaySend (core : Core) (port id : Text) (mine : Channel) : Type 0 where
  pub there : channel_at core port id ≡ Some mine
  pub state : is_in_state Open mine ≡ true

pub sending_passed : (core : Core) (port id : Text) (mine : Channel) → sending_end core port id ≡ Ok mine → MaySend core port id mine
unfolding sending_end
sending_passed core port id mine e =
    let there = bind_passed _ _ e in
    let state = require_passed _ _ _ there.2 in
    subst (MaySend core port id) (ok_same state.1)
    (record { there = expect_passed (channel_at core port id) refusal.UnknownChannel there.1; state = state.0 })

-- ---- receiving

-- what is no repeat was not received
no_repeat : (ordered received passed : Bool) → not (received || (ordered && passed)) ≡ true → not (if ordered then passed else received) ≡ true
no_repeat true true passed e = absurd (cc e)
no_repeat true false true e = absurd (cc e)
no_repeat true false false e = refl
no_repeat false true passed e = absurd (cc e)
no_repeat false false passed e = refl

pub record MayReceive (host : Host) (mine : Channel) (p : Packet) : Type 0 where
  pub state : is_in_state Open mine ≡ true
  pub peer : has_peer mine p.source_port p.source_channel ≡ true
  pub in_time : not (is_timed_out (commitment_of p) host.height host.time) ≡ true
  pub fresh : not (has_received mine p.sequence) ≡ true
  pub in_order : not (is_ordered mine && nat_lt mine.next_recv p.sequence) ≡ true

receivable : (host : Host) (mine : Channel) (p : Packet) → may_receive host mine p ≡ Ok tt → MayReceive host mine p
receivable host mine p e =
    let state = require_passed _ _ _ e in
    let peer = require_passed _ _ _ state.1 in
    let in_time = require_passed _ _ _ peer.1 in
    let fresh = require_passed _ _ _ in_time.1 in
    record {
      state = state.0;
      peer = peer.0;
      in_time = in_time.0;
      fresh = no_repeat (is_ordered mine) (is_one_of mine.receipts p.sequence) (nat_lt p.sequence mine.next_recv) fresh.0;
      in_order = require_holds _ _ fresh.1;
    }

pub record PassedRecv (evidence : Evidence) (host : Host) (core : Core) (m : RecvPacket) (mine : Channel) : Type 0 where
  pub form : has_form m.packet ≡ true
  pub there : channel_at core m.packet.destination_port m.packet.destination_channel ≡ Some mine
  pub may : MayReceive host mine m.packet
  pub sent : IsShown evidence core mine m.height (was_sent m.packet) m.proof

module _ (evidence : Evidence) (host : Host) (core : Core) where
  pub recv_passed : (m : RecvPacket) (mine : Channel) → recv_checked m evidence host core ≡ Ok mine → PassedRecv evidence host core m mine
  unfolding recv_checked
  recv_passed m mine e =
      let p : Packet = m.packet in
      let form = require_passed _ _ _ e in
      let there = bind_passed _ _ form.1 in
      let may = then_passed _ _ there.2 in
      let known = require_passed _ _ _ may.1 in
      let proof = require_passed _ _ _ known.1 in
      subst (PassedRecv evidence host core m) (ok_same proof.1) (record {
        form = (and_parts (has_form p) (evidence.is_proof m.proof) form.0).0;
        there = expect_passed (channel_at core p.destination_port p.destination_channel) refusal.UnknownChannel there.1;
        may = receivable host there.0 p may.0;
        sent = proof.0;
      })

-- ---- settling: the packet's commitment stands at the end that sent it

pub record IsUnsettled (core : Core) (p : Packet) (mine : Channel) : Type 0 where
  pub there : channel_at core p.source_port p.source_channel ≡ Some mine
  pub peer : has_peer mine p.destination_port p.destination_channel ≡ true
  pub committed : at nat_cmp p.sequence mine.commitments ≡ Some (commitment_of p)

unsettled : (core : Core) (p : Packet) (mine : Channel) → expect (channel_at core p.source_port p.source_channel) refusal.UnknownChannel ≡ Ok mine
    → has_peer mine p.destination_port p.destination_channel ≡ true → is_committed mine p ≡ true → IsUnsettled core p mine
unsettled core p mine there peer committed = record {
  there = expect_passed (channel_at core p.source_port p.source_channel) refusal.UnknownChannel there;
  peer = peer;
  committed = committed_is mine p committed;
}

pub record PassedAck (evidence : Evidence) (core : Core) (m : AckPacket) (mine : Channel) : Type 0 where
  pub form : has_form m.packet ≡ true
  pub unsettled : IsUnsettled core m.packet mine
  pub state : is_in_state Open mine ≡ true
  pub in_order : not (is_ordered mine && not (m.packet.sequence == mine.next_ack)) ≡ true
  pub acknowledged : IsShown evidence core mine m.height (was_acknowledged m.packet m.ack) m.proof

-- the end sent the packet, and the client knows the height
record IsPending (core : Core) (p : Packet) (mine : Channel) : Type 0 where
  pub unsettled : IsUnsettled core p mine
  pub state : is_established mine ≡ true

pending : (core : Core) (p : Packet) (mine : Channel) → expect (channel_at core p.source_port p.source_channel) refusal.UnknownChannel ≡ Ok mine
    → is_pending mine p ≡ Ok tt → IsPending core p mine
pending core p mine there e =
    let state = require_passed _ _ _ e in
    let peer = require_passed _ _ _ state.1 in
    record { unsettled = unsettled core p mine there peer.0 (require_holds _ _ peer.1); state = state.0 }

pub record PassedTimeout (evidence : Evidence) (core : Core) (m : Timeout) (mine : Channel) : Type 0 where
  pub unsettled : IsUnsettled core m.packet mine
  pub state : is_established mine ≡ true
  pub over : is_timed_out (commitment_of m.packet) m.height (evidence.time_at (client_of core mine.end.connection) m.height) ≡ true
  pub waits : waits_for mine m.next_recv m.packet.sequence ≡ true
  pub missing : IsShown evidence core mine m.height (not_received mine m.packet m.next_recv) m.proof

pub record PassedTimeoutOnClose (evidence : Evidence) (core : Core) (m : TimeoutOnClose) (mine : Channel) : Type 0 where
  pub unsettled : IsUnsettled core m.packet mine
  pub state : is_established mine ≡ true
  pub waits : waits_for mine m.next_recv m.packet.sequence ≡ true
  pub missing : IsShown evidence core mine m.height (not_received mine m.packet m.next_recv) m.proof
  pub closed : IsShown evidence core mine m.height
      (has_channel mine.end m.packet.destination_channel
      (counterpart core mine.end m.packet.source_port (Some m.packet.source_channel) Closed)) m.proof_close

module _ (evidence : Evidence) (host : Host) (core : Core) where
  pub ack_passed : (m : AckPacket) (mine : Channel) → ack_checked m evidence host core ≡ Ok mine → PassedAck evidence core m mine
  unfolding ack_checked
  ack_passed m mine e =
      let form = require_passed _ _ _ e in
      let there = bind_passed _ _ form.1 in
      let may = then_passed _ _ there.2 in
      let state = require_passed _ _ _ may.0 in
      let peer = require_passed _ _ _ state.1 in
      let committed = require_passed _ _ _ peer.1 in
      let known = require_passed _ _ _ may.1 in
      let proof = require_passed _ _ _ known.1 in
      subst (PassedAck evidence core m) (ok_same proof.1) (record {
        form = (and_parts (has_form m.packet) (has_size m.ack) (and_parts (has_form m.packet && has_size m.ack) (evidence.is_proof m.proof) form.0).0).0;
        unsettled = unsettled core m.packet there.0 there.1 peer.0 committed.0;
        state = state.0;
        in_order = require_holds _ _ committed.1;
        acknowledged = proof.0;
      })

  pub timeout_passed : (m : Timeout) (mine : Channel) → timeout_checked m evidence host core ≡ Ok mine → PassedTimeout evidence core m mine
  unfolding timeout_checked
  timeout_passed m mine e =
      let form = require_passed _ _ _ e in
      let there = bind_passed _ _ form.1 in
      let may = then_passed _ _ there.2 in
      let stands : IsPending core m.packet there.0 = pending core m.packet there.0 there.1 may.0 in
      let known = require_passed _ _ _ may.1 in
      let over = require_passed _ _ _ known.1 in
      let waits = require_passed _ _ _ over.1 in
      let proof = require_passed _ _ _ waits.1 in
      subst (PassedTimeout evidence core m) (ok_same proof.1)
      (record { unsettled = stands.unsettled; state = stands.state; over = over.0; waits = waits.0; missing = proof.0 })

  pub timeout_on_close_passed : (m : TimeoutOnClose) (mine : Channel)
      → timeout_on_close_checked m evidence host core ≡ Ok mine → PassedTimeoutOnClose evidence core m mine
  unfolding timeout_on_close_checked
  timeout_on_close_passed m mine e =
      let form = require_passed _ _ _ e in
      let there = bind_passed _ _ form.1 in
      let may = then_passed _ _ there.2 in
      let stands : IsPending core m.packet there.0 = pending core m.packet there.0 there.1 may.0 in
      let known = require_passed _ _ _ may.1 in
      let waits = require_passed _ _ _ known.1 in
      let proof = require_passed _ _ _ waits.1 in
      let close = require_passed _ _ _ proof.1 in
      subst (PassedTimeoutOnClose evidence core m) (ok_same close.1)
      (record { unsettled = stands.unsettled; state = stands.state; waits = waits.0; missing = proof.0; closed = close.0 })
