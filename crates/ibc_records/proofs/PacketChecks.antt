-- The checks of packets in a row, as the code makes them.
use Rattle.std.proofs.Common.{◌≡◌, ◌&&◌, ℕ, true, List, Some, None, Ok, is_some, refl, ap}
use Rattle.ibc_ids.specs.Texts.{Text}
use Rattle.ibc_ids.specs.declared.publication.Publication.{Publication}
use Rattle.ibc_ids.specs.declared.refusal.Refusal.TheVariants.{BadMessage, UnknownChannel, WrongState, NotTimedOut}
use Rattle.ibc_merkle.specs.declared.proof.Proof.{Proof}
use Rattle.ibc_wire.specs.Reading.{proof_of}
use Rattle.ibc_wire.specs.declared.records.ChannelState.TheVariants.{Open}
use Rattle.ibc_wire.specs.declared.messages.RecvPacket.{RecvPacket}
use Rattle.ibc_wire.specs.declared.messages.AckPacket.{AckPacket}
use Rattle.ibc_wire.specs.declared.messages.Timeout.{Timeout}
use Rattle.ibc_wire.specs.declared.messages.TimeoutOnClose.{TimeoutOnClose}
use Rattle.ibc_machine.specs.chain.Records.{Core, Channel, channel_at}
use Rattle.ibc_machine.specs.ledger.Replay.{LedgerState, proof_evidence}
use Rattle.ibc_machine.specs.chain.Checks.{Checked, require, expect, ◌>>=◌, ◌>>◌}
use Rattle.ibc_machine.specs.ics24.Evidence.{Host, Evidence, require_known, require_proof}
use Rattle.ibc_machine.specs.ics04.Channels.{client_of, has_channel, is_in_state}
use Rattle.ibc_machine.specs.ics04.Packets.{sending_end, has_size, has_form, may_receive, may_acknowledge, is_pending, was_sent, was_acknowledged, not_received, waits_for, recv_checked, ack_checked, timeout_checked, timeout_on_close_checked}
use Rattle.ibc_machine.proofs.PassedChecks.{pass, find}
use Rattle.ibc_records.specs.RecordsModel.{RecordsModel, core_of}
use Rattle.ibc_records.specs.HandlerContract.{host_with}
use Rattle.ibc_records.specs.TimeoutChecks.{require_timed_out, expected_closed_end}

-- ---- the definitions, in two parts: the form, and what is checked of the end that is there

module _ (evidence : Evidence) (host : Host) (core : Core) where
  abbrev pub recv_rest : RecvPacket → Channel → Checked Channel
  recv_rest m mine =
      may_receive host mine m.packet
      >> (require_known core (client_of core mine.end.connection) m.height
      >> (require_proof evidence (client_of core mine.end.connection) m.height (was_sent m.packet) m.proof >> Ok mine))

  pub recv_row : (m : RecvPacket)
      → recv_checked m evidence host core
      ≡ (require (has_form m.packet && evidence.is_proof m.proof) BadMessage
      >> (expect (channel_at core m.packet.destination_port m.packet.destination_channel) UnknownChannel >>= recv_rest m))
  unfolding recv_checked
  recv_row m = refl

  abbrev pub ack_rest : AckPacket → Channel → Checked Channel
  ack_rest m mine =
      may_acknowledge mine m.packet
      >> (require_known core (client_of core mine.end.connection) m.height
      >> (require_proof evidence (client_of core mine.end.connection) m.height (was_acknowledged m.packet m.ack) m.proof >> Ok mine))

  pub ack_row : (m : AckPacket)
      → ack_checked m evidence host core
      ≡ (require (has_form m.packet && has_size m.ack && evidence.is_proof m.proof) BadMessage
      >> (expect (channel_at core m.packet.source_port m.packet.source_channel) UnknownChannel >>= ack_rest m))
  unfolding ack_checked
  ack_row m = refl

  abbrev pub timeout_rest : Timeout → Channel → Checked Channel
  timeout_rest m mine =
      is_pending mine m.packet
      >> (require_known core (client_of core mine.end.connection) m.height
      >> (require_timed_out (client_of core mine.end.connection) m.height m.packet evidence
      >> (require (waits_for mine m.next_recv m.packet.sequence) NotTimedOut
      >> (require_proof evidence (client_of core mine.end.connection) m.height (not_received mine m.packet m.next_recv) m.proof >> Ok mine))))

  pub timeout_row : (m : Timeout)
      → timeout_checked m evidence host core
      ≡ (require (has_form m.packet && evidence.is_proof m.proof) BadMessage
      >> (expect (channel_at core m.packet.source_port m.packet.source_channel) UnknownChannel >>= timeout_rest m))
  unfolding timeout_checked
  timeout_row m = refl

  abbrev pub close_rest : TimeoutOnClose → Channel → Checked Channel
  close_rest m mine =
      is_pending mine m.packet
      >> (require_known core (client_of core mine.end.connection) m.height
      >> (require (waits_for mine m.next_recv m.packet.sequence) NotTimedOut
      >> (require_proof evidence (client_of core mine.end.connection) m.height (not_received mine m.packet m.next_recv) m.proof
      >> (require_proof evidence (client_of core mine.end.connection) m.height (has_channel mine.end m.packet.destination_channel (expected_closed_end core m.packet mine.end)) m.proof_close >> Ok mine))))

  pub close_row : (m : TimeoutOnClose)
      → timeout_on_close_checked m evidence host core
      ≡ (require (has_form m.packet && evidence.is_proof m.proof && evidence.is_proof m.proof_close) BadMessage
      >> (expect (channel_at core m.packet.source_port m.packet.source_channel) UnknownChannel >>= close_rest m))
  unfolding timeout_on_close_checked
  close_row m = refl

-- ---- behind the form, and behind the channel that is there

module _ (held : RecordsModel) (chain chains : ℕ) (seen : List Publication) (state : LedgerState) where
  abbrev roots : Evidence
  roots = proof_evidence seen None state

  abbrev here : Host
  here = host_with chain chains held

  abbrev core : Core
  core = core_of held

  module _ (m : RecvPacket) (proof : Proof) (form : has_form m.packet ≡ true) (reads : proof_of m.proof ≡ Some proof) where
    pub recv_begun : recv_checked m roots here core ≡ (expect (channel_at core m.packet.destination_port m.packet.destination_channel) UnknownChannel >>= recv_rest roots here core m)
    recv_begun = pass (λ i. require (form i && is_some (reads i)) BadMessage) (recv_row roots here core m)

    pub recv_found : (mine : Channel) → channel_at core m.packet.destination_port m.packet.destination_channel ≡ Some mine → recv_checked m roots here core ≡ recv_rest roots here core m mine
    recv_found mine there = find (recv_rest roots here core m) (ap (λ o. expect o UnknownChannel) there) recv_begun

  module _ (m : AckPacket) (proof : Proof) (form : (has_form m.packet && has_size m.ack) ≡ true) (reads : proof_of m.proof ≡ Some proof) where
    pub ack_begun : ack_checked m roots here core ≡ (expect (channel_at core m.packet.source_port m.packet.source_channel) UnknownChannel >>= ack_rest roots here core m)
    ack_begun = pass (λ i. require (form i && is_some (reads i)) BadMessage) (ack_row roots here core m)

    pub ack_found : (mine : Channel) → channel_at core m.packet.source_port m.packet.source_channel ≡ Some mine → ack_checked m roots here core ≡ ack_rest roots here core m mine
    ack_found mine there = find (ack_rest roots here core m) (ap (λ o. expect o UnknownChannel) there) ack_begun

  module _ (m : Timeout) (proof : Proof) (form : has_form m.packet ≡ true) (reads : proof_of m.proof ≡ Some proof) where
    pub timeout_begun : timeout_checked m roots here core ≡ (expect (channel_at core m.packet.source_port m.packet.source_channel) UnknownChannel >>= timeout_rest roots here core m)
    timeout_begun = pass (λ i. require (form i && is_some (reads i)) BadMessage) (timeout_row roots here core m)

    pub timeout_found : (mine : Channel) → channel_at core m.packet.source_port m.packet.source_channel ≡ Some mine → timeout_checked m roots here core ≡ timeout_rest roots here core m mine
    timeout_found mine there = find (timeout_rest roots here core m) (ap (λ o. expect o UnknownChannel) there) timeout_begun

  module _ (m : TimeoutOnClose) (proof : Proof) (closing : Proof) (form : has_form m.packet ≡ true) (reads : proof_of m.proof ≡ Some proof) (reads_close : proof_of m.proof_close ≡ Some closing) where
    pub close_begun : timeout_on_close_checked m roots here core ≡ (expect (channel_at core m.packet.source_port m.packet.source_channel) UnknownChannel >>= close_rest roots here core m)
    close_begun = pass (λ i. require (form i && is_some (reads i) && is_some (reads_close i)) BadMessage) (close_row roots here core m)

    pub close_found : (mine : Channel) → channel_at core m.packet.source_port m.packet.source_channel ≡ Some mine → timeout_on_close_checked m roots here core ≡ close_rest roots here core m mine
    close_found mine there = find (close_rest roots here core m) (ap (λ o. expect o UnknownChannel) there) close_begun

-- ---- sending

pub sending_row : (core : Core) (port channel : Text)
    → sending_end core port channel ≡ (expect (channel_at core port channel) UnknownChannel >>= λ (mine : Channel). (require (is_in_state Open mine) WrongState >> Ok mine))
unfolding sending_end
sending_row core port channel = refl
