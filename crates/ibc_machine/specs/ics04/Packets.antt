-- Packets (ICS 4, "Packet flow & handling"). What the application does with a packet is an argument, which is
-- given what it keeps and the channel's version; A is what the application keeps.
use Rattle.std.specs.Prelude.{ℕ, Bool, false, ◌&&◌, ◌||◌, not, ◌+◌, ◌-◌, ◌^◌, nat_lt, nat_le, ◌==◌, length, Some, Ok, ⊤, if◌then◌else◌}
use Rattle.std.specs.Option.{option_map_or}
use Rattle.std.specs.Ordering.{nat_cmp}
use Rattle.ibc_ids.specs.Texts.{Text, same_text}
use Rattle.ibc_ids.specs.Maps.{at, with, without}
use Rattle.ibc_ids.specs.declared.key.Key.TheVariants as key
use Rattle.ibc_ids.specs.declared.refusal.Refusal.TheVariants.{UnknownChannel, WrongState, WrongPeer, BadMessage, NoTimeout, TimeoutPassed, AlreadyReceived, OutOfOrder, NoCommitment, NotTimedOut}
use Rattle.ibc_wire.specs.declared.records.ChannelState.TheVariants.{Open, Closed}
use Rattle.ibc_wire.specs.declared.records.Order.TheVariants.{Ordered}
use Rattle.ibc_wire.specs.declared.packet.Packet.{Packet}
use Rattle.ibc_wire.specs.declared.messages.RecvPacket.{RecvPacket}
use Rattle.ibc_wire.specs.declared.messages.AckPacket.{AckPacket}
use Rattle.ibc_wire.specs.declared.messages.Timeout.{Timeout}
use Rattle.ibc_wire.specs.declared.messages.TimeoutOnClose.{TimeoutOnClose}
use Rattle.ibc_machine.specs.declared.reply.Effect.{Effect}
use Rattle.ibc_machine.specs.declared.reply.Effect.TheVariants as effect
use Rattle.ibc_machine.specs.chain.Records.{Core, Client, Channel, Commitment, client_at, channel_at, with_channel, is_known_height, is_one_of, with_number, commitment_of}
use Rattle.ibc_machine.specs.ics24.Values.{Claim, CommitmentIs, NumberIs, AckIs, present_claim, absent_claim, same_optional, same_commitment, same_order}
use Rattle.ibc_machine.specs.chain.Checks.{Checked, require, expect, ◌>>=◌, ◌>>◌}
use Rattle.ibc_machine.specs.ics24.Evidence.{Host, Evidence, Handler, require_known, require_proof}
use Rattle.ibc_machine.specs.ics04.Channels.{is_in_state, is_established, client_of, counterpart, has_channel, in_state}

-- ---- words

-- 1 to 1,024 bytes
abbrev pub has_size : Text → Bool
has_size text = nat_le 1 (length text) && nat_le (length text) 1024

-- the form of a packet
abbrev pub has_form : Packet → Bool
has_form p = not (p.sequence == 0) && not (p.sequence == 2 ^ 64 - 1) && has_size p.payload

abbrev pub is_ordered : Channel → Bool
is_ordered mine = same_order mine.end.order Ordered

-- the end's peer has this port and name
abbrev pub has_peer : Channel → Text → Text → Bool
has_peer mine port channel =
    same_text port mine.end.peer_port && same_optional mine.end.peer_channel (Some channel)

-- a limit that isn't 0 is reached
abbrev pub is_reached : ℕ → ℕ → Bool
is_reached limit now = not (limit == 0) && nat_le limit now

-- one of the two timeouts is reached
abbrev pub is_timed_out : Commitment → ℕ → ℕ → Bool
is_timed_out c height time = is_reached c.timeout_height height || is_reached c.timeout_time time

-- the packet's own commitment stands
abbrev pub is_committed : Channel → Packet → Bool
is_committed mine p =
    option_map_or (λ c. same_commitment c (commitment_of p)) (at nat_cmp p.sequence mine.commitments) false

-- a repeat: a receipt stands, or an ordered end has gone past the sequence
abbrev pub is_repeat : Channel → ℕ → Bool
is_repeat mine n = is_one_of mine.receipts n || (is_ordered mine && nat_lt n mine.next_recv)

-- the end has received the sequence, or won't take it any more
abbrev pub has_received : Channel → ℕ → Bool
has_received mine n = if is_ordered mine then nat_lt n mine.next_recv else is_one_of mine.receipts n

-- ---- sending (ICS 4, "sendPacket"): the checks and the effect, between which an application has its own

-- the end of the port that may send
unfoldable pub sending_end : Core → Text → Text → Checked Channel
sending_end core port channel = do
  mine ← expect (channel_at core port channel) UnknownChannel
  require (is_in_state Open mine) WrongState
  Ok mine

-- a timeout is reached at the latest height that the client knows of the peer
abbrev pub has_passed : Evidence → Core → Text → Commitment → Client → Bool
has_passed evidence core id c client =
    is_reached c.timeout_height client.state.latest
    || (is_known_height core id client.state.latest && is_reached c.timeout_time (evidence.time_at id client.state.latest))

unfoldable pub require_timeouts : Evidence → Core → Channel → Commitment → Checked ⊤
require_timeouts evidence core mine c = do
  let id = client_of core mine.end.connection
  require (not ((c.timeout_height == 0) && (c.timeout_time == 0))) NoTimeout
  require (not (option_map_or (has_passed evidence core id c) (client_at core id) false)) TimeoutPassed
  Ok tt

abbrev pub after_send : Commitment → Channel → Channel
after_send c mine =
    record mine { next_send = mine.next_send + 1; commitments = with nat_cmp mine.next_send c mine.commitments }

-- the commitment is written under the next sequence
abbrev pub with_sent : Text → Text → Channel → Commitment → Core → Effect × Core
with_sent port channel mine c core =
    (effect.Sent mine.next_send, with_channel port channel (after_send c mine) core)

-- ---- receiving (ICS 4, "recvPacket")

-- ordered: the next sequence; unordered: a receipt; and the acknowledgement is written
abbrev pub after_receive : ℕ → Text → Channel → Channel
after_receive n ack mine =
    let acked : Channel = record mine { acks = with nat_cmp n ack mine.acks } in
    if is_ordered mine then record acked { next_recv = mine.next_recv + 1 }
    else record acked { receipts = with_number n mine.receipts }

-- the claim that the peer committed to the packet
abbrev pub was_sent : Packet → Claim
was_sent p = present_claim (key.Commitment p.source_port p.source_channel p.sequence) (CommitmentIs (commitment_of p))

-- the end may receive the packet in the working block
abbrev pub may_receive : Host → Channel → Packet → Checked ⊤
may_receive host mine p = do
  require (is_in_state Open mine) WrongState
  require (has_peer mine p.source_port p.source_channel) WrongPeer
  require (not (is_timed_out (commitment_of p) host.height host.time)) TimeoutPassed
  require (not (is_repeat mine p.sequence)) AlreadyReceived
  require (not (is_ordered mine && nat_lt mine.next_recv p.sequence)) OutOfOrder

-- the end that may receive the packet: all checks, before the application is asked
unfoldable pub recv_checked : RecvPacket → Evidence → Host → Core → Checked Channel
recv_checked m evidence host core = do
  let p = m.packet
  require (has_form p && evidence.is_proof m.proof) BadMessage
  mine ← expect (channel_at core p.destination_port p.destination_channel) UnknownChannel
  let client = client_of core mine.end.connection
  may_receive host mine p
  require_known core client m.height
  require_proof evidence client m.height (was_sent p) m.proof
  Ok mine

-- the core and the application's part after the packet was received
abbrev pub with_received : {A : Type 0} → Packet → Channel → Core → Text × A → Effect × Core × A
with_received p mine core (ack, app) = (
  effect.Ack ack,
  with_channel p.destination_port p.destination_channel (after_receive p.sequence ack mine) core,
  app,
)

unfoldable pub recv_packet : {A : Type 0} → (A → Text → Packet → Text × A) → RecvPacket → Handler A
recv_packet on_recv m evidence host core app = do
  mine ← recv_checked m evidence host core
  Ok (with_received m.packet mine core (on_recv app mine.end.version m.packet))

-- ---- acknowledgements (ICS 4, "acknowledgePacket")

abbrev pub without_commitment : ℕ → Channel → Channel
without_commitment n mine = record mine { commitments = without nat_cmp n mine.commitments }

abbrev pub after_ack : ℕ → Channel → Channel
after_ack n mine =
    let settled : Channel = without_commitment n mine in
    if is_ordered mine then record settled { next_ack = mine.next_ack + 1 } else settled

-- the claim that the peer acknowledged the packet so
abbrev pub was_acknowledged : Packet → Text → Claim
was_acknowledged p ack = present_claim (key.Acknowledgement p.destination_port p.destination_channel p.sequence) (AckIs ack)

-- the end may take the packet's acknowledgement
abbrev pub may_acknowledge : Channel → Packet → Checked ⊤
may_acknowledge mine p = do
  require (is_in_state Open mine) WrongState
  require (has_peer mine p.destination_port p.destination_channel) WrongPeer
  require (is_committed mine p) NoCommitment
  require (not (is_ordered mine && not (p.sequence == mine.next_ack))) OutOfOrder

unfoldable pub ack_checked : AckPacket → Evidence → Host → Core → Checked Channel
ack_checked m evidence host core = do
  let p = m.packet
  require (has_form p && has_size m.ack && evidence.is_proof m.proof) BadMessage
  mine ← expect (channel_at core p.source_port p.source_channel) UnknownChannel
  let client = client_of core mine.end.connection
  may_acknowledge mine p
  require_known core client m.height
  require_proof evidence client m.height (was_acknowledged p m.ack) m.proof
  Ok mine

unfoldable pub ack_packet : {A : Type 0} → (A → Text → Packet → Text → Checked A) → AckPacket → Handler A
ack_packet on_ack m evidence host core app = do
  let p = m.packet
  mine ← ack_checked m evidence host core
  left ← on_ack app mine.end.version p m.ack
  Ok (effect.None, with_channel p.source_port p.source_channel (after_ack p.sequence mine) core, left)

-- ---- timeouts (ICS 4, "timeoutPacket" and "timeoutOnClose")

-- the claim that the peer hasn't received the packet
abbrev pub not_received : Channel → Packet → ℕ → Claim
not_received mine p next_recv =
    if is_ordered mine
    then present_claim (key.NextSequenceRecv p.destination_port p.destination_channel) (NumberIs next_recv)
    else absent_claim (key.Receipt p.destination_port p.destination_channel p.sequence)

-- on an ordered channel the peer waits for this packet or an earlier one
abbrev pub waits_for : Channel → ℕ → ℕ → Bool
waits_for mine next_recv n = not (is_ordered mine && nat_lt n next_recv)

-- the commitment is removed, and an ordered channel is closed
abbrev pub after_timeout : ℕ → Channel → Channel
after_timeout n mine =
    let settled : Channel = without_commitment n mine in
    if is_ordered mine then in_state Closed settled else settled

-- the end sent the packet, and it isn't settled
abbrev pub is_pending : Channel → Packet → Checked ⊤
is_pending mine p = do
  require (is_established mine) WrongState
  require (has_peer mine p.destination_port p.destination_channel) WrongPeer
  require (is_committed mine p) NoCommitment

unfoldable pub timeout_checked : Timeout → Evidence → Host → Core → Checked Channel
timeout_checked m evidence host core = do
  let p = m.packet
  require (has_form p && evidence.is_proof m.proof) BadMessage
  mine ← expect (channel_at core p.source_port p.source_channel) UnknownChannel
  let client = client_of core mine.end.connection
  is_pending mine p
  require_known core client m.height
  require (is_timed_out (commitment_of p) m.height (evidence.time_at client m.height)) NotTimedOut
  require (waits_for mine m.next_recv p.sequence) NotTimedOut
  require_proof evidence client m.height (not_received mine p m.next_recv) m.proof
  Ok mine

-- the core after a timeout, with the application's part
abbrev pub with_timed_out : {A : Type 0} → Packet → Channel → Core → A → Effect × Core × A
with_timed_out p mine core app =
    (effect.None, with_channel p.source_port p.source_channel (after_timeout p.sequence mine) core, app)

unfoldable pub timeout : {A : Type 0} → (A → Text → Packet → Checked A) → Timeout → Handler A
timeout on_timeout m evidence host core app = do
  mine ← timeout_checked m evidence host core
  left ← on_timeout app mine.end.version m.packet
  Ok (with_timed_out m.packet mine core left)

unfoldable pub timeout_on_close_checked : TimeoutOnClose → Evidence → Host → Core → Checked Channel
timeout_on_close_checked m evidence host core = do
  let p = m.packet
  require (has_form p && evidence.is_proof m.proof && evidence.is_proof m.proof_close) BadMessage
  mine ← expect (channel_at core p.source_port p.source_channel) UnknownChannel
  let client = client_of core mine.end.connection
  let theirs = counterpart core mine.end p.source_port (Some p.source_channel) Closed
  is_pending mine p
  require_known core client m.height
  require (waits_for mine m.next_recv p.sequence) NotTimedOut
  require_proof evidence client m.height (not_received mine p m.next_recv) m.proof
  require_proof evidence client m.height (has_channel mine.end p.destination_channel theirs) m.proof_close
  Ok mine

unfoldable pub timeout_on_close : {A : Type 0} → (A → Text → Packet → Checked A) → TimeoutOnClose → Handler A
timeout_on_close on_timeout m evidence host core app = do
  mine ← timeout_on_close_checked m evidence host core
  left ← on_timeout app mine.end.version m.packet
  Ok (with_timed_out m.packet mine core left)
