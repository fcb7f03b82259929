-- What an accepted event tells of packets, and that the histories of an end are read off it.
use Rattle.std.proofs.Common.{◌≡◌, ℕ, ◌&&◌, ◌==◌, refl, Option, Some, None, if◌then◌else◌}
use Rattle.ibc_ids.specs.Texts.{Text}
use Rattle.ibc_wire.specs.declared.packet.Packet.{Packet}
use Rattle.ibc_wire.specs.declared.messages.Message.{Message}
use Rattle.ibc_wire.specs.declared.messages.Message.TheVariants as message
use Rattle.ibc_machine.specs.declared.event.Event.TheVariants as event
use Rattle.ibc_machine.specs.declared.reply.Effect.{Effect}
use Rattle.ibc_machine.specs.declared.reply.Effect.TheVariants as effect
use Rattle.ibc_machine.specs.declared.reply.Reply.TheVariants as reply
use Rattle.ibc_machine.specs.chain.Records.{Channel, Commitment}
use Rattle.ibc_machine.specs.ics20.TokenData.{one_token, several_tokens}
use Rattle.ibc_machine.specs.ics20.Transfers.{transfer_port, transfer_commitment, transfer_data, transfer_many_data}
use Rattle.ibc_machine.specs.chain.Notes.{note_port, note_commitment}
use Rattle.ibc_machine.specs.promises.Histories.{Happened, End, is_end, is_source, is_destination, packet_if, packet_from, sent_by, received_by, acknowledged_by, timed_out_by, ack_by}
use Rattle.ibc_laws.specs.Packets.{ack_taken_by, pair_if}

pub data Told : Type 0 where
  Quiet : Told
  Sent : Text → Text → ℕ → Commitment → Told
  -- with the acknowledgement that was written, if the effect has one
  Received : Packet → Option Text → Told
  -- with the acknowledgement that was taken
  Acknowledged : Packet → Text → Told
  TimedOut : Packet → Told

abbrev pub ack_of : Effect → Option Text
ack_of (effect.Ack ack) = Some ack
ack_of _ = None

abbrev pub told_by : Message → Effect → Told
told_by (message.Transfer m) (effect.Sent n) =
    Sent transfer_port m.channel n
    (transfer_commitment one_token (transfer_data m) m.timeout_height m.timeout_time)
told_by (message.TransferMany m) (effect.Sent n) =
    Sent transfer_port m.channel n
    (transfer_commitment several_tokens (transfer_many_data m) m.timeout_height m.timeout_time)
told_by (message.SendNote m) (effect.Sent n) = Sent note_port m.channel n (note_commitment m)
told_by (message.RecvPacket m) given = Received m.packet (ack_of given)
told_by (message.AckPacket m) given = Acknowledged m.packet m.ack
told_by (message.Timeout m) given = TimedOut m.packet
told_by (message.TimeoutOnClose m) given = TimedOut m.packet
told_by _ _ = Quiet

abbrev pub told_of : Happened → Told
told_of (event.Message k m, reply.Ok given) = told_by m given
told_of _ = Quiet

-- ---- the packet that is told of at an end

abbrev pub sent_in : End → Channel → Told → Option Packet
sent_in e mine (Sent port channel n c) = packet_if (is_end e port channel) (packet_from e mine n c)
sent_in e mine _ = None

abbrev pub received_in : End → Told → Option Packet
received_in e (Received p ack) = packet_if (is_destination e p) p
received_in e _ = None

abbrev pub acknowledged_in : End → Told → Option Packet
acknowledged_in e (Acknowledged p ack) = packet_if (is_source e p) p
acknowledged_in e _ = None

abbrev pub timed_out_in : End → Told → Option Packet
timed_out_in e (TimedOut p) = packet_if (is_source e p) p
timed_out_in e _ = None

-- the acknowledgement that is told of at an end, for a sequence, and the one that is taken there
abbrev pub ack_in : End → ℕ → Told → Option Text
ack_in e n (Received p (Some ack)) = if is_destination e p && (p.sequence == n) then Some ack else None
ack_in e n _ = None

abbrev pub taken_in : End → Told → Option (Packet × Text)
taken_in e (Acknowledged p ack) = pair_if (is_source e p) p ack
taken_in e _ = None

-- the histories are read off what was told
pub record IsTold (h : Happened) : Type 0 where
  pub sent : (e : End) (mine : Channel) → sent_by e mine h ≡ sent_in e mine (told_of h)
  pub received : (e : End) → received_by e h ≡ received_in e (told_of h)
  pub acknowledged : (e : End) → acknowledged_by e h ≡ acknowledged_in e (told_of h)
  pub timed_out : (e : End) → timed_out_by e h ≡ timed_out_in e (told_of h)
  pub wrote : (e : End) (n : ℕ) → ack_by e n h ≡ ack_in e n (told_of h)
  pub took : (e : End) → ack_taken_by e h ≡ taken_in e (told_of h)

pub is_told : (h : Happened) → IsTold h
is_told (event.Message k (message.Transfer m), reply.Ok (effect.Sent n)) =
    record { sent = λ e mine. refl; received = λ e. refl; acknowledged = λ e. refl; timed_out = λ e. refl; wrote = λ e n. refl; took = λ e. refl }
is_told (event.Message k (message.TransferMany m), reply.Ok (effect.Sent n)) =
    record { sent = λ e mine. refl; received = λ e. refl; acknowledged = λ e. refl; timed_out = λ e. refl; wrote = λ e n. refl; took = λ e. refl }
is_told (event.Message k (message.SendNote m), reply.Ok (effect.Sent n)) =
    record { sent = λ e mine. refl; received = λ e. refl; acknowledged = λ e. refl; timed_out = λ e. refl; wrote = λ e n. refl; took = λ e. refl }
is_told (event.Message k (message.RecvPacket m), reply.Ok (effect.Ack ack)) =
    record { sent = λ e mine. refl; received = λ e. refl; acknowledged = λ e. refl; timed_out = λ e. refl; wrote = λ e n. refl; took = λ e. refl }
is_told (event.Message k (message.Transfer m), reply.Ok _) =
    record { sent = λ e mine. refl; received = λ e. refl; acknowledged = λ e. refl; timed_out = λ e. refl; wrote = λ e n. refl; took = λ e. refl }
is_told (event.Message k (message.TransferMany m), reply.Ok _) =
    record { sent = λ e mine. refl; received = λ e. refl; acknowledged = λ e. refl; timed_out = λ e. refl; wrote = λ e n. refl; took = λ e. refl }
is_told (event.Message k (message.SendNote m), reply.Ok _) =
    record { sent = λ e mine. refl; received = λ e. refl; acknowledged = λ e. refl; timed_out = λ e. refl; wrote = λ e n. refl; took = λ e. refl }
is_told (event.Message k (message.RecvPacket m), reply.Ok _) =
    record { sent = λ e mine. refl; received = λ e. refl; acknowledged = λ e. refl; timed_out = λ e. refl; wrote = λ e n. refl; took = λ e. refl }
is_told (event.Message k _, reply.Ok given) =
    record { sent = λ e mine. refl; received = λ e. refl; acknowledged = λ e. refl; timed_out = λ e. refl; wrote = λ e n. refl; took = λ e. refl }
is_told (event.Message k (message.Transfer m), reply.No why) =
    record { sent = λ e mine. refl; received = λ e. refl; acknowledged = λ e. refl; timed_out = λ e. refl; wrote = λ e n. refl; took = λ e. refl }
is_told (event.Message k _, reply.No why) =
    record { sent = λ e mine. refl; received = λ e. refl; acknowledged = λ e. refl; timed_out = λ e. refl; wrote = λ e n. refl; took = λ e. refl }
is_told (event.Block k t, given) =
    record { sent = λ e mine. refl; received = λ e. refl; acknowledged = λ e. refl; timed_out = λ e. refl; wrote = λ e n. refl; took = λ e. refl }
