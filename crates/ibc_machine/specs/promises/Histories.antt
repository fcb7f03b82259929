-- What was sent, received, acknowledged and timed out at an end: filters of what happened on its chain
-- (ICS 4, "Definitions" and "Desired Properties").
use Rattle.std.specs.Prelude.{ℕ, Bool, true, false, ◌==◌, ◌&&◌, List, map, slice_get, Option, Some, None, if◌then◌else◌}
use Rattle.std.specs.List.{filter, filter_map, find}
use Rattle.ibc_ids.specs.Texts.{Text, same_text}
use Rattle.ibc_wire.specs.declared.packet.Packet.{Packet}
use Rattle.ibc_wire.specs.declared.messages.Message.TheVariants as message
use Rattle.ibc_machine.specs.declared.event.Event.{Event}
use Rattle.ibc_machine.specs.declared.event.Event.TheVariants as event
use Rattle.ibc_machine.specs.declared.reply.Effect.TheVariants as effect
use Rattle.ibc_machine.specs.declared.reply.Reply.{Reply}
use Rattle.ibc_machine.specs.declared.reply.Reply.TheVariants as reply
use Rattle.ibc_machine.specs.chain.Records.{Channel, Commitment}
use Rattle.ibc_machine.specs.ics04.Channels.{peer_channel_of}
use Rattle.ibc_machine.specs.ics20.TokenData.{one_token, several_tokens}
use Rattle.ibc_machine.specs.ics20.Transfers.{transfer_port, transfer_commitment, transfer_data, transfer_many_data}
use Rattle.ibc_machine.specs.chain.Notes.{note_port, note_commitment}
use Rattle.ibc_machine.specs.ledger.Ledgers.{chain_of}

-- an event with its reply
abbrev pub Happened : Type 0
Happened = Event × Reply

-- what happened on a chain
abbrev pub history_of : ℕ → List Happened → List Happened
history_of chain happened = filter (λ (h : Happened). chain_of h.0 == chain) happened

-- an end of a channel: its chain, port and name
pub record End : Type 0 where
  pub chain : ℕ
  pub port : Text
  pub channel : Text

abbrev pub is_end : End → Text → Text → Bool
is_end e port channel = same_text port e.port && same_text channel e.channel

abbrev pub is_source : End → Packet → Bool
is_source e p = is_end e p.source_port p.source_channel

abbrev pub is_destination : End → Packet → Bool
is_destination e p = is_end e p.destination_port p.destination_channel

-- the packet, if this holds
abbrev pub packet_if : Bool → Packet → Option Packet
packet_if true p = Some p
packet_if false p = None

-- a packet from an end to its peer
abbrev pub packet_from : End → Channel → ℕ → Commitment → Packet
packet_from e mine n c = record {
  sequence = n;
  timeout_height = c.timeout_height;
  timeout_time = c.timeout_time;
  source_port = e.port;
  source_channel = e.channel;
  destination_port = mine.end.peer_port;
  destination_channel = peer_channel_of mine.end;
  payload = c.payload;
}

-- the packet that an accepted event sent from the end; mine is the end's own record, which names the peer
abbrev pub sent_by : End → Channel → Happened → Option Packet
sent_by e mine (event.Message k (message.Transfer m), reply.Ok (effect.Sent n)) =
    packet_if (is_end e transfer_port m.channel) (packet_from e mine n
    (transfer_commitment one_token (transfer_data m) m.timeout_height m.timeout_time))
sent_by e mine (event.Message k (message.TransferMany m), reply.Ok (effect.Sent n)) =
    packet_if (is_end e transfer_port m.channel) (packet_from e mine n
    (transfer_commitment several_tokens (transfer_many_data m) m.timeout_height m.timeout_time))
sent_by e mine (event.Message k (message.SendNote m), reply.Ok (effect.Sent n)) =
    packet_if (is_end e note_port m.channel) (packet_from e mine n (note_commitment m))
sent_by e mine _ = None

abbrev pub received_by : End → Happened → Option Packet
received_by e (event.Message k (message.RecvPacket m), reply.Ok effect) =
    packet_if (is_destination e m.packet) m.packet
received_by e _ = None

abbrev pub acknowledged_by : End → Happened → Option Packet
acknowledged_by e (event.Message k (message.AckPacket m), reply.Ok effect) =
    packet_if (is_source e m.packet) m.packet
acknowledged_by e _ = None

abbrev pub timed_out_by : End → Happened → Option Packet
timed_out_by e (event.Message k (message.Timeout m), reply.Ok effect) =
    packet_if (is_source e m.packet) m.packet
timed_out_by e (event.Message k (message.TimeoutOnClose m), reply.Ok effect) =
    packet_if (is_source e m.packet) m.packet
timed_out_by e _ = None

-- the packets in the order in which it happened
abbrev pub sent_packets : End → Channel → List Happened → List Packet
sent_packets e mine happened = filter_map (sent_by e mine) (history_of e.chain happened)

abbrev pub received_packets : End → List Happened → List Packet
received_packets e happened = filter_map (received_by e) (history_of e.chain happened)

abbrev pub acknowledged_packets : End → List Happened → List Packet
acknowledged_packets e happened = filter_map (acknowledged_by e) (history_of e.chain happened)

abbrev pub timed_out_packets : End → List Happened → List Packet
timed_out_packets e happened = filter_map (timed_out_by e) (history_of e.chain happened)

abbrev pub sequences : List Packet → List ℕ
sequences packets = map (λ (p : Packet). p.sequence) packets

-- the packet that was sent from an end under a sequence, whether its commitment stands or not
abbrev pub packet_sent : End → Channel → List Happened → ℕ → Option Packet
packet_sent e mine happened n = find (λ (p : Packet). p.sequence == n) (sent_packets e mine happened)

-- the acknowledgement that an accepted event wrote at the end for a sequence
abbrev pub ack_by : End → ℕ → Happened → Option Text
ack_by e n (event.Message k (message.RecvPacket m), reply.Ok (effect.Ack ack)) =
    if is_destination e m.packet && (m.packet.sequence == n) then Some ack else None
ack_by e n _ = None

-- the acknowledgement that was written at an end for a sequence
abbrev pub ack_written : End → List Happened → ℕ → Option Text
ack_written e happened n = slice_get (filter_map (ack_by e n) (history_of e.chain happened)) 0
