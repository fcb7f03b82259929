-- Two laws of packets between peers (ICS 4, "Desired Properties": what is received was sent, and what is taken as
-- a packet's acknowledgement is what its receiver wrote).
use Rattle.std.specs.Prelude.{◌≡◌, Bool, true, false, List, Option, Some, None}
use Rattle.std.specs.List.{Contains, filter_map}
use Rattle.ibc_ids.specs.Texts.{Text}
use Rattle.ibc_wire.specs.declared.packet.Packet.{Packet}
use Rattle.ibc_wire.specs.declared.messages.Message.TheVariants as message
use Rattle.ibc_machine.specs.declared.event.Event.TheVariants as event
use Rattle.ibc_machine.specs.declared.reply.Reply.TheVariants as reply
use Rattle.ibc_machine.specs.chain.Records.{Channel}
use Rattle.ibc_machine.specs.promises.Histories.{Happened, End, is_source, sent_packets, received_packets, history_of, ack_written}
use Rattle.ibc_machine.specs.promises.Peers.{end_at}
use Rattle.ibc_machine.specs.promises.Laws.{OfPeers}

-- ---- whatever an end received, its peer sent, equal in every field; on any channel

abbrev pub ReceivedWasSent : Type 0
ReceivedWasSent = OfPeers (λ happened world e f.
    (mine : Channel) (p : Packet) → end_at world e ≡ Some mine → Contains (received_packets f happened) p
    → Contains (sent_packets e mine happened) p)

-- ---- the acknowledgement that is taken is the one that the packet's receiver wrote

-- the packet with its acknowledgement, if this holds
abbrev pub pair_if : Bool → Packet → Text → Option (Packet × Text)
pair_if true p ack = Some (p, ack)
pair_if false p ack = None

-- the packet and the acknowledgement that an accepted event took at the end
abbrev pub ack_taken_by : End → Happened → Option (Packet × Text)
ack_taken_by e (event.Message k (message.AckPacket m), reply.Ok effect) =
    pair_if (is_source e m.packet) m.packet m.ack
ack_taken_by e _ = None

-- the packets and acknowledgements in the order in which it happened
abbrev pub taken_acks : End → List Happened → List (Packet × Text)
taken_acks e happened = filter_map (ack_taken_by e) (history_of e.chain happened)

abbrev pub TakenAsWritten : Type 0
TakenAsWritten = OfPeers (λ happened world e f.
    (p : Packet) (ack : Text) → Contains (taken_acks e happened) (p, ack) → ack_written f happened p.sequence ≡ Some ack)
