-- Which packet an entry is about: the port, the channel and the sequence that it was sent with.
use Rattle.std.specs.Prelude.{ℕ, codes, Bool, true, false, Option, None, Some}
use Rattle.ibc_ids.specs.Texts.{Text}
use Rattle.ibc_machine.specs.declared.entry.Entry.{Entry}
use Rattle.ibc_machine.specs.declared.event.Event.{Event}
use Rattle.ibc_machine.specs.declared.event.Event.TheVariants as event
use Rattle.ibc_machine.specs.declared.reply.Effect.TheVariants as effect
use Rattle.ibc_machine.specs.declared.reply.Reply.{Reply}
use Rattle.ibc_machine.specs.declared.reply.Reply.TheVariants as reply
use Rattle.ibc_wire.specs.declared.messages.Message.{Message}
use Rattle.ibc_wire.specs.declared.messages.Message.TheVariants as message
use Rattle.ibc_wire.specs.declared.packet.Packet.{Packet}

-- port, channel, sequence
abbrev pub SentName : Type 0
SentName = Text × Text × ℕ

abbrev pub name_of_packet : Packet → SentName
name_of_packet p = (p.source_port, p.source_channel, p.sequence)

-- the packet that a message sent, where it did
abbrev pub sent_by : Text → Text → Reply → Option SentName
sent_by port channel (reply.Ok (effect.Sent sequence)) = Some (port, channel, sequence)
sent_by port channel _ = None

abbrev pub message_packet : Message → Reply → Option SentName
message_packet (message.Transfer m) given = sent_by (codes "transfer") m.channel given
message_packet (message.TransferMany m) given = sent_by (codes "transfer") m.channel given
message_packet (message.SendNote m) given = sent_by (codes "note") m.channel given
message_packet (message.RecvPacket m) given = Some (name_of_packet m.packet)
message_packet (message.AckPacket m) given = Some (name_of_packet m.packet)
message_packet (message.Timeout m) given = Some (name_of_packet m.packet)
message_packet (message.TimeoutOnClose m) given = Some (name_of_packet m.packet)
message_packet _ given = None

abbrev pub event_packet : Event → Reply → Option SentName
event_packet (event.Message chain m) given = message_packet m given
event_packet (event.Block chain next_time) given = None

abbrev pub entry_packet : Entry → Option SentName
entry_packet e = event_packet e.event e.reply

-- whether an event is that a packet is received
abbrev pub is_received : Message → Bool
is_received (message.RecvPacket m) = true
is_received _ = false

abbrev pub is_receipt : Event → Bool
is_receipt (event.Message chain m) = is_received m
is_receipt (event.Block chain next_time) = false
