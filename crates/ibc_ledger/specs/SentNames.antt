-- Which packets messages sent, and where in a history they stand (ICS 4, "Packet flow & handling").
use Rattle.std.specs.Prelude.{◌≡◌, ℕ, Bool, false, List, Option, Some, None, option_map, Result, IfOk}
use Rattle.std.specs.Option.{option_map_or}
use Rattle.std.specs.List.{position_from}
use Rattle.std.specs.Ordering.{nat_cmp, ordering_then, is_eq}
use Rattle.std.specs.declared.cmp.Ordering.{Ordering}
use Rattle.ibc_ids.specs.Texts.{Text, pair_cmp}
use Rattle.ibc_ids.specs.Maps.{Map, at, with}
use Rattle.ibc_ids.specs.declared.refusal.Refusal.{Refusal}
use Rattle.ibc_wire.specs.declared.packet.Packet.{Packet}
use Rattle.ibc_wire.specs.declared.records.ChannelEnd.{ChannelEnd}
use Rattle.ibc_wire.specs.declared.messages.Message.{Message}
use Rattle.ibc_wire.specs.declared.messages.Message.TheVariants as message
use Rattle.ibc_machine.specs.declared.event.Event.{Event}
use Rattle.ibc_machine.specs.declared.event.Event.TheVariants as event
use Rattle.ibc_machine.specs.declared.reply.Effect.TheVariants as effect
use Rattle.ibc_machine.specs.declared.reply.Reply.{Reply}
use Rattle.ibc_machine.specs.declared.reply.Reply.TheVariants as reply
use Rattle.ibc_machine.specs.chain.Records.{Commitment}
use Rattle.ibc_machine.specs.ics20.TokenData.{one_token, several_tokens}
use Rattle.ibc_machine.specs.ics20.Transfers.{transfer_port, transfer_commitment, transfer_data, transfer_many_data}
use Rattle.ibc_machine.specs.chain.Notes.{note_port, note_commitment}
use Rattle.ibc_machine.specs.promises.Histories.{Happened}

-- what names a packet where it was sent: the port and the name of its end, and its sequence
abbrev pub SentName : Type 0
SentName = (Text × Text) × ℕ

abbrev pub sent_cmp : SentName → SentName → Ordering
sent_cmp a b = ordering_then (pair_cmp a.0 b.0) (nat_cmp a.1 b.1)

-- what is committed of the packet that a message sends
abbrev pub commitment_by : Message → Option Commitment
commitment_by (message.SendNote m) = Some (note_commitment m)
commitment_by (message.Transfer m) =
    Some (transfer_commitment one_token (transfer_data m) m.timeout_height m.timeout_time)
commitment_by (message.TransferMany m) =
    Some (transfer_commitment several_tokens (transfer_many_data m) m.timeout_height m.timeout_time)
commitment_by _ = None

abbrev pub commitment_in : Event → Option Commitment
commitment_in (event.Message k m) = commitment_by m
commitment_in (event.Block k next_time) = None

-- the packet that is committed to so, from an end to the peer of this name
abbrev pub packet_to : Text → Text → ℕ → ChannelEnd → Text → Commitment → Packet
packet_to port channel n end peer c = record {
  sequence = n;
  timeout_height = c.timeout_height;
  timeout_time = c.timeout_time;
  source_port = port;
  source_channel = channel;
  destination_port = end.peer_port;
  destination_channel = peer;
  payload = c.payload;
}

-- a call gives the packet that an event sent from an end to the peer of this name, or none; or it fails
abbrev pub IsPacketOfEvent : Event → Text → Text → ℕ → ChannelEnd → Text → Result (Option Packet) Refusal → Type 0
IsPacketOfEvent event port channel n end peer result =
    IfOk result (λ packet. packet ≡ option_map (λ c. packet_to port channel n end peer c) (commitment_in event))

-- the end from which a message sends
abbrev pub sender_of : Message → Option (Text × Text)
sender_of (message.SendNote m) = Some (note_port, m.channel)
sender_of (message.Transfer m) = Some (transfer_port, m.channel)
sender_of (message.TransferMany m) = Some (transfer_port, m.channel)
sender_of _ = None

-- the packet that is sent from the end, where there is one, by this reply
abbrev pub name_if_sent : Option (Text × Text) → Reply → Option SentName
name_if_sent (Some end) (reply.Ok (effect.Sent n)) = Some (end, n)
name_if_sent _ _ = None

abbrev pub sent_name : Happened → Option SentName
sent_name (event.Message k m, given) = name_if_sent (sender_of m) given
sent_name (event.Block k next_time, given) = None

abbrev pub is_named : SentName → Happened → Bool
is_named name h = option_map_or (λ other. is_eq (sent_cmp name other)) (sent_name h) false

-- the places of packets by their names
abbrev pub Places : Type 0
Places = Map SentName ℕ

-- each packet that was sent stands at the first place that names it
abbrev pub AreFirst : Places → List Happened → Type 0
AreFirst places happened =
    (name : SentName) → at sent_cmp name places ≡ position_from (is_named name) 0 happened

-- a packet is sent at the place, if one is; the first of a name stays
abbrev pub with_first : Option SentName → ℕ → Places → Places
with_first None place places = places
with_first (Some name) place places =
    elim (at sent_cmp name places) [ Some first ↦ places | None ↦ with sent_cmp name place places ]
