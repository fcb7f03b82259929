-- What is planned for an end, where each message is made as its packet is found (ICS 18, "Relayer algorithm": pending
-- datagrams).
use Rattle.std.specs.Prelude.{◌≡◌, ℕ, ◌||◌, Bool, true, false, List, [], ◌++◌, Option, Some, None, IfSome, if◌then◌else◌}
use Rattle.std.specs.List.{filter_map}
use Rattle.std.specs.Option.{option_map}
use Rattle.std.specs.Ordering.{nat_cmp}
use Rattle.ibc_ids.specs.Texts.{Text}
use Rattle.ibc_ids.specs.Maps.{at}
use Rattle.ibc_ids.specs.declared.key.Key.{Key}
use Rattle.ibc_ids.specs.declared.key.Key.TheVariants as key
use Rattle.ibc_wire.specs.declared.records.ChannelState.TheVariants.{Open, Closed}
use Rattle.ibc_wire.specs.declared.packet.Packet.{Packet}
use Rattle.ibc_wire.specs.declared.messages.Message.{Message}
use Rattle.ibc_machine.specs.chain.Records.{Channel, Commitment}
use Rattle.ibc_machine.specs.ics04.Channels.{is_in_state, peer_channel_of}
use Rattle.ibc_machine.specs.ics04.Packets.{is_ordered}
use Rattle.ibc_machine.specs.ics04.Proving.{commitment_key, ack_key, recv_message, ack_message}
use Rattle.ibc_machine.specs.ics18.Relay.{View, is_to_receive, timeout_kind, proof_at, message_of}

-- an end by its port and its name
abbrev pub EndName : Type 0
EndName = Text × Text

-- the packet of a sequence from an end to another
abbrev pub packet_between : EndName → EndName → ℕ → Commitment → Packet
packet_between from to n c = record {
  sequence = n;
  timeout_height = c.timeout_height;
  timeout_time = c.timeout_time;
  source_port = from.0;
  source_channel = from.1;
  destination_port = to.0;
  destination_channel = to.1;
  payload = c.payload;
}

-- the end's peer
abbrev pub peer_of : Channel → EndName
peer_of mine = (mine.end.peer_port, peer_channel_of mine.end)

-- the key that shows whether the peer has received a sequence of the end
abbrev pub unreceived_at : Channel → ℕ → Key
unreceived_at mine n =
    if is_ordered mine then key.NextSequenceRecv mine.end.peer_port (peer_channel_of mine.end)
    else key.Receipt mine.end.peer_port (peer_channel_of mine.end) n

-- the proof of the end's peer
abbrev pub closed_proof : View → Channel → Text
closed_proof a mine = proof_at a (key.ChannelEnd mine.end.peer_port (peer_channel_of mine.end))

-- what is kept of it, if something is
abbrev pub IsClosedProof : View → Channel → Option Text → Type 0
IsClosedProof a mine kept = IfSome kept (λ proof. proof ≡ closed_proof a mine)

abbrev pub message_if : Bool → Message → Option Message
message_if true m = Some m
message_if false m = None

-- a packet that the peer sent is to be received
abbrev pub receive_message_at : View → View → EndName → Channel → ℕ × Commitment → Option Message
receive_message_at a b place mine entry =
    let p = packet_between (peer_of mine) place entry.0 entry.1 in
    message_if (is_to_receive b mine entry) (recv_message p a.height (proof_at a (commitment_key p)))

-- a packet that the end sent was acknowledged
abbrev pub ack_message_at : View → EndName → Channel → Channel → ℕ × Commitment → Option Message
ack_message_at a place mine theirs entry =
    let p = packet_between place (peer_of mine) entry.0 entry.1 in
    option_map (λ ack. ack_message p a.height ack (proof_at a (ack_key p))) (at nat_cmp entry.0 theirs.acks)

-- a packet that the end sent won't be received any more
abbrev pub timeout_message_at : View → EndName → Channel → Channel → ℕ × Commitment → Option Message
timeout_message_at a place mine theirs entry =
    option_map (λ kind. message_of a mine theirs kind (packet_between place (peer_of mine) entry.0 entry.1) [])
    (timeout_kind a theirs entry)

abbrev pub messages_if : Bool → List Message → List Message
messages_if true all = all
messages_if false all = []

-- all messages for an end of b, whose peer on a is theirs
abbrev pub end_messages : View → View → EndName → Channel → Channel → List Message
end_messages a b place mine theirs =
    let open_ : Bool = is_in_state Open mine in
    messages_if open_ (filter_map (receive_message_at a b place mine) theirs.commitments)
    ++ messages_if open_ (filter_map (ack_message_at a place mine theirs) mine.commitments)
    ++ messages_if (open_ || is_in_state Closed mine) (filter_map (timeout_message_at a place mine theirs) mine.commitments)
