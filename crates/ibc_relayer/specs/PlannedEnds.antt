-- What is planned for an end with its peer, by all that is known of both (ICS 18, "Relayer algorithm": pending datagrams).
use Rattle.std.specs.Prelude.{◌≡◌, ◌&&◌, ◌||◌, ℕ, Bool, is_some, List, Option}
use Rattle.std.specs.List.{filter_map}
use Rattle.ibc_ids.specs.Texts.{Text, same_text, text_cmp}
use Rattle.ibc_ids.specs.Maps.{Map, at}
use Rattle.ibc_ids.specs.declared.key.Key.TheVariants as key
use Rattle.ibc_wire.specs.declared.messages.Message.{Message}
use Rattle.ibc_machine.specs.chain.Records.{Commitment}
use Rattle.ibc_machine.specs.ics04.Channels.{peer_channel_of}
use Rattle.ibc_machine.specs.ics04.Proving.{commitment_key, ack_key, destination_key, recv_message, ack_message, timeout_message, timeout_on_close_message}
use Rattle.ibc_machine.specs.ics18.Relay.{proof_at, unreceived_key, next_recv, pending_at, pending_message}
use Rattle.ibc_relayer.specs.declared.ends.Ends.{Ends}
use Rattle.ibc_relayer.specs.EndPackets.{packet_between, peer_of, unreceived_at, receive_message_at, ack_message_at, timeout_message_at, end_messages}
use Rattle.ibc_relayer.specs.UsedClients.{is_over_client}

-- ---- the messages of an end

-- all messages for the end
abbrev pub messages_for : Ends → List Message
messages_for ends = end_messages ends.a.now ends.b.now (ends.port.now, ends.channel.now) ends.mine.now ends.theirs.now

-- the messages that have the packets received that the peer sent (ICS 4, recvPacket)
abbrev pub receive_messages : Ends → List Message
receive_messages ends =
    filter_map (receive_message_at ends.a.now ends.b.now (ends.port.now, ends.channel.now) ends.mine.now) ends.theirs.now.commitments

-- the messages that tell the end of the acknowledgements that the peer wrote (ICS 4, acknowledgePacket)
abbrev pub ack_messages : Ends → List Message
ack_messages ends =
    filter_map (ack_message_at ends.a.now (ends.port.now, ends.channel.now) ends.mine.now ends.theirs.now) ends.mine.now.commitments

-- the messages that end the packets that the peer won't receive any more (ICS 4, timeoutPacket and timeoutOnClose)
abbrev pub timeout_messages : Ends → List Message
timeout_messages ends =
    filter_map (timeout_message_at ends.a.now (ends.port.now, ends.channel.now) ends.mine.now ends.theirs.now) ends.mine.now.commitments

-- ---- the message of a packet, if it is due

-- the packet of a sequence that the peer sent is to be received
abbrev pub receive_message_for : Ends → ℕ → Commitment → Option Message
receive_message_for ends n c =
    receive_message_at ends.a.now ends.b.now (ends.port.now, ends.channel.now) ends.mine.now (n, c)

-- the packet of a sequence that the end sent was acknowledged
abbrev pub ack_message_for : Ends → ℕ → Commitment → Option Message
ack_message_for ends n c =
    ack_message_at ends.a.now (ends.port.now, ends.channel.now) ends.mine.now ends.theirs.now (n, c)

-- the packet of a sequence that the end sent won't be received any more
abbrev pub timeout_message_for : Ends → ℕ → Commitment → Option Message
timeout_message_for ends n c =
    timeout_message_at ends.a.now (ends.port.now, ends.channel.now) ends.mine.now ends.theirs.now (n, c)

-- ---- the messages as they are made, with their proofs

-- the message that has the packet of a sequence received (ICS 4, recvPacket)
abbrev pub IsRecvMessage : Ends → ℕ → Commitment → Message → Type 0
IsRecvMessage ends n c made =
    let packet = packet_between (peer_of ends.mine.now) (ends.port.now, ends.channel.now) n c in
    made ≡ recv_message packet ends.a.now.height (proof_at ends.a.now (commitment_key packet))

-- the message that tells of the packet's acknowledgement (ICS 4, acknowledgePacket)
abbrev pub IsAckMessage : Ends → ℕ → Commitment → Text → Message → Type 0
IsAckMessage ends n c ack made =
    let packet = packet_between (ends.port.now, ends.channel.now) (peer_of ends.mine.now) n c in
    made ≡ ack_message packet ends.a.now.height ack (proof_at ends.a.now (ack_key packet))

-- the message that ends a packet for which it is too late (ICS 4, timeoutPacket)
abbrev pub IsTimeoutMessage : Ends → ℕ → Commitment → Message → Type 0
IsTimeoutMessage ends n c made =
    let packet = packet_between (ends.port.now, ends.channel.now) (peer_of ends.mine.now) n c in
    made ≡ timeout_message packet ends.a.now.height (next_recv ends.mine.now ends.theirs.now) (proof_at ends.a.now (unreceived_key ends.mine.now packet))

-- the message that ends a packet whose peer is CLOSED (ICS 4, timeoutOnClose)
abbrev pub IsTimeoutOnCloseMessage : Ends → ℕ → Commitment → Message → Type 0
IsTimeoutOnCloseMessage ends n c made =
    let packet = packet_between (ends.port.now, ends.channel.now) (peer_of ends.mine.now) n c in
    made ≡ timeout_on_close_message packet ends.a.now.height (next_recv ends.mine.now ends.theirs.now)
    (proof_at ends.a.now (unreceived_key ends.mine.now packet)) (proof_at ends.a.now (destination_key packet))

-- ---- the proofs

-- the proof that the peer has committed to a sequence
abbrev pub proof_of_commitment : Ends → ℕ → Text
proof_of_commitment ends n = proof_at ends.a.now (key.Commitment ends.mine.now.end.peer_port (peer_channel_of ends.mine.now.end) n)

-- the proof of the acknowledgement that the peer wrote for a sequence
abbrev pub proof_of_ack : Ends → ℕ → Text
proof_of_ack ends n = proof_at ends.a.now (key.Acknowledgement ends.mine.now.end.peer_port (peer_channel_of ends.mine.now.end) n)

-- the proof that shows whether the peer has received a sequence
abbrev pub proof_of_unreceived : Ends → ℕ → Text
proof_of_unreceived ends n = proof_at ends.a.now (unreceived_at ends.mine.now n)

-- ---- what is pending at the end

-- the messages that are pending at the end
abbrev pub pending_messages : Ends → List Message
pending_messages ends =
    filter_map (pending_message ends.a.now ends.b.now) (pending_at ends.a.now ends.b.now ((ends.port.now, ends.channel.now), ends.mine.now))

-- what is pending at the end goes over its client and no other, or nothing is pending
abbrev pub GoesOverItsClient : Ends → Bool → Type 0
GoesOverItsClient ends any = (id : Text)
    → is_over_client ends.b.now id (pending_at ends.a.now ends.b.now ((ends.port.now, ends.channel.now), ends.mine.now)) ≡ (any && same_text ends.client.now id)

-- the clients over which what is pending at the end goes are used too
abbrev pub UsesMore : Ends → Map Text (Unit {0}) → Map Text (Unit {0}) → Type 0
UsesMore ends old new = (id : Text)
    → is_some (at text_cmp id new)
    ≡ (is_over_client ends.b.now id (pending_at ends.a.now ends.b.now ((ends.port.now, ends.channel.now), ends.mine.now))
    || is_some (at text_cmp id old))
