-- What messages about packets prove of the other chain, under which keys (ICS 24, "Path-space"), and the messages with
-- their proofs (ICS 4, "Packet flow & handling").
use Rattle.std.specs.Prelude.{ℕ}
use Rattle.ibc_ids.specs.Texts.{Text}
use Rattle.ibc_ids.specs.declared.key.Key.{Key}
use Rattle.ibc_ids.specs.declared.key.Key.TheVariants as key
use Rattle.ibc_wire.specs.declared.packet.Packet.{Packet}
use Rattle.ibc_wire.specs.declared.messages.Message.{Message}
use Rattle.ibc_wire.specs.declared.messages.Message.TheVariants as message

-- ---- keys of a packet: its commitment stands at its source, all else at its destination

abbrev pub commitment_key : Packet → Key
commitment_key p = key.Commitment p.source_port p.source_channel p.sequence

abbrev pub ack_key : Packet → Key
ack_key p = key.Acknowledgement p.destination_port p.destination_channel p.sequence

abbrev pub receipt_key : Packet → Key
receipt_key p = key.Receipt p.destination_port p.destination_channel p.sequence

abbrev pub next_recv_key : Packet → Key
next_recv_key p = key.NextSequenceRecv p.destination_port p.destination_channel

abbrev pub destination_key : Packet → Key
destination_key p = key.ChannelEnd p.destination_port p.destination_channel

-- ---- messages about a packet, with proofs of a height

-- recvPacket
abbrev pub recv_message : Packet → ℕ → Text → Message
recv_message p height proof = message.RecvPacket (record { packet = p; height = height; proof = proof })

-- acknowledgePacket
abbrev pub ack_message : Packet → ℕ → Text → Text → Message
ack_message p height ack proof =
    message.AckPacket (record { packet = p; ack = ack; height = height; proof = proof })

-- timeoutPacket, with the sequence that the peer receives next, 0 where the channel is UNORDERED
abbrev pub timeout_message : Packet → ℕ → ℕ → Text → Message
timeout_message p height next_recv proof =
    message.Timeout (record { packet = p; next_recv = next_recv; height = height; proof = proof })

-- timeoutOnClose, with a second proof, that the peer's end is CLOSED
abbrev pub timeout_on_close_message : Packet → ℕ → ℕ → Text → Text → Message
timeout_on_close_message p height next_recv proof proof_close =
    message.TimeoutOnClose (record {
      packet = p;
      next_recv = next_recv;
      height = height;
      proof = proof;
      proof_close = proof_close;
    })
