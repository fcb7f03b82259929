-- The parts of a channel, and what a packet's step sets beside the packet's own records (ICS 4, "recvPacket", "acknowledgePacket"
-- and "timeoutPacket"; ICS 24, "Path-space").
use Rattle.std.specs.Prelude.{ℕ, ◌+◌, Option, Some, None, if◌then◌else◌}
use Rattle.ibc_ids.specs.Texts.{Text}
use Rattle.ibc_ids.specs.Paths.{path}
use Rattle.ibc_ids.specs.declared.key.Key.{Key}
use Rattle.ibc_ids.specs.declared.key.Key.TheVariants as key
use Rattle.ibc_wire.specs.declared.records.ChannelState.TheVariants.{Closed}
use Rattle.ibc_machine.specs.chain.Records.{Channel}
use Rattle.ibc_machine.specs.ics04.Packets.{is_ordered}
use Rattle.ibc_machine.specs.ics24.Values.{Value, ChannelIs, NumberIs, ReceiptIs, value_bytes}

-- what a channel proves: its end, its counters, and by sequence what stands of its packets
pub data Part : Type 0 where
  End : Part
  NextSend : Part
  NextRecv : Part
  NextAck : Part
  CommitmentOf : ℕ → Part
  ReceiptOf : ℕ → Part
  AckOf : ℕ → Part

abbrev pub key_of : Text → Text → Part → Key
key_of port id End = key.ChannelEnd port id
key_of port id NextSend = key.NextSequenceSend port id
key_of port id NextRecv = key.NextSequenceRecv port id
key_of port id NextAck = key.NextSequenceAck port id
key_of port id (CommitmentOf n) = key.Commitment port id n
key_of port id (ReceiptOf n) = key.Receipt port id n
key_of port id (AckOf n) = key.Acknowledgement port id n

-- its path with the bytes that stand there
abbrev pub entry_of : Text → Text → Part × Value → Text × Text
entry_of port id entry = (path (key_of port id entry.0), value_bytes entry.1)

-- what is written beside the acknowledgement: the counter of an ordered channel, or a receipt
abbrev pub part_after_receive : ℕ → Channel → Part × Value
part_after_receive n mine = if is_ordered mine then (NextRecv, NumberIs (mine.next_recv + 1)) else (ReceiptOf n, ReceiptIs)

-- what is written where the commitment is removed: the counter of an ordered channel
abbrev pub part_after_ack : Channel → Option (Part × Value)
part_after_ack mine = if is_ordered mine then Some (NextAck, NumberIs (mine.next_ack + 1)) else None

-- or its end
abbrev pub part_after_timeout : Channel → Option (Part × Value)
part_after_timeout mine = if is_ordered mine then Some (End, ChannelIs (record mine.end { state = Closed })) else None
