-- What the steps of packets leave of a chain's records (ICS 4, "Packet flow & handling").
use Rattle.std.specs.Prelude.{◌≡◌, ℕ, Some, Ok}
use Rattle.ibc_ids.specs.Texts.{Text}
use Rattle.ibc_wire.specs.declared.packet.Packet.{Packet}
use Rattle.ibc_machine.specs.chain.Records.{Channel, Commitment, channel_at, with_channel}
use Rattle.ibc_machine.specs.chain.Checks.{Checked}
use Rattle.ibc_machine.specs.ics04.Packets.{after_send, after_receive, after_ack, after_timeout}
use Rattle.ibc_records.specs.RecordsModel.{RecordsModel, core_of}
use Rattle.ibc_records.specs.HandlerContract.{AreWrittenRecords}

-- what was committed stands under the channel's next sequence, and the one behind it is next
pub record SendsPacket (old : RecordsModel) (port id : Text) (c : Commitment) (n : ℕ) (new : RecordsModel) : Type 0 where
  pub mine : Channel
  pub stood : channel_at (core_of old) port id ≡ Some mine
  pub sequence : n ≡ mine.next_send
  pub written : AreWrittenRecords (with_channel port id (after_send c mine) (core_of old)) old new

-- the application took the packet, and its acknowledgement stands
pub record ReceivesPacket {A : Type 0} (receives : A → Text → Packet → Text × A) (old : RecordsModel) (app : A) (p : Packet) (ack : Text) (new : RecordsModel) (after : A) : Type 0 where
  pub mine : Channel
  pub stood : channel_at (core_of old) p.destination_port p.destination_channel ≡ Some mine
  pub answer : (ack, after) ≡ receives app mine.end.version p
  pub written : AreWrittenRecords (with_channel p.destination_port p.destination_channel (after_receive p.sequence ack mine) (core_of old)) old new

-- the application was told the acknowledgement, and the packet's commitment is gone
pub record AcknowledgesPacket {A : Type 0} (told : A → Text → Packet → Text → Checked A) (old : RecordsModel) (app : A) (p : Packet) (ack : Text) (new : RecordsModel) (after : A) : Type 0 where
  pub mine : Channel
  pub stood : channel_at (core_of old) p.source_port p.source_channel ≡ Some mine
  pub answer : told app mine.end.version p ack ≡ Ok after
  pub written : AreWrittenRecords (with_channel p.source_port p.source_channel (after_ack p.sequence mine) (core_of old)) old new

-- the application was told of the timeout, and the packet's commitment is gone, and an ordered channel closed
pub record TimesOutPacket {A : Type 0} (told : A → Text → Packet → Checked A) (old : RecordsModel) (app : A) (p : Packet) (new : RecordsModel) (after : A) : Type 0 where
  pub mine : Channel
  pub stood : channel_at (core_of old) p.source_port p.source_channel ≡ Some mine
  pub answer : told app mine.end.version p ≡ Ok after
  pub written : AreWrittenRecords (with_channel p.source_port p.source_channel (after_timeout p.sequence mine) (core_of old)) old new
