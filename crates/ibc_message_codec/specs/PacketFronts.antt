-- The fields of the messages of packets behind their tags, and how they are read.
use Rattle.std.specs.Prelude.{List, [], ◌∷◌, ◌++◌, Some}
use Rattle.std.specs.Int.{w64}
use Rattle.ibc_ids.specs.Texts.{Text}
use Rattle.ibc_wire.specs.Fields.{Field, be64, str}
use Rattle.ibc_wire.specs.Spelling.{packet_fields}
use Rattle.ibc_wire.specs.Reading.{◌>>=◌, Front, str_at_front}
use Rattle.ibc_wire.specs.Fronts.{number_at_front}
use Rattle.ibc_wire.specs.RecordFronts.{packet_at_front}
use Rattle.ibc_wire.specs.declared.messages.RecvPacket.{RecvPacket}
use Rattle.ibc_wire.specs.declared.messages.AckPacket.{AckPacket}
use Rattle.ibc_wire.specs.declared.messages.Timeout.{Timeout}
use Rattle.ibc_wire.specs.declared.messages.TimeoutOnClose.{TimeoutOnClose}

abbrev pub recv_packet_fields : RecvPacket → List Field
recv_packet_fields m = (packet_fields m.packet ++ (be64 m.height ∷ str m.proof ∷ []))

unfoldable pub recv_packet_at_front : Text → Front RecvPacket
recv_packet_at_front text = do
  packet ← packet_at_front text
  height ← number_at_front w64 packet.1
  proof ← str_at_front 65535 height.1
  Some (record { packet = packet.0; height = height.0; proof = proof.0 }, proof.1)

abbrev pub ack_packet_fields : AckPacket → List Field
ack_packet_fields m = (packet_fields m.packet ++ (str m.ack ∷ be64 m.height ∷ str m.proof ∷ []))

unfoldable pub ack_packet_at_front : Text → Front AckPacket
ack_packet_at_front text = do
  packet ← packet_at_front text
  ack ← str_at_front 65535 packet.1
  height ← number_at_front w64 ack.1
  proof ← str_at_front 65535 height.1
  Some (record { packet = packet.0; ack = ack.0; height = height.0; proof = proof.0 }, proof.1)

abbrev pub timeout_fields : Timeout → List Field
timeout_fields m = (packet_fields m.packet ++ (be64 m.next_recv ∷ be64 m.height ∷ str m.proof ∷ []))

unfoldable pub timeout_at_front : Text → Front Timeout
timeout_at_front text = do
  packet ← packet_at_front text
  next_recv ← number_at_front w64 packet.1
  height ← number_at_front w64 next_recv.1
  proof ← str_at_front 65535 height.1
  Some (record { packet = packet.0; next_recv = next_recv.0; height = height.0; proof = proof.0 }, proof.1)

abbrev pub timeout_on_close_fields : TimeoutOnClose → List Field
timeout_on_close_fields m = (packet_fields m.packet ++ (be64 m.next_recv ∷ be64 m.height ∷ str m.proof ∷ str m.proof_close ∷ []))

unfoldable pub timeout_on_close_at_front : Text → Front TimeoutOnClose
timeout_on_close_at_front text = do
  packet ← packet_at_front text
  next_recv ← number_at_front w64 packet.1
  height ← number_at_front w64 next_recv.1
  proof ← str_at_front 65535 height.1
  proof_close ← str_at_front 65535 proof.1
  Some (record { packet = packet.0; next_recv = next_recv.0; height = height.0; proof = proof.0; proof_close = proof_close.0 }, proof_close.1)
