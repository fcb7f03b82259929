use Rattle.std.proofs.Common.{[], ◌∷◌}
use Rattle.ibc_wire.specs.Fields.{be64, str}
use Rattle.ibc_wire.specs.Spelling.{packet_fields}
use Rattle.ibc_wire.proofs.Writing.{behind}
use Rattle.ibc_message_codec.proofs.packets.AckPacketPayload.write.Goals as goal

pub returns : goal.returns
returns c =
    let m = c.args.self.now in
    behind (packet_fields m.packet) (str m.ack ∷ be64 m.height ∷ str m.proof ∷ []) c.args.out.now.items c.write.new.out.items c.write_proven_ack.new.out.items c.write_proven_ack.result c.in_ok-write.ensures c.write_proven_ack.ensures
