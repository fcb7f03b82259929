use Rattle.std.proofs.Common.{[], ◌∷◌}
use Rattle.ibc_ids.specs.Names.{is_channel, is_port}
use Rattle.ibc_wire.specs.Fields.{be64, str, name}
use Rattle.ibc_wire.proofs.Writing.{behind}
use Rattle.ibc_wire.proofs.wire.packet.PacketWire.write.Goals as goal

pub returns : goal.returns
returns c =
    let m = c.args.self.now in
    behind (be64 m.sequence ∷ []) (be64 m.timeout_height ∷ be64 m.timeout_time ∷ name is_port m.source_port ∷ name is_channel m.source_channel ∷ name is_port m.destination_port ∷ name is_channel m.destination_channel ∷ str m.payload ∷ []) c.args.out.now.items c.write_n8.new.out.items c.write_str.new.out.items c.write_str.result c.in_ok-write_n8.ensures (
    behind (be64 m.timeout_height ∷ []) (be64 m.timeout_time ∷ name is_port m.source_port ∷ name is_channel m.source_channel ∷ name is_port m.destination_port ∷ name is_channel m.destination_channel ∷ str m.payload ∷ []) c.write_n8.new.out.items c.write_n8-2.new.out.items c.write_str.new.out.items c.write_str.result c.in_ok-write_n8-2.ensures (
    behind (be64 m.timeout_time ∷ []) (name is_port m.source_port ∷ name is_channel m.source_channel ∷ name is_port m.destination_port ∷ name is_channel m.destination_channel ∷ str m.payload ∷ []) c.write_n8-2.new.out.items c.write_n8-3.new.out.items c.write_str.new.out.items c.write_str.result c.in_ok-write_n8-3.ensures (
    behind (name is_port m.source_port ∷ []) (name is_channel m.source_channel ∷ name is_port m.destination_port ∷ name is_channel m.destination_channel ∷ str m.payload ∷ []) c.write_n8-3.new.out.items c.write_name.new.out.items c.write_str.new.out.items c.write_str.result c.in_ok-write_name.ensures (
    behind (name is_channel m.source_channel ∷ []) (name is_port m.destination_port ∷ name is_channel m.destination_channel ∷ str m.payload ∷ []) c.write_name.new.out.items c.write_name-2.new.out.items c.write_str.new.out.items c.write_str.result c.in_ok-write_name-2.ensures (
    behind (name is_port m.destination_port ∷ []) (name is_channel m.destination_channel ∷ str m.payload ∷ []) c.write_name-2.new.out.items c.write_name-3.new.out.items c.write_str.new.out.items c.write_str.result c.in_ok-write_name-3.ensures (
    behind (name is_channel m.destination_channel ∷ []) (str m.payload ∷ []) c.write_name-3.new.out.items c.write_name-4.new.out.items c.write_str.new.out.items c.write_str.result c.in_ok-write_name-4.ensures (
    c.write_str.ensures)))))))
