use Rattle.std.proofs.Common.{[], ◌∷◌}
use Rattle.ibc_ids.specs.Names.{is_channel}
use Rattle.ibc_wire.specs.Fields.{be64, str, name}
use Rattle.ibc_wire.proofs.Writing.{behind}
use Rattle.ibc_message_codec.proofs.transfers.SendNotePayload.write.Goals as goal

pub returns : goal.returns
returns c =
    let m = c.args.self.now in
    behind (name is_channel m.channel ∷ []) (str m.payload ∷ be64 m.timeout_height ∷ be64 m.timeout_time ∷ []) c.args.out.now.items c.write_name.new.out.items c.write_n8-2.new.out.items c.write_n8-2.result c.in_ok-write_name.ensures (
    behind (str m.payload ∷ []) (be64 m.timeout_height ∷ be64 m.timeout_time ∷ []) c.write_name.new.out.items c.write_str.new.out.items c.write_n8-2.new.out.items c.write_n8-2.result c.in_ok-write_str.ensures (
    behind (be64 m.timeout_height ∷ []) (be64 m.timeout_time ∷ []) c.write_str.new.out.items c.write_n8.new.out.items c.write_n8-2.new.out.items c.write_n8-2.result c.in_ok-write_n8.ensures (
    c.write_n8-2.ensures)))
