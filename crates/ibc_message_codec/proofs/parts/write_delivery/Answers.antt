use Rattle.std.proofs.Common.{[], ◌∷◌}
use Rattle.ibc_ids.specs.Names.{is_memo, is_receiver}
use Rattle.ibc_wire.specs.Fields.{be64, name}
use Rattle.ibc_wire.proofs.Writing.{behind}
use Rattle.ibc_message_codec.proofs.parts.write_delivery.Goals as goal

pub returns : goal.returns
returns c =
    let a = c.args in
    behind (name is_receiver a.receiver.now ∷ []) (name is_memo a.memo.now ∷ be64 a.timeout_height ∷ be64 a.timeout_time ∷ []) a.out.now.items c.write_name.new.out.items c.write_n8-2.new.out.items c.write_n8-2.result c.in_ok-write_name.ensures (
    behind (name is_memo a.memo.now ∷ []) (be64 a.timeout_height ∷ be64 a.timeout_time ∷ []) c.write_name.new.out.items c.write_name-2.new.out.items c.write_n8-2.new.out.items c.write_n8-2.result c.in_ok-write_name-2.ensures (
    behind (be64 a.timeout_height ∷ []) (be64 a.timeout_time ∷ []) c.write_name-2.new.out.items c.write_n8.new.out.items c.write_n8-2.new.out.items c.write_n8-2.result c.in_ok-write_n8.ensures (
    c.write_n8-2.ensures)))
