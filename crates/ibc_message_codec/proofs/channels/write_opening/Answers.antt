use Rattle.std.proofs.Common.{[], ◌∷◌}
use Rattle.ibc_ids.specs.Names.{is_connection, is_port}
use Rattle.ibc_wire.specs.Fields.{one_byte, name}
use Rattle.ibc_wire.specs.Spelling.{order_number}
use Rattle.ibc_wire.proofs.Writing.{behind}
use Rattle.ibc_message_codec.proofs.channels.write_opening.Goals as goal

pub returns : goal.returns
returns c =
    let a = c.args in
    behind (name is_port a.port.now ∷ []) (one_byte (order_number a.order.now) ∷ name is_connection a.connection.now ∷ name is_port a.peer_port.now ∷ []) a.out.now.items c.write_name.new.out.items c.write_name-3.new.out.items c.write_name-3.result c.in_ok-write_name.ensures (
    behind (one_byte (order_number a.order.now) ∷ []) (name is_connection a.connection.now ∷ name is_port a.peer_port.now ∷ []) c.write_name.new.out.items c.write.new.out.items c.write_name-3.new.out.items c.write_name-3.result c.in_ok-write.ensures (
    behind (name is_connection a.connection.now ∷ []) (name is_port a.peer_port.now ∷ []) c.write.new.out.items c.write_name-2.new.out.items c.write_name-3.new.out.items c.write_name-3.result c.in_ok-write_name-2.ensures (
    c.write_name-3.ensures)))
