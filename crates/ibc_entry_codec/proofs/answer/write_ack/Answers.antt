use Rattle.std.proofs.Common.{[], ◌∷◌}
use Rattle.ibc_wire.specs.Fields.{one_byte, str}
use Rattle.ibc_wire.proofs.Writing.{behind}
use Rattle.ibc_entry_codec.proofs.answer.write_ack.Goals as goal

pub returns : goal.returns
returns c =
    behind (one_byte 6 ∷ []) (str c.args.ack.now ∷ []) c.args.out.now.items c.write_u8.new.out.items c.write_str.new.out.items c.write_str.result c.in_ok-write_u8.ensures c.write_str.ensures
