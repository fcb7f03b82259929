use Rattle.std.proofs.Common.{[], ◌∷◌}
use Rattle.ibc_wire.specs.Fields.{one_byte}
use Rattle.ibc_wire.proofs.Writing.{behind}
use Rattle.ibc_entry_codec.proofs.answer.write_pair.Goals as goal

pub returns : goal.returns
returns c =
    behind (one_byte c.args.first ∷ []) (one_byte c.args.second ∷ []) c.args.out.now.items c.write_u8.new.out.items c.write_u8-2.new.out.items c.write_u8-2.result c.in_ok-write_u8.ensures c.write_u8-2.ensures
