use Rattle.std.proofs.Common.{[], ◌∷◌}
use Rattle.ibc_wire.specs.Fields.{one_byte, name}
use Rattle.ibc_wire.proofs.Writing.{behind}
use Rattle.ibc_entry_codec.proofs.answer.write_named.Goals as goal

pub returns : goal.returns
returns g c =
    behind (one_byte c.args.tag ∷ []) (name g.K.NameKind.form c.args.name.now ∷ []) c.args.out.now.items c.write_u8.new.out.items c.write_name.new.out.items c.write_name.result c.in_ok-write_u8.ensures c.write_name.ensures
