use Rattle.std.proofs.Common.{[], ◌∷◌}
use Rattle.ibc_ids.specs.Names.{is_denom}
use Rattle.ibc_wire.specs.Fields.{be128, name}
use Rattle.ibc_wire.proofs.Writing.{behind}
use Rattle.ibc_wire.proofs.wire.tokens.TokenWire.write.Goals as goal

pub returns : goal.returns
returns c =
    let t = c.args.self.now in
    behind (name is_denom t.denom ∷ []) (be128 t.amount ∷ []) c.args.out.now.items c.write_name.new.out.items c.write_n16.new.out.items c.write_n16.result c.in_ok-write_name.ensures c.write_n16.ensures
