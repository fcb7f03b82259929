use Rattle.std.proofs.Common.{[], ◌∷◌}
use Rattle.ibc_wire.specs.Fields.{one_byte, be64, root32}
use Rattle.ibc_wire.proofs.Writing.{behind}
use Rattle.ibc_wire.proofs.wire.header.HeaderWire.write.Goals as goal

pub returns : goal.returns
returns c =
    let m = c.args.self.now in
    behind (one_byte m.chain ∷ []) (be64 m.height ∷ be64 m.time ∷ root32 m.root ∷ []) c.args.out.now.items c.write_u8.new.out.items c.write_root.new.out.items c.write_root.result c.in_ok-write_u8.ensures (
    behind (be64 m.height ∷ []) (be64 m.time ∷ root32 m.root ∷ []) c.write_u8.new.out.items c.write_n8.new.out.items c.write_root.new.out.items c.write_root.result c.in_ok-write_n8.ensures (
    behind (be64 m.time ∷ []) (root32 m.root ∷ []) c.write_n8.new.out.items c.write_n8-2.new.out.items c.write_root.new.out.items c.write_root.result c.in_ok-write_n8-2.ensures (
    c.write_root.ensures)))
