use Rattle.std.proofs.Common.{[], ◌∷◌}
use Rattle.ibc_wire.specs.Fields.{one_byte, be64, root32}
use Rattle.ibc_wire.proofs.Writing.{behind}
use Rattle.ibc_entry_codec.proofs.answer.write_block.Goals as goal

pub returns : goal.returns
returns c =
    behind (one_byte 7 ∷ []) (be64 c.args.height ∷ root32 c.args.root.now ∷ []) c.args.out.now.items c.write_u8.new.out.items c.write_root.new.out.items c.write_root.result c.in_ok-write_u8.ensures (
    behind (be64 c.args.height ∷ []) (root32 c.args.root.now ∷ []) c.write_u8.new.out.items c.write_n8.new.out.items c.write_root.new.out.items c.write_root.result c.in_ok-write_n8.ensures c.write_root.ensures)
