use Rattle.std.proofs.Common.{[], ◌∷◌}
use Rattle.ibc_wire.specs.Fields.{one_byte, be64}
use Rattle.ibc_wire.proofs.Writing.{behind}
use Rattle.ibc_entry_codec.proofs.answer.write_sent.Goals as goal

pub returns : goal.returns
returns c =
    behind (one_byte 5 ∷ []) (be64 c.args.sequence ∷ []) c.args.out.now.items c.write_u8.new.out.items c.write_n8.new.out.items c.write_n8.result c.in_ok-write_u8.ensures c.write_n8.ensures
