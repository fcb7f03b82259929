use Rattle.std.proofs.Common.{[], ◌∷◌}
use Rattle.ibc_wire.specs.Fields.{one_byte, be64}
use Rattle.ibc_wire.proofs.Writing.{behind}
use Rattle.ibc_entry_codec.specs.Answers.{row_number}
use Rattle.ibc_entry_codec.proofs.answer.write_sight.Goals as goal

pub returns : goal.returns
returns c =
    let seen = c.args.seen.now in
    let end = c.write_u8-2.new.out.items in
    let last = rw c.row_number.ensures at c.write_u8-2.ensures in
    behind (one_byte 1 ∷ []) (be64 seen.published ∷ one_byte (row_number seen.row_was_there) ∷ []) c.args.out.now.items c.write_u8.new.out.items end c.write_u8-2.result c.in_ok-write_u8.ensures (
    behind (be64 seen.published ∷ []) (one_byte (row_number seen.row_was_there) ∷ []) c.write_u8.new.out.items c.write_n8.new.out.items end c.write_u8-2.result c.in_ok-write_n8.ensures last)
