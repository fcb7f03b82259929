use Rattle.std.proofs.Common.{◌∷◌, []}
use Rattle.std.proofs.lemmas.Result.{err_from_is_err_and}
use Rattle.ibc_wire.specs.Fields.{one_byte}
use Rattle.ibc_wire.proofs.Writing.{refused, none_before, behind}
use Rattle.ibc_message_codec.proofs.payload.write_tagged.Goals as goal

pub returns-in_err-write_u8 : goal.returns-in_err-write_u8
returns-in_err-write_u8 g c =
    let p = err_from_is_err_and c.from_residual.result c.from_residual.ensures.1 in
    rw (p.1, p.2) (refused c.in_err-write_u8.field-0.0 (none_before (one_byte c.args.tag ∷ []) (g.T.Payload.fields c.args.value.now)) c.in_err-write_u8.ensures)

pub returns : goal.returns
returns g c =
    behind (one_byte c.args.tag ∷ []) (g.T.Payload.fields c.args.value.now) c.args.out.now.items c.write_u8.new.out.items c.write.new.out.items c.write.result c.in_ok-write_u8.ensures c.write.ensures
