use Rattle.std.proofs.Common.{[], ◌∷◌}
use Rattle.std.proofs.lemmas.Result.{err_from_is_err_and}
use Rattle.ibc_ids.specs.Names.{is_channel, is_connection, is_port, is_version}
use Rattle.ibc_wire.specs.Fields.{one_byte, be64, str, name}
use Rattle.ibc_wire.specs.Spelling.{order_number}
use Rattle.ibc_wire.proofs.Writing.{refused, none_before, behind}
use Rattle.ibc_message_codec.proofs.channels.ChanOpenTryPayload.write.Goals as goal

pub returns : goal.returns
returns c =
    let m = c.args.self.now in
    behind (name is_port m.port ∷ one_byte (order_number m.order) ∷ name is_connection m.connection ∷ name is_port m.peer_port ∷ []) (name is_channel m.peer_channel ∷ name is_version m.version ∷ be64 m.height ∷ str m.proof ∷ []) c.args.out.now.items c.write_opening.new.out.items c.write_proof.new.out.items c.write_proof.result c.in_ok-write_opening.ensures (
    behind (name is_channel m.peer_channel ∷ []) (name is_version m.version ∷ be64 m.height ∷ str m.proof ∷ []) c.write_opening.new.out.items c.write_name.new.out.items c.write_proof.new.out.items c.write_proof.result c.in_ok-write_name.ensures (
    behind (name is_version m.version ∷ []) (be64 m.height ∷ str m.proof ∷ []) c.write_name.new.out.items c.write_name-2.new.out.items c.write_proof.new.out.items c.write_proof.result c.in_ok-write_name-2.ensures (
    c.write_proof.ensures)))

pub returns-in_err-write_opening : goal.returns-in_err-write_opening
returns-in_err-write_opening c =
    let m = c.args.self.now in
    let p = err_from_is_err_and c.from_residual.result c.from_residual.ensures.1 in
    rw (p.1, p.2) (refused c.in_err-write_opening.field-0.0 (none_before (name is_port m.port ∷ one_byte (order_number m.order) ∷ name is_connection m.connection ∷ name is_port m.peer_port ∷ []) (name is_channel m.peer_channel ∷ name is_version m.version ∷ be64 m.height ∷ str m.proof ∷ [])) c.in_err-write_opening.ensures)
