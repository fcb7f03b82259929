use Rattle.std.proofs.Common.{[], ◌∷◌}
use Rattle.ibc_ids.specs.Names.{is_channel, is_port}
use Rattle.ibc_wire.specs.Fields.{be64, str, name}
use Rattle.ibc_wire.proofs.Writing.{behind}
use Rattle.ibc_message_codec.proofs.channels.ChanOpenConfirmPayload.write.Goals as goal

pub returns : goal.returns
returns c =
    let m = c.args.self.now in
    behind (name is_port m.port ∷ []) (name is_channel m.channel ∷ be64 m.height ∷ str m.proof ∷ []) c.args.out.now.items c.write_name.new.out.items c.write_proof.new.out.items c.write_proof.result c.in_ok-write_name.ensures (
    behind (name is_channel m.channel ∷ []) (be64 m.height ∷ str m.proof ∷ []) c.write_name.new.out.items c.write_name-2.new.out.items c.write_proof.new.out.items c.write_proof.result c.in_ok-write_name-2.ensures (
    c.write_proof.ensures))
