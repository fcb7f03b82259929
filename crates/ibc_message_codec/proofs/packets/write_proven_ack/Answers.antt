use Rattle.std.proofs.Common.{[], ◌∷◌}
use Rattle.ibc_wire.specs.Fields.{be64, str}
use Rattle.ibc_wire.proofs.Writing.{behind}
use Rattle.ibc_message_codec.proofs.packets.write_proven_ack.Goals as goal

pub returns : goal.returns
returns c =
    let a = c.args in
    behind (str a.ack.now ∷ []) (be64 a.height ∷ str a.proof.now ∷ []) a.out.now.items c.write_str.new.out.items c.write_proof.new.out.items c.write_proof.result c.in_ok-write_str.ensures c.write_proof.ensures
