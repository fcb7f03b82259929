use Rattle.std.proofs.Common.{[], ◌∷◌}
use Rattle.ibc_ids.specs.Names.{is_client}
use Rattle.ibc_wire.specs.Fields.{name}
use Rattle.ibc_wire.specs.RecordFronts.{header_fields}
use Rattle.ibc_wire.proofs.Writing.{behind}
use Rattle.ibc_message_codec.proofs.clients.UpdateClientPayload.write.Goals as goal

pub returns : goal.returns
returns c =
    let m = c.args.self.now in
    behind (name is_client m.client ∷ []) (header_fields m.header) c.args.out.now.items c.write_name.new.out.items c.write.new.out.items c.write.result c.in_ok-write_name.ensures (
    c.write.ensures)
