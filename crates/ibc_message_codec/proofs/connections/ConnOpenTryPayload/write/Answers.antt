use Rattle.std.proofs.Common.{[], ◌∷◌, ◌++◌}
use Rattle.ibc_ids.specs.Names.{is_client, is_connection}
use Rattle.ibc_wire.specs.Fields.{be64, str, name}
use Rattle.ibc_wire.specs.Spelling.{client_state_fields}
use Rattle.ibc_wire.proofs.Writing.{behind}
use Rattle.ibc_message_codec.proofs.connections.ConnOpenTryPayload.write.Goals as goal

pub returns : goal.returns
returns c =
    let m = c.args.self.now in
    behind (name is_client m.client ∷ []) (name is_client m.peer_client ∷ name is_connection m.peer_connection ∷ (client_state_fields m.claim ++ (be64 m.height ∷ str m.proof_end ∷ str m.proof_client ∷ []))) c.args.out.now.items c.write_name.new.out.items c.write_proofs.new.out.items c.write_proofs.result c.in_ok-write_name.ensures (
    behind (name is_client m.peer_client ∷ []) (name is_connection m.peer_connection ∷ (client_state_fields m.claim ++ (be64 m.height ∷ str m.proof_end ∷ str m.proof_client ∷ []))) c.write_name.new.out.items c.write_name-2.new.out.items c.write_proofs.new.out.items c.write_proofs.result c.in_ok-write_name-2.ensures (
    behind (name is_connection m.peer_connection ∷ []) ((client_state_fields m.claim ++ (be64 m.height ∷ str m.proof_end ∷ str m.proof_client ∷ []))) c.write_name-2.new.out.items c.write_name-3.new.out.items c.write_proofs.new.out.items c.write_proofs.result c.in_ok-write_name-3.ensures (
    behind (client_state_fields m.claim) (be64 m.height ∷ str m.proof_end ∷ str m.proof_client ∷ []) c.write_name-3.new.out.items c.write.new.out.items c.write_proofs.new.out.items c.write_proofs.result c.in_ok-write.ensures (
    c.write_proofs.ensures))))
