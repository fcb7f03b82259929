use Rattle.std.proofs.Common.{[], ◌∷◌, ◌++◌}
use Rattle.ibc_ids.specs.Names.{is_channel, is_memo, is_receiver, is_user}
use Rattle.ibc_wire.specs.Fields.{be64, name}
use Rattle.ibc_wire.specs.Spelling.{tokens_fields}
use Rattle.ibc_wire.proofs.Writing.{behind}
use Rattle.ibc_message_codec.proofs.transfers.TransferManyPayload.write.Goals as goal

pub returns : goal.returns
returns c =
    let m = c.args.self.now in
    behind (name is_channel m.channel ∷ []) (name is_user m.user ∷ (tokens_fields m.tokens ++ (name is_receiver m.receiver ∷ name is_memo m.memo ∷ be64 m.timeout_height ∷ be64 m.timeout_time ∷ []))) c.args.out.now.items c.write_name.new.out.items c.write_delivery.new.out.items c.write_delivery.result c.in_ok-write_name.ensures (
    behind (name is_user m.user ∷ []) ((tokens_fields m.tokens ++ (name is_receiver m.receiver ∷ name is_memo m.memo ∷ be64 m.timeout_height ∷ be64 m.timeout_time ∷ []))) c.write_name.new.out.items c.write_name-2.new.out.items c.write_delivery.new.out.items c.write_delivery.result c.in_ok-write_name-2.ensures (
    behind (tokens_fields m.tokens) (name is_receiver m.receiver ∷ name is_memo m.memo ∷ be64 m.timeout_height ∷ be64 m.timeout_time ∷ []) c.write_name-2.new.out.items c.write.new.out.items c.write_delivery.new.out.items c.write_delivery.result c.in_ok-write.ensures (
    c.write_delivery.ensures)))
