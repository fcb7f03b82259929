-- How messages are spelled (this project's profile): a tag, and the fields in order.
use Rattle.std.specs.Prelude.{List, [], ◌∷◌, ◌++◌}
use Rattle.ibc_ids.specs.Names.{is_client, is_connection, is_channel, is_port, is_version, is_user, is_denom, is_receiver, is_memo}
use Rattle.ibc_wire.specs.Fields.{Field, one_byte, be64, be128, str, root32, name}
use Rattle.ibc_wire.specs.Spelling.{order_number, packet_fields, tokens_fields}
use Rattle.ibc_wire.specs.declared.messages.Message.{Message}
use Rattle.ibc_wire.specs.declared.messages.Message.TheVariants as message

abbrev pub message_fields : Message → List Field
message_fields (message.CreateClient m) = one_byte 1 ∷ one_byte m.chain ∷ []
message_fields (message.UpdateClient m) =
    one_byte 2 ∷ name is_client m.client ∷ one_byte m.header.chain ∷ be64 m.header.height ∷ be64 m.header.time
    ∷ root32 m.header.root ∷ []
message_fields (message.ConnOpenInit m) = one_byte 3 ∷ name is_client m.client ∷ name is_client m.peer_client ∷ []
message_fields (message.ConnOpenTry m) =
    one_byte 4 ∷ name is_client m.client ∷ name is_client m.peer_client
    ∷ name is_connection m.peer_connection ∷ one_byte m.claim.chain ∷ be64 m.claim.latest ∷ be64 m.height
    ∷ str m.proof_end ∷ str m.proof_client ∷ []
message_fields (message.ConnOpenAck m) =
    one_byte 5 ∷ name is_connection m.connection ∷ name is_connection m.peer_connection
    ∷ one_byte m.claim.chain ∷ be64 m.claim.latest ∷ be64 m.height ∷ str m.proof_end ∷ str m.proof_client
    ∷ []
message_fields (message.ConnOpenConfirm m) =
    one_byte 6 ∷ name is_connection m.connection ∷ be64 m.height ∷ str m.proof ∷ []
message_fields (message.ChanOpenInit m) =
    one_byte 7 ∷ name is_port m.port ∷ one_byte (order_number m.order) ∷ name is_connection m.connection
    ∷ name is_port m.peer_port ∷ name is_version m.version ∷ []
message_fields (message.ChanOpenTry m) =
    one_byte 8 ∷ name is_port m.port ∷ one_byte (order_number m.order) ∷ name is_connection m.connection
    ∷ name is_port m.peer_port ∷ name is_channel m.peer_channel ∷ name is_version m.version
    ∷ be64 m.height ∷ str m.proof ∷ []
message_fields (message.ChanOpenAck m) =
    one_byte 9 ∷ name is_port m.port ∷ name is_channel m.channel ∷ name is_channel m.peer_channel
    ∷ be64 m.height ∷ str m.proof ∷ []
message_fields (message.ChanOpenConfirm m) =
    one_byte 10 ∷ name is_port m.port ∷ name is_channel m.channel ∷ be64 m.height ∷ str m.proof ∷ []
message_fields (message.ChanCloseInit m) = one_byte 11 ∷ name is_port m.port ∷ name is_channel m.channel ∷ []
message_fields (message.ChanCloseConfirm m) =
    one_byte 12 ∷ name is_port m.port ∷ name is_channel m.channel ∷ be64 m.height ∷ str m.proof ∷ []
message_fields (message.Transfer m) =
    one_byte 13 ∷ name is_channel m.channel ∷ name is_user m.user ∷ name is_denom m.denom
    ∷ be128 m.amount ∷ name is_receiver m.receiver ∷ name is_memo m.memo ∷ be64 m.timeout_height
    ∷ be64 m.timeout_time ∷ []
message_fields (message.SendNote m) =
    one_byte 14 ∷ name is_channel m.channel ∷ str m.payload ∷ be64 m.timeout_height ∷ be64 m.timeout_time
    ∷ []
message_fields (message.RecvPacket m) = one_byte 15 ∷ packet_fields m.packet ++ be64 m.height ∷ str m.proof ∷ []
message_fields (message.AckPacket m) = one_byte 16 ∷ packet_fields m.packet ++ str m.ack ∷ be64 m.height ∷ str m.proof ∷ []
message_fields (message.Timeout m) = one_byte 17 ∷ packet_fields m.packet ++ be64 m.next_recv ∷ be64 m.height ∷ str m.proof ∷ []
message_fields (message.TimeoutOnClose m) =
    one_byte 18 ∷ packet_fields m.packet ++ be64 m.next_recv ∷ be64 m.height ∷ str m.proof ∷ str m.proof_close
    ∷ []
message_fields (message.TransferMany m) =
    one_byte 19 ∷ name is_channel m.channel ∷ name is_user m.user ∷ tokens_fields m.tokens
    ++ name is_receiver m.receiver ∷ name is_memo m.memo ∷ be64 m.timeout_height ∷ be64 m.timeout_time
    ∷ []
