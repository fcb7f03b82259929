-- The readers of messages behind their tag.
use Rattle.std.proofs.Common.{refl, arith}
use Rattle.ibc_ids.specs.Names.{is_client, is_connection, is_channel, is_port, is_version, is_user, is_denom, is_receiver, is_memo}
use Rattle.ibc_ids.proofs.Ascii.{clients, connections, channels, ports, versions, users, denominations, receivers, memos}
use Rattle.ibc_wire.specs.Lawful.{IsReader}
use Rattle.ibc_message_codec.specs.ClientFronts.{create_client_fields, create_client_at_front, update_client_fields, update_client_at_front}
use Rattle.ibc_message_codec.specs.ConnectionFronts.{conn_open_init_fields, conn_open_init_at_front, conn_open_try_fields, conn_open_try_at_front, conn_open_ack_fields, conn_open_ack_at_front, conn_open_confirm_fields, conn_open_confirm_at_front}
use Rattle.ibc_message_codec.specs.ChannelFronts.{chan_open_init_fields, chan_open_init_at_front, chan_open_try_fields, chan_open_try_at_front, chan_open_ack_fields, chan_open_ack_at_front, chan_open_confirm_fields, chan_open_confirm_at_front, chan_close_init_fields, chan_close_init_at_front, chan_close_confirm_fields, chan_close_confirm_at_front}
use Rattle.ibc_message_codec.specs.PacketFronts.{recv_packet_fields, recv_packet_at_front, ack_packet_fields, ack_packet_at_front, timeout_fields, timeout_at_front, timeout_on_close_fields, timeout_on_close_at_front}
use Rattle.ibc_message_codec.specs.TransferFronts.{transfer_fields, transfer_at_front, send_note_fields, send_note_at_front, transfer_many_fields, transfer_many_at_front}
use Rattle.ibc_wire.proofs.FieldReaders.{first, done, reader_of}
use Rattle.ibc_wire.proofs.Readers.{u8_reader, n8_reader, n16_reader, str_reader, name_reader}
use Rattle.ibc_wire.proofs.RecordReaders.{order_reader, client_state_reader, header_reader, packet_reader}
use Rattle.ibc_wire.proofs.TokenReaders.{tokens_reader}

pub create_client_reader : IsReader create_client_fields create_client_at_front
unfolding create_client_at_front
create_client_reader =
    reader_of (
    first _ (λ m. m.chain) u8_reader λ chain.
    done _ (tt, refl) (λ m p. λ i. record { chain = p.1 i })
    )

pub update_client_reader : IsReader update_client_fields update_client_at_front
unfolding update_client_at_front
update_client_reader =
    reader_of (
    first _ (λ m. m.client) (name_reader is_client clients) λ client.
    first _ (λ m. m.header) header_reader λ header.
    done _ ((tt, refl), refl) (λ m p. λ i. record { client = p.0.1 i; header = p.1 i })
    )

pub conn_open_init_reader : IsReader conn_open_init_fields conn_open_init_at_front
unfolding conn_open_init_at_front
conn_open_init_reader =
    reader_of (
    first _ (λ m. m.client) (name_reader is_client clients) λ client.
    first _ (λ m. m.peer_client) (name_reader is_client clients) λ peer_client.
    done _ ((tt, refl), refl) (λ m p. λ i. record { client = p.0.1 i; peer_client = p.1 i })
    )

pub conn_open_try_reader : IsReader conn_open_try_fields conn_open_try_at_front
unfolding conn_open_try_at_front
conn_open_try_reader =
    reader_of (
    first _ (λ m. m.client) (name_reader is_client clients) λ client.
    first _ (λ m. m.peer_client) (name_reader is_client clients) λ peer_client.
    first _ (λ m. m.peer_connection) (name_reader is_connection connections) λ peer_connection.
    first _ (λ m. m.claim) client_state_reader λ claim.
    first _ (λ m. m.height) n8_reader λ height.
    first _ (λ m. m.proof_end) (str_reader 65535 (omega arith)) λ proof_end.
    first _ (λ m. m.proof_client) (str_reader 65535 (omega arith)) λ proof_client.
    done _ (((((((tt, refl), refl), refl), refl), refl), refl), refl) (λ m p. λ i. record { client = p.0.0.0.0.0.0.1 i; peer_client = p.0.0.0.0.0.1 i; peer_connection = p.0.0.0.0.1 i; claim = p.0.0.0.1 i; height = p.0.0.1 i; proof_end = p.0.1 i; proof_client = p.1 i })
    )

pub conn_open_ack_reader : IsReader conn_open_ack_fields conn_open_ack_at_front
unfolding conn_open_ack_at_front
conn_open_ack_reader =
    reader_of (
    first _ (λ m. m.connection) (name_reader is_connection connections) λ connection.
    first _ (λ m. m.peer_connection) (name_reader is_connection connections) λ peer_connection.
    first _ (λ m. m.claim) client_state_reader λ claim.
    first _ (λ m. m.height) n8_reader λ height.
    first _ (λ m. m.proof_end) (str_reader 65535 (omega arith)) λ proof_end.
    first _ (λ m. m.proof_client) (str_reader 65535 (omega arith)) λ proof_client.
    done _ ((((((tt, refl), refl), refl), refl), refl), refl) (λ m p. λ i. record { connection = p.0.0.0.0.0.1 i; peer_connection = p.0.0.0.0.1 i; claim = p.0.0.0.1 i; height = p.0.0.1 i; proof_end = p.0.1 i; proof_client = p.1 i })
    )

pub conn_open_confirm_reader : IsReader conn_open_confirm_fields conn_open_confirm_at_front
unfolding conn_open_confirm_at_front
conn_open_confirm_reader =
    reader_of (
    first _ (λ m. m.connection) (name_reader is_connection connections) λ connection.
    first _ (λ m. m.height) n8_reader λ height.
    first _ (λ m. m.proof) (str_reader 65535 (omega arith)) λ proof.
    done _ (((tt, refl), refl), refl) (λ m p. λ i. record { connection = p.0.0.1 i; height = p.0.1 i; proof = p.1 i })
    )

pub chan_open_init_reader : IsReader chan_open_init_fields chan_open_init_at_front
unfolding chan_open_init_at_front
chan_open_init_reader =
    reader_of (
    first _ (λ m. m.port) (name_reader is_port ports) λ port.
    first _ (λ m. m.order) order_reader λ order.
    first _ (λ m. m.connection) (name_reader is_connection connections) λ connection.
    first _ (λ m. m.peer_port) (name_reader is_port ports) λ peer_port.
    first _ (λ m. m.version) (name_reader is_version versions) λ version.
    done _ (((((tt, refl), refl), refl), refl), refl) (λ m p. λ i. record { port = p.0.0.0.0.1 i; order = p.0.0.0.1 i; connection = p.0.0.1 i; peer_port = p.0.1 i; version = p.1 i })
    )

pub chan_open_try_reader : IsReader chan_open_try_fields chan_open_try_at_front
unfolding chan_open_try_at_front
chan_open_try_reader =
    reader_of (
    first _ (λ m. m.port) (name_reader is_port ports) λ port.
    first _ (λ m. m.order) order_reader λ order.
    first _ (λ m. m.connection) (name_reader is_connection connections) λ connection.
    first _ (λ m. m.peer_port) (name_reader is_port ports) λ peer_port.
    first _ (λ m. m.peer_channel) (name_reader is_channel channels) λ peer_channel.
    first _ (λ m. m.version) (name_reader is_version versions) λ version.
    first _ (λ m. m.height) n8_reader λ height.
    first _ (λ m. m.proof) (str_reader 65535 (omega arith)) λ proof.
    done _ ((((((((tt, refl), refl), refl), refl), refl), refl), refl), refl) (λ m p. λ i. record { port = p.0.0.0.0.0.0.0.1 i; order = p.0.0.0.0.0.0.1 i; connection = p.0.0.0.0.0.1 i; peer_port = p.0.0.0.0.1 i; peer_channel = p.0.0.0.1 i; version = p.0.0.1 i; height = p.0.1 i; proof = p.1 i })
    )

pub chan_open_ack_reader : IsReader chan_open_ack_fields chan_open_ack_at_front
unfolding chan_open_ack_at_front
chan_open_ack_reader =
    reader_of (
    first _ (λ m. m.port) (name_reader is_port ports) λ port.
    first _ (λ m. m.channel) (name_reader is_channel channels) λ channel.
    first _ (λ m. m.peer_channel) (name_reader is_channel channels) λ peer_channel.
    first _ (λ m. m.height) n8_reader λ height.
    first _ (λ m. m.proof) (str_reader 65535 (omega arith)) λ proof.
    done _ (((((tt, refl), refl), refl), refl), refl) (λ m p. λ i. record { port = p.0.0.0.0.1 i; channel = p.0.0.0.1 i; peer_channel = p.0.0.1 i; height = p.0.1 i; proof = p.1 i })
    )

pub chan_open_confirm_reader : IsReader chan_open_confirm_fields chan_open_confirm_at_front
unfolding chan_open_confirm_at_front
chan_open_confirm_reader =
    reader_of (
    first _ (λ m. m.port) (name_reader is_port ports) λ port.
    first _ (λ m. m.channel) (name_reader is_channel channels) λ channel.
    first _ (λ m. m.height) n8_reader λ height.
    first _ (λ m. m.proof) (str_reader 65535 (omega arith)) λ proof.
    done _ ((((tt, refl), refl), refl), refl) (λ m p. λ i. record { port = p.0.0.0.1 i; channel = p.0.0.1 i; height = p.0.1 i; proof = p.1 i })
    )

pub chan_close_init_reader : IsReader chan_close_init_fields chan_close_init_at_front
unfolding chan_close_init_at_front
chan_close_init_reader =
    reader_of (
    first _ (λ m. m.port) (name_reader is_port ports) λ port.
    first _ (λ m. m.channel) (name_reader is_channel channels) λ channel.
    done _ ((tt, refl), refl) (λ m p. λ i. record { port = p.0.1 i; channel = p.1 i })
    )

pub chan_close_confirm_reader : IsReader chan_close_confirm_fields chan_close_confirm_at_front
unfolding chan_close_confirm_at_front
chan_close_confirm_reader =
    reader_of (
    first _ (λ m. m.port) (name_reader is_port ports) λ port.
    first _ (λ m. m.channel) (name_reader is_channel channels) λ channel.
    first _ (λ m. m.height) n8_reader λ height.
    first _ (λ m. m.proof) (str_reader 65535 (omega arith)) λ proof.
    done _ ((((tt, refl), refl), refl), refl) (λ m p. λ i. record { port = p.0.0.0.1 i; channel = p.0.0.1 i; height = p.0.1 i; proof = p.1 i })
    )

pub transfer_reader : IsReader transfer_fields transfer_at_front
unfolding transfer_at_front
transfer_reader =
    reader_of (
    first _ (λ m. m.channel) (name_reader is_channel channels) λ channel.
    first _ (λ m. m.user) (name_reader is_user users) λ user.
    first _ (λ m. m.denom) (name_reader is_denom denominations) λ denom.
    first _ (λ m. m.amount) n16_reader λ amount.
    first _ (λ m. m.receiver) (name_reader is_receiver receivers) λ receiver.
    first _ (λ m. m.memo) (name_reader is_memo memos) λ memo.
    first _ (λ m. m.timeout_height) n8_reader λ timeout_height.
    first _ (λ m. m.timeout_time) n8_reader λ timeout_time.
    done _ ((((((((tt, refl), refl), refl), refl), refl), refl), refl), refl) (λ m p. λ i. record { channel = p.0.0.0.0.0.0.0.1 i; user = p.0.0.0.0.0.0.1 i; denom = p.0.0.0.0.0.1 i; amount = p.0.0.0.0.1 i; receiver = p.0.0.0.1 i; memo = p.0.0.1 i; timeout_height = p.0.1 i; timeout_time = p.1 i })
    )

pub send_note_reader : IsReader send_note_fields send_note_at_front
unfolding send_note_at_front
send_note_reader =
    reader_of (
    first _ (λ m. m.channel) (name_reader is_channel channels) λ channel.
    first _ (λ m. m.payload) (str_reader 65535 (omega arith)) λ payload.
    first _ (λ m. m.timeout_height) n8_reader λ timeout_height.
    first _ (λ m. m.timeout_time) n8_reader λ timeout_time.
    done _ ((((tt, refl), refl), refl), refl) (λ m p. λ i. record { channel = p.0.0.0.1 i; payload = p.0.0.1 i; timeout_height = p.0.1 i; timeout_time = p.1 i })
    )

pub recv_packet_reader : IsReader recv_packet_fields recv_packet_at_front
unfolding recv_packet_at_front
recv_packet_reader =
    reader_of (
    first _ (λ m. m.packet) packet_reader λ packet.
    first _ (λ m. m.height) n8_reader λ height.
    first _ (λ m. m.proof) (str_reader 65535 (omega arith)) λ proof.
    done _ (((tt, refl), refl), refl) (λ m p. λ i. record { packet = p.0.0.1 i; height = p.0.1 i; proof = p.1 i })
    )

pub ack_packet_reader : IsReader ack_packet_fields ack_packet_at_front
unfolding ack_packet_at_front
ack_packet_reader =
    reader_of (
    first _ (λ m. m.packet) packet_reader λ packet.
    first _ (λ m. m.ack) (str_reader 65535 (omega arith)) λ ack.
    first _ (λ m. m.height) n8_reader λ height.
    first _ (λ m. m.proof) (str_reader 65535 (omega arith)) λ proof.
    done _ ((((tt, refl), refl), refl), refl) (λ m p. λ i. record { packet = p.0.0.0.1 i; ack = p.0.0.1 i; height = p.0.1 i; proof = p.1 i })
    )

pub timeout_reader : IsReader timeout_fields timeout_at_front
unfolding timeout_at_front
timeout_reader =
    reader_of (
    first _ (λ m. m.packet) packet_reader λ packet.
    first _ (λ m. m.next_recv) n8_reader λ next_recv.
    first _ (λ m. m.height) n8_reader λ height.
    first _ (λ m. m.proof) (str_reader 65535 (omega arith)) λ proof.
    done _ ((((tt, refl), refl), refl), refl) (λ m p. λ i. record { packet = p.0.0.0.1 i; next_recv = p.0.0.1 i; height = p.0.1 i; proof = p.1 i })
    )

pub timeout_on_close_reader : IsReader timeout_on_close_fields timeout_on_close_at_front
unfolding timeout_on_close_at_front
timeout_on_close_reader =
    reader_of (
    first _ (λ m. m.packet) packet_reader λ packet.
    first _ (λ m. m.next_recv) n8_reader λ next_recv.
    first _ (λ m. m.height) n8_reader λ height.
    first _ (λ m. m.proof) (str_reader 65535 (omega arith)) λ proof.
    first _ (λ m. m.proof_close) (str_reader 65535 (omega arith)) λ proof_close.
    done _ (((((tt, refl), refl), refl), refl), refl) (λ m p. λ i. record { packet = p.0.0.0.0.1 i; next_recv = p.0.0.0.1 i; height = p.0.0.1 i; proof = p.0.1 i; proof_close = p.1 i })
    )

pub transfer_many_reader : IsReader transfer_many_fields transfer_many_at_front
unfolding transfer_many_at_front
transfer_many_reader =
    reader_of (
    first _ (λ m. m.channel) (name_reader is_channel channels) λ channel.
    first _ (λ m. m.user) (name_reader is_user users) λ user.
    first _ (λ m. m.tokens) tokens_reader λ tokens.
    first _ (λ m. m.receiver) (name_reader is_receiver receivers) λ receiver.
    first _ (λ m. m.memo) (name_reader is_memo memos) λ memo.
    first _ (λ m. m.timeout_height) n8_reader λ timeout_height.
    first _ (λ m. m.timeout_time) n8_reader λ timeout_time.
    done _ (((((((tt, refl), refl), refl), refl), refl), refl), refl) (λ m p. λ i. record { channel = p.0.0.0.0.0.0.1 i; user = p.0.0.0.0.0.1 i; tokens = p.0.0.0.0.1 i; receiver = p.0.0.0.1 i; memo = p.0.0.1 i; timeout_height = p.0.1 i; timeout_time = p.1 i })
    )
