-- The readers of records, packets and tokens.
use Rattle.std.proofs.Common.{◌≡◌, ℕ, zero, suc, true, nat_lt, ◌==◌, codes, [], ◌∷◌, Some, refl, ap, arith}
use Rattle.ibc_ids.specs.Names.{is_client, is_connection, is_channel, is_port, is_version}
use Rattle.ibc_ids.proofs.Ascii.{clients, connections, channels, ports, versions}
use Rattle.ibc_wire.specs.Spelling.{connection_state_number, channel_state_number, order_number, peer, client_state_fields, connection_end_fields, channel_end_fields, packet_fields}
use Rattle.ibc_wire.specs.Fields.{one_byte, name, str}
use Rattle.ibc_wire.specs.Fronts.{coded_at_front}
use Rattle.ibc_wire.specs.RecordFronts.{connection_state_of, channel_state_of, order_of, client_state_at_front, header_fields, header_at_front, connection_end_at_front, channel_end_at_front, packet_at_front}
use Rattle.ibc_wire.specs.Lawful.{IsReader}
use Rattle.ibc_wire.specs.declared.records.ConnectionState.{ConnectionState}
use Rattle.ibc_wire.specs.declared.records.ConnectionState.TheVariants as conn
use Rattle.ibc_wire.specs.declared.records.ChannelState.{ChannelState}
use Rattle.ibc_wire.specs.declared.records.ChannelState.TheVariants as chan
use Rattle.ibc_wire.specs.declared.records.Order.{Order}
use Rattle.ibc_wire.specs.declared.records.Order.TheVariants.{Unordered, Ordered}
use Rattle.ibc_wire.proofs.Fronts.{some_same, none_some}
use Rattle.ibc_wire.proofs.FieldReaders.{first, under, done, reader_of}
use Rattle.ibc_wire.proofs.Readers.{u8_reader, n8_reader, str_reader, name_reader, root_reader, same_reader, coded_reader, peer_reader}

-- ---- states and orders

connection_numbers : (n : ℕ) (s : ConnectionState) → connection_state_of n ≡ Some s → n ≡ connection_state_number s
connection_numbers zero s e = none_some e
connection_numbers (suc zero) s e = ap connection_state_number (some_same e)
connection_numbers (suc (suc zero)) s e = ap connection_state_number (some_same e)
connection_numbers (suc (suc (suc zero))) s e = ap connection_state_number (some_same e)
connection_numbers (suc (suc (suc (suc n)))) s e = none_some e

pub connection_state_reader : IsReader (λ s. one_byte (connection_state_number s) ∷ []) (coded_at_front connection_state_of)
connection_state_reader = coded_reader connection_state_number connection_state_of connection_numbers
    (λ s. elim s as (λ s. connection_state_of (connection_state_number s) ≡ Some s) [ conn.Init ↦ refl | conn.TryOpen ↦ refl | conn.Open ↦ refl ])
    (λ s. elim s as (λ s. nat_lt (connection_state_number s) 256 ≡ true) [ conn.Init ↦ refl | conn.TryOpen ↦ refl | conn.Open ↦ refl ])

channel_numbers : (n : ℕ) (s : ChannelState) → channel_state_of n ≡ Some s → n ≡ channel_state_number s
channel_numbers zero s e = none_some e
channel_numbers (suc zero) s e = ap channel_state_number (some_same e)
channel_numbers (suc (suc zero)) s e = ap channel_state_number (some_same e)
channel_numbers (suc (suc (suc zero))) s e = ap channel_state_number (some_same e)
channel_numbers (suc (suc (suc (suc zero)))) s e = ap channel_state_number (some_same e)
channel_numbers (suc (suc (suc (suc (suc n))))) s e = none_some e

pub channel_state_reader : IsReader (λ s. one_byte (channel_state_number s) ∷ []) (coded_at_front channel_state_of)
channel_state_reader = coded_reader channel_state_number channel_state_of channel_numbers
    (λ s. elim s as (λ s. channel_state_of (channel_state_number s) ≡ Some s) [ chan.Init ↦ refl | chan.TryOpen ↦ refl | chan.Open ↦ refl | chan.Closed ↦ refl ])
    (λ s. elim s as (λ s. nat_lt (channel_state_number s) 256 ≡ true) [ chan.Init ↦ refl | chan.TryOpen ↦ refl | chan.Open ↦ refl | chan.Closed ↦ refl ])

order_numbers : (n : ℕ) (s : Order) → order_of n ≡ Some s → n ≡ order_number s
order_numbers zero s e = none_some e
order_numbers (suc zero) s e = ap order_number (some_same e)
order_numbers (suc (suc zero)) s e = ap order_number (some_same e)
order_numbers (suc (suc (suc n))) s e = none_some e

pub order_reader : IsReader (λ s. one_byte (order_number s) ∷ []) (coded_at_front order_of)
order_reader = coded_reader order_number order_of order_numbers
    (λ s. elim s as (λ s. order_of (order_number s) ≡ Some s) [ Unordered ↦ refl | Ordered ↦ refl ])
    (λ s. elim s as (λ s. nat_lt (order_number s) 256 ≡ true) [ Unordered ↦ refl | Ordered ↦ refl ])

-- ---- records

pub client_state_reader : IsReader client_state_fields client_state_at_front
unfolding client_state_at_front
client_state_reader =
    reader_of (
    first _ (λ m. m.chain) u8_reader λ chain.
    first _ (λ m. m.latest) n8_reader λ latest.
    done _ ((tt, refl), refl) (λ m p. λ i. record { chain = p.0.1 i; latest = p.1 i })
    )

pub packet_reader : IsReader packet_fields packet_at_front
unfolding packet_at_front
packet_reader =
    reader_of (
    first _ (λ m. m.sequence) n8_reader λ sequence.
    first _ (λ m. m.timeout_height) n8_reader λ timeout_height.
    first _ (λ m. m.timeout_time) n8_reader λ timeout_time.
    first _ (λ m. m.source_port) (name_reader is_port ports) λ source_port.
    first _ (λ m. m.source_channel) (name_reader is_channel channels) λ source_channel.
    first _ (λ m. m.destination_port) (name_reader is_port ports) λ destination_port.
    first _ (λ m. m.destination_channel) (name_reader is_channel channels) λ destination_channel.
    first _ (λ m. m.payload) (str_reader 65535 (omega arith)) λ payload.
    done _ ((((((((tt, refl), refl), refl), refl), refl), refl), refl), refl) (λ m p. λ i. record { sequence = p.0.0.0.0.0.0.0.1 i; timeout_height = p.0.0.0.0.0.0.1 i; timeout_time = p.0.0.0.0.0.1 i; source_port = p.0.0.0.0.1 i; source_channel = p.0.0.0.1 i; destination_port = p.0.0.1 i; destination_channel = p.0.1 i; payload = p.1 i })
    )

pub header_reader : IsReader header_fields header_at_front
unfolding header_at_front
header_reader =
    reader_of (
    first _ (λ h. h.chain) u8_reader λ chain.
    first _ (λ h. h.height) n8_reader λ height.
    first _ (λ h. h.time) n8_reader λ time.
    first _ (λ h. h.root) root_reader λ root.
    done _ ((((tt, refl), refl), refl), refl) (λ m p. λ i. record { chain = p.0.0.0.1 i; height = p.0.0.1 i; time = p.0.1 i; root = p.1 i })
    )

pub connection_end_reader : IsReader connection_end_fields connection_end_at_front
unfolding connection_end_at_front
connection_end_reader =
    reader_of (
    first _ (λ c. c.state) connection_state_reader λ state.
    first _ (λ c. c.client) (name_reader is_client clients) λ client.
    first _ (λ c. c.peer_client) (name_reader is_client clients) λ peer_client.
    under (λ c p. λ i. peer is_connection (connection_state_number (p.0.0.1 i) == 1) c.peer_connection ∷ str (codes "1") ∷ [])
    (first _ (λ c. c.peer_connection) (peer_reader is_connection connections (connection_state_number state == 1)) λ peer_connection.
    first _ (λ c. tt) (same_reader (codes "1") refl (omega arith)) λ version.
    done _ (((((tt, refl), refl), refl), refl), refl) (λ m p. λ i. record { state = p.0.0.0.0.1 i; client = p.0.0.0.1 i; peer_client = p.0.0.1 i; peer_connection = p.0.1 i }))
    )

pub channel_end_reader : IsReader channel_end_fields channel_end_at_front
unfolding channel_end_at_front
channel_end_reader =
    reader_of (
    first _ (λ c. c.state) channel_state_reader λ state.
    first _ (λ c. c.order) order_reader λ order.
    first _ (λ c. c.peer_port) (name_reader is_port ports) λ peer_port.
    under (λ c p. λ i. peer is_channel (channel_state_number (p.0.0.1 i) == 1) c.peer_channel ∷ name is_connection c.connection ∷ name is_version c.version ∷ [])
    (first _ (λ c. c.peer_channel) (peer_reader is_channel channels (channel_state_number state == 1)) λ peer_channel.
    first _ (λ c. c.connection) (name_reader is_connection connections) λ connection.
    first _ (λ c. c.version) (name_reader is_version versions) λ version.
    done _ ((((((tt, refl), refl), refl), refl), refl), refl) (λ m p. λ i. record { state = p.0.0.0.0.0.1 i; order = p.0.0.0.0.1 i; peer_port = p.0.0.0.1 i; peer_channel = p.0.0.1 i; connection = p.0.1 i; version = p.1 i }))
    )
