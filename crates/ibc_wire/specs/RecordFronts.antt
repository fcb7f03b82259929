-- How records, packets and tokens are read: the fields of each in order.
use Rattle.std.specs.Prelude.{ℕ, zero, suc, ◌==◌, nat_le, ◌&&◌, true, false, codes, List, [], ◌∷◌, ◌++◌, Option, Some, None}
use Rattle.std.specs.Int.{w64}
use Rattle.ibc_ids.specs.Texts.{Text}
use Rattle.ibc_ids.specs.Names.{is_client, is_connection, is_channel, is_port, is_version, is_denom}
use Rattle.ibc_wire.specs.Fields.{Field, one_byte, be64, root32, str_up_to}
use Rattle.ibc_wire.specs.Spelling.{connection_state_number, channel_state_number, neighbour_fields}
use Rattle.ibc_wire.specs.Tokens.{is_rising}
use Rattle.ibc_wire.specs.Reading.{◌>>=◌, Front, byte_at_front, bytes_at_front, str_at_front, presence_at_front, neighbour_at_front}
use Rattle.ibc_wire.specs.Fronts.{number_at_front, amount_at_front, name_at_front, same_at_front, coded_at_front, peer_at_front, many_at_front}
use Rattle.ibc_wire.specs.declared.records.ClientState.{ClientState}
use Rattle.ibc_wire.specs.declared.records.ConnectionState.{ConnectionState}
use Rattle.ibc_wire.specs.declared.records.ConnectionState.TheVariants as conn
use Rattle.ibc_wire.specs.declared.records.ConnectionEnd.{ConnectionEnd}
use Rattle.ibc_wire.specs.declared.records.ChannelState.{ChannelState}
use Rattle.ibc_wire.specs.declared.records.ChannelState.TheVariants as chan
use Rattle.ibc_wire.specs.declared.records.Order.{Order}
use Rattle.ibc_wire.specs.declared.records.Order.TheVariants.{Unordered, Ordered}
use Rattle.ibc_wire.specs.declared.records.ChannelEnd.{ChannelEnd}
use Rattle.ibc_wire.specs.declared.header.Header.{Header}
use Rattle.ibc_wire.specs.declared.packet.Packet.{Packet}
use Rattle.ibc_wire.specs.declared.token.Token.{Token}
use Rattle.ibc_merkle.specs.declared.proof.Absence.{Absence}
use Rattle.ibc_merkle.specs.declared.proof.Proof.{Proof}
use Rattle.ibc_merkle.specs.declared.proof.Proof.TheVariants.{Present, Absent}

-- the states and orders by their numbers
abbrev pub connection_state_of : ℕ → Option ConnectionState
connection_state_of zero = None
connection_state_of (suc zero) = Some conn.Init
connection_state_of (suc (suc zero)) = Some conn.TryOpen
connection_state_of (suc (suc (suc zero))) = Some conn.Open
connection_state_of (suc (suc (suc (suc n)))) = None

abbrev pub channel_state_of : ℕ → Option ChannelState
channel_state_of zero = None
channel_state_of (suc zero) = Some chan.Init
channel_state_of (suc (suc zero)) = Some chan.TryOpen
channel_state_of (suc (suc (suc zero))) = Some chan.Open
channel_state_of (suc (suc (suc (suc zero)))) = Some chan.Closed
channel_state_of (suc (suc (suc (suc (suc n))))) = None

abbrev pub order_of : ℕ → Option Order
order_of zero = None
order_of (suc zero) = Some Unordered
order_of (suc (suc zero)) = Some Ordered
order_of (suc (suc (suc n))) = None

unfoldable pub client_state_at_front : Text → Front ClientState
client_state_at_front text = do
  chain ← byte_at_front text
  latest ← number_at_front w64 chain.1
  Some (record { chain = chain.0; latest = latest.0 }, latest.1)

unfoldable pub packet_at_front : Text → Front Packet
packet_at_front text = do
  sequence ← number_at_front w64 text
  timeout_height ← number_at_front w64 sequence.1
  timeout_time ← number_at_front w64 timeout_height.1
  source_port ← name_at_front is_port timeout_time.1
  source_channel ← name_at_front is_channel source_port.1
  destination_port ← name_at_front is_port source_channel.1
  destination_channel ← name_at_front is_channel destination_port.1
  payload ← str_at_front 65535 destination_channel.1
  Some (record { sequence = sequence.0; timeout_height = timeout_height.0; timeout_time = timeout_time.0; source_port = source_port.0; source_channel = source_channel.0; destination_port = destination_port.0; destination_channel = destination_channel.0; payload = payload.0 }, payload.1)

unfoldable pub token_at_front : Text → Front Token
token_at_front text = do
  denom ← name_at_front is_denom text
  amount ← amount_at_front denom.1
  Some (record { denom = denom.0; amount = amount.0 }, amount.1)

-- a header stands in a message only
abbrev pub header_fields : Header → List Field
header_fields h = one_byte h.chain ∷ be64 h.height ∷ be64 h.time ∷ root32 h.root ∷ []

unfoldable pub header_at_front : Text → Front Header
header_at_front text = do
  chain ← byte_at_front text
  height ← number_at_front w64 chain.1
  time ← number_at_front w64 height.1
  root ← bytes_at_front 32 time.1
  Some (record { chain = chain.0; height = height.0; time = time.0; root = root.0 }, root.1)

unfoldable pub connection_end_at_front : Text → Front ConnectionEnd
connection_end_at_front text = do
  state ← coded_at_front connection_state_of text
  client ← name_at_front is_client state.1
  peer_client ← name_at_front is_client client.1
  peer_connection ← peer_at_front is_connection (connection_state_number state.0 == 1) peer_client.1
  version ← same_at_front (codes "1") peer_connection.1
  Some (record { state = state.0; client = client.0; peer_client = peer_client.0; peer_connection = peer_connection.0 }, version.1)

unfoldable pub channel_end_at_front : Text → Front ChannelEnd
channel_end_at_front text = do
  state ← coded_at_front channel_state_of text
  order ← coded_at_front order_of state.1
  peer_port ← name_at_front is_port order.1
  peer_channel ← peer_at_front is_channel (channel_state_number state.0 == 1) peer_port.1
  connection ← name_at_front is_connection peer_channel.1
  version ← name_at_front is_version connection.1
  Some (record { state = state.0; order = order.0; peer_port = peer_port.0; peer_channel = peer_channel.0; connection = connection.0; version = version.0 }, version.1)

-- 1 to 8 tokens behind their number, in rising order
unfoldable pub tokens_at_front : Text → Front (List Token)
tokens_at_front text = do
  count ← byte_at_front text
  found ← elim (nat_le 1 count.0 && nat_le count.0 8) [ true ↦ many_at_front token_at_front count.0 count.1 | false ↦ None ]
  elim (is_rising found.0) [ true ↦ Some found | false ↦ None ]

-- an absence stands in a proof only
abbrev pub absence_fields : Absence → List Field
absence_fields a = str_up_to 256 a.key ∷ (neighbour_fields a.left ++ neighbour_fields a.right)

unfoldable pub absence_at_front : Text → Front Absence
absence_at_front text = do
  key ← str_at_front 256 text
  left ← neighbour_at_front key.1
  right ← neighbour_at_front left.1
  Some (record { key = key.0; left = left.0; right = right.0 }, right.1)

-- a proof, behind its tag
abbrev pub proof_of_kind : ℕ → Text → Front Proof
proof_of_kind zero text = None
proof_of_kind (suc zero) text = do
  found ← presence_at_front text
  Some (Present found.0, found.1)
proof_of_kind (suc (suc zero)) text = do
  found ← absence_at_front text
  Some (Absent found.0, found.1)
proof_of_kind (suc (suc (suc n))) text = None

unfoldable pub proof_at_front : Text → Front Proof
proof_at_front text = do
  tag ← byte_at_front text
  proof_of_kind tag.0 tag.1
