-- How records, packets and proofs are spelled (this project's profile): the fields of each in order.
use Rattle.std.specs.Prelude.{ℕ, Bool, true, false, ◌==◌, codes, List, [], ◌∷◌, ◌++◌, length, Option, Some, None}
use Rattle.std.specs.List.{flat_map}
use Rattle.ibc_ids.specs.Texts.{Text}
use Rattle.ibc_ids.specs.Names.{is_client, is_connection, is_channel, is_port, is_version, is_denom}
use Rattle.ibc_wire.specs.Fields.{Field, one_byte, be64, be128, str, str_up_to, name, form_condition, count_between, bytes_of}
use Rattle.ibc_wire.specs.Tokens.{is_rising}
use Rattle.ibc_wire.specs.declared.records.ClientState.{ClientState}
use Rattle.ibc_wire.specs.declared.records.ConnectionState.{ConnectionState}
use Rattle.ibc_wire.specs.declared.records.ConnectionState.TheVariants as conn
use Rattle.ibc_wire.specs.declared.records.ConnectionEnd.{ConnectionEnd}
use Rattle.ibc_wire.specs.declared.records.ChannelState.{ChannelState}
use Rattle.ibc_wire.specs.declared.records.ChannelState.TheVariants as chan
use Rattle.ibc_wire.specs.declared.records.Order.{Order}
use Rattle.ibc_wire.specs.declared.records.Order.TheVariants.{Unordered, Ordered}
use Rattle.ibc_wire.specs.declared.records.ChannelEnd.{ChannelEnd}
use Rattle.ibc_wire.specs.declared.packet.Packet.{Packet}
use Rattle.ibc_wire.specs.declared.token.Token.{Token}
use Rattle.ibc_merkle.specs.declared.proof.Operation.{Operation}
use Rattle.ibc_merkle.specs.declared.proof.Presence.{Presence}
use Rattle.ibc_merkle.specs.declared.proof.Proof.{Proof}
use Rattle.ibc_merkle.specs.declared.proof.Proof.TheVariants.{Present, Absent}

-- ICS 2, "ClientState"
abbrev pub client_state_fields : ClientState → List Field
client_state_fields c = one_byte c.chain ∷ be64 c.latest ∷ []

abbrev pub connection_state_number : ConnectionState → ℕ
connection_state_number conn.Init = 1
connection_state_number conn.TryOpen = 2
connection_state_number conn.Open = 3

abbrev pub channel_state_number : ChannelState → ℕ
channel_state_number chan.Init = 1
channel_state_number chan.TryOpen = 2
channel_state_number chan.Open = 3
channel_state_number chan.Closed = 4

abbrev pub order_number : Order → ℕ
order_number Unordered = 1
order_number Ordered = 2

-- a peer's identifier: empty in the state Init and only there
abbrev pub peer : (Text → Bool) → Bool → Option Text → Field
peer test true None = str []
peer test true (Some id) = form_condition false
peer test false None = form_condition false
peer test false (Some id) = name test id

-- ICS 3, "ConnectionEnd"; the version is always "1"
abbrev pub connection_end_fields : ConnectionEnd → List Field
connection_end_fields c =
    one_byte (connection_state_number c.state) ∷ name is_client c.client ∷ name is_client c.peer_client
    ∷ peer is_connection (connection_state_number c.state == 1) c.peer_connection ∷ str (codes "1") ∷ []

-- ICS 4, "ChannelEnd"
abbrev pub channel_end_fields : ChannelEnd → List Field
channel_end_fields c =
    one_byte (channel_state_number c.state) ∷ one_byte (order_number c.order) ∷ name is_port c.peer_port
    ∷ peer is_channel (channel_state_number c.state == 1) c.peer_channel
    ∷ name is_connection c.connection ∷ name is_version c.version ∷ []

-- ICS 4, "Packet"
abbrev pub packet_fields : Packet → List Field
packet_fields p =
    be64 p.sequence ∷ be64 p.timeout_height ∷ be64 p.timeout_time ∷ name is_port p.source_port
    ∷ name is_channel p.source_channel
    ∷ name is_port p.destination_port ∷ name is_channel p.destination_channel ∷ str p.payload ∷ []

-- ICS 20: a denomination and an amount
abbrev pub token_fields : Token → List Field
token_fields t = name is_denom t.denom ∷ be128 t.amount ∷ []

-- several tokens behind their number: 1 to 8, in rising order
abbrev pub tokens_fields : List Token → List Field
tokens_fields tokens =
    count_between 1 8 (length tokens) ∷ flat_map token_fields tokens ++ form_condition (is_rising tokens) ∷ []

-- ICS 23, "InnerOp"
abbrev pub operation_fields : Operation → List Field
operation_fields o = str_up_to 64 o.prefix ∷ str_up_to 64 o.suffix ∷ []

-- ICS 23, "ExistenceProof"
abbrev pub presence_fields : Presence → List Field
presence_fields p =
    str_up_to 256 p.key ∷ str_up_to 512 p.value ∷ str_up_to 64 p.leaf_prefix ∷ count_between 0 64 (length p.operations)
    ∷ flat_map operation_fields p.operations

abbrev pub neighbour_fields : Option Presence → List Field
neighbour_fields None = one_byte 0 ∷ []
neighbour_fields (Some p) = one_byte 1 ∷ presence_fields p

-- ICS 23, "ExistenceProof" and "NonExistenceProof"
abbrev pub proof_fields : Proof → List Field
proof_fields (Present p) = one_byte 1 ∷ presence_fields p
proof_fields (Absent p) = one_byte 2 ∷ str_up_to 256 p.key ∷ neighbour_fields p.left ++ neighbour_fields p.right

-- The bytes of each
abbrev pub client_state_bytes : ClientState → Text
client_state_bytes c = bytes_of (client_state_fields c)

abbrev pub connection_end_bytes : ConnectionEnd → Text
connection_end_bytes c = bytes_of (connection_end_fields c)

abbrev pub channel_end_bytes : ChannelEnd → Text
channel_end_bytes c = bytes_of (channel_end_fields c)

abbrev pub proof_bytes : Proof → Text
proof_bytes p = bytes_of (proof_fields p)
