-- The values under the keys of a chain (ICS 24, "Path-space"), in plain, and when two are the same.
use Rattle.std.specs.Prelude.{ℕ, Bool, true, false, ◌&&◌, ◌==◌, ◌++◌, [], ◌∷◌, Option, Some, None}
use Rattle.std.specs.Option.{option_map, option_and_then}
use Rattle.std.specs.Ordering.{nat_cmp}
use Rattle.std.specs.Int.{w64, to_be_bytes}
use Rattle.ibc_ids.specs.Texts.{Text, same_text}
use Rattle.ibc_ids.specs.Maps.{at}
use Rattle.ibc_ids.specs.declared.key.Key.{Key}
use Rattle.ibc_ids.specs.declared.key.Key.TheVariants as key
use Rattle.ibc_merkle.specs.Hash.{hash}
use Rattle.ibc_wire.specs.Spelling.{connection_state_number, channel_state_number, order_number, client_state_bytes, connection_end_bytes, channel_end_bytes}
use Rattle.ibc_wire.specs.declared.records.ClientState.{ClientState}
use Rattle.ibc_wire.specs.declared.records.ConnectionState.{ConnectionState}
use Rattle.ibc_wire.specs.declared.records.ConnectionEnd.{ConnectionEnd}
use Rattle.ibc_wire.specs.declared.records.ChannelState.{ChannelState}
use Rattle.ibc_wire.specs.declared.records.Order.{Order}
use Rattle.ibc_wire.specs.declared.records.ChannelEnd.{ChannelEnd}
use Rattle.ibc_machine.specs.chain.Records.{Core, Commitment, client_at, connection_at, channel_at, is_one_of}

pub data Value : Type 0 where
  ClientIs : ClientState → Value
  ConnectionIs : ConnectionEnd → Value
  ChannelIs : ChannelEnd → Value
  NumberIs : ℕ → Value
  CommitmentIs : Commitment → Value
  ReceiptIs : Value
  AckIs : Text → Value

-- a key, and the value that stands there, or that none does
pub record Claim : Type 0 where
  pub key : Key
  pub value : Option Value

abbrev pub present_claim : Key → Value → Claim
present_claim key value = record { key = key; value = Some value }

abbrev pub absent_claim : Key → Claim
absent_claim key = record { key = key; value = None }

-- a receipt, where there is one
abbrev pub receipt_if : Bool → Option Value
receipt_if true = Some ReceiptIs
receipt_if false = None

-- the value or the absence of a key in plain
abbrev pub value_at : Core → Key → Option Value
value_at core (key.ClientState id) = option_map (λ client. ClientIs client.state) (client_at core id)
value_at core (key.Connection id) = option_map ConnectionIs (connection_at core id)
value_at core (key.ChannelEnd port channel) = option_map (λ c. ChannelIs c.end) (channel_at core port channel)
value_at core (key.NextSequenceSend port channel) =
    option_map (λ c. NumberIs c.next_send) (channel_at core port channel)
value_at core (key.NextSequenceRecv port channel) =
    option_map (λ c. NumberIs c.next_recv) (channel_at core port channel)
value_at core (key.NextSequenceAck port channel) =
    option_map (λ c. NumberIs c.next_ack) (channel_at core port channel)
value_at core (key.Commitment port channel n) =
    option_and_then (λ c. option_map CommitmentIs (at nat_cmp n c.commitments))
    (channel_at core port channel)
value_at core (key.Receipt port channel n) =
    option_and_then (λ c. receipt_if (is_one_of c.receipts n)) (channel_at core port channel)
value_at core (key.Acknowledgement port channel n) =
    option_and_then (λ c. option_map AckIs (at nat_cmp n c.acks)) (channel_at core port channel)
value_at core key.NextClientSequence = Some (NumberIs core.next_client)
value_at core key.NextConnectionSequence = Some (NumberIs core.next_connection)
value_at core key.NextChannelSequence = Some (NumberIs core.next_channel)

-- two states, and two orders, are the same
abbrev pub same_connection_state : ConnectionState → ConnectionState → Bool
same_connection_state a b = connection_state_number a == connection_state_number b

abbrev pub same_channel_state : ChannelState → ChannelState → Bool
same_channel_state a b = channel_state_number a == channel_state_number b

abbrev pub same_order : Order → Order → Bool
same_order a b = order_number a == order_number b

-- two plain values are the same
abbrev pub same_client : ClientState → ClientState → Bool
same_client a b = (a.chain == b.chain) && (a.latest == b.latest)

abbrev pub same_optional : Option Text → Option Text → Bool
same_optional None None = true
same_optional None (Some y) = false
same_optional (Some x) None = false
same_optional (Some x) (Some y) = same_text x y

abbrev pub same_connection : ConnectionEnd → ConnectionEnd → Bool
same_connection a b =
    same_connection_state a.state b.state && same_text a.client b.client
    && same_text a.peer_client b.peer_client && same_optional a.peer_connection b.peer_connection

abbrev pub same_channel : ChannelEnd → ChannelEnd → Bool
same_channel a b =
    same_channel_state a.state b.state && same_order a.order b.order && same_text a.peer_port b.peer_port
    && same_optional a.peer_channel b.peer_channel
    && same_text a.connection b.connection && same_text a.version b.version

abbrev pub same_commitment : Commitment → Commitment → Bool
same_commitment a b =
    same_text a.payload b.payload && (a.timeout_height == b.timeout_height)
    && (a.timeout_time == b.timeout_time)

abbrev pub same_value : Option Value → Option Value → Bool
same_value (Some (ClientIs a)) (Some (ClientIs b)) = same_client a b
same_value (Some (ConnectionIs a)) (Some (ConnectionIs b)) = same_connection a b
same_value (Some (ChannelIs a)) (Some (ChannelIs b)) = same_channel a b
same_value (Some (NumberIs a)) (Some (NumberIs b)) = a == b
same_value (Some (CommitmentIs a)) (Some (CommitmentIs b)) = same_commitment a b
same_value (Some ReceiptIs) (Some ReceiptIs) = true
same_value (Some (AckIs a)) (Some (AckIs b)) = same_text a b
same_value None None = true
same_value _ _ = false

-- the text that is hashed for a commitment: its time, revision 0, height and the hash of its data (ICS 4,
-- "Packet commitment")
abbrev pub commitment_text : Commitment → Text
commitment_text c =
    to_be_bytes w64 c.timeout_time ++ to_be_bytes w64 0 ++ to_be_bytes w64 c.timeout_height ++ hash c.payload

-- the bytes of a value in the provable store
abbrev pub value_bytes : Value → Text
value_bytes (ClientIs c) = client_state_bytes c
value_bytes (ConnectionIs c) = connection_end_bytes c
value_bytes (ChannelIs c) = channel_end_bytes c
value_bytes (NumberIs n) = to_be_bytes w64 n
value_bytes (CommitmentIs c) = hash (commitment_text c)
value_bytes ReceiptIs = 1 ∷ []
value_bytes (AckIs ack) = hash ack
