-- Two plain values are the same where the test of the definitions says so.
use Rattle.std.proofs.Common.{◌≡◌, true, refl, ap, Option, Some, None, ◌&&◌, ◌==◌, eqb-true}
use Rattle.std.proofs.lemmas.Bool.{and_parts}
use Rattle.ibc_ids.specs.Texts.{Text, same_text}
use Rattle.ibc_ids.proofs.Texts.{text_same}
use Rattle.ibc_wire.specs.Spelling.{connection_state_number, channel_state_number, order_number}
use Rattle.ibc_wire.specs.declared.records.ConnectionState.{ConnectionState}
use Rattle.ibc_wire.specs.declared.records.ConnectionState.TheVariants as conn
use Rattle.ibc_wire.specs.declared.records.ChannelState.{ChannelState}
use Rattle.ibc_wire.specs.declared.records.ChannelState.TheVariants as chan
use Rattle.ibc_wire.specs.declared.records.Order.{Order}
use Rattle.ibc_wire.specs.declared.records.Order.TheVariants.{Unordered, Ordered}
use Rattle.ibc_wire.specs.declared.records.ConnectionEnd.{ConnectionEnd}
use Rattle.ibc_wire.specs.declared.records.ChannelEnd.{ChannelEnd}
use Rattle.ibc_wire.specs.declared.records.ClientState.{ClientState}
use Rattle.ibc_machine.specs.chain.Records.{Commitment}
use Rattle.ibc_machine.specs.ics24.Values.{same_optional, same_connection, same_channel, same_client, same_commitment}

-- ---- by their numbers

pub connection_states_same : (a b : ConnectionState) → connection_state_number a ≡ connection_state_number b → a ≡ b
connection_states_same conn.Init conn.Init e = refl
connection_states_same conn.TryOpen conn.TryOpen e = refl
connection_states_same conn.Open conn.Open e = refl
connection_states_same a b e = absurd (cc)

pub channel_states_same : (a b : ChannelState) → channel_state_number a ≡ channel_state_number b → a ≡ b
channel_states_same chan.Init chan.Init e = refl
channel_states_same chan.TryOpen chan.TryOpen e = refl
channel_states_same chan.Open chan.Open e = refl
channel_states_same chan.Closed chan.Closed e = refl
channel_states_same a b e = absurd (cc)

pub orders_same : (a b : Order) → order_number a ≡ order_number b → a ≡ b
orders_same Unordered Unordered e = refl
orders_same Ordered Ordered e = refl
orders_same a b e = absurd (cc)

-- ---- by the tests

pub same_connection_state_is : (a b : ConnectionState) → (connection_state_number a == connection_state_number b) ≡ true → a ≡ b
same_connection_state_is a b e = connection_states_same a b (eqb-true _ _ e)

pub same_channel_state_is : (a b : ChannelState) → (channel_state_number a == channel_state_number b) ≡ true → a ≡ b
same_channel_state_is a b e = channel_states_same a b (eqb-true _ _ e)

pub same_order_is : (a b : Order) → (order_number a == order_number b) ≡ true → a ≡ b
same_order_is a b e = orders_same a b (eqb-true _ _ e)

pub same_optional_is : (a b : Option Text) → same_optional a b ≡ true → a ≡ b
same_optional_is None None e = refl
same_optional_is None (Some y) e = absurd (cc e)
same_optional_is (Some x) None e = absurd (cc e)
same_optional_is (Some x) (Some y) e = ap Some (text_same x y e)

pub same_connection_is : (a b : ConnectionEnd) → same_connection a b ≡ true → a ≡ b
same_connection_is a b e =
    let one = and_parts _ (same_optional a.peer_connection b.peer_connection) e in
    let two = and_parts _ (same_text a.peer_client b.peer_client) one.0 in
    let three = and_parts _ (same_text a.client b.client) two.0 in
    let s = same_connection_state_is a.state b.state three.0 in
    let c = text_same a.client b.client three.1 in
    let p = text_same a.peer_client b.peer_client two.1 in
    let o = same_optional_is a.peer_connection b.peer_connection one.1 in
    λ i. record { state = s i; client = c i; peer_client = p i; peer_connection = o i }

pub same_channel_is : (a b : ChannelEnd) → same_channel a b ≡ true → a ≡ b
same_channel_is a b e =
    let one = and_parts _ (same_text a.version b.version) e in
    let two = and_parts _ (same_text a.connection b.connection) one.0 in
    let three = and_parts _ (same_optional a.peer_channel b.peer_channel) two.0 in
    let four = and_parts _ (same_text a.peer_port b.peer_port) three.0 in
    let five = and_parts (channel_state_number a.state == channel_state_number b.state) (order_number a.order == order_number b.order) four.0 in
    let s = same_channel_state_is a.state b.state five.0 in
    let o = same_order_is a.order b.order five.1 in
    let p = text_same a.peer_port b.peer_port four.1 in
    let c = same_optional_is a.peer_channel b.peer_channel three.1 in
    let k = text_same a.connection b.connection two.1 in
    let v = text_same a.version b.version one.1 in
    λ i. record { state = s i; order = o i; peer_port = p i; peer_channel = c i; connection = k i; version = v i }

pub same_client_is : (a b : ClientState) → same_client a b ≡ true → a ≡ b
same_client_is a b e =
    let one = and_parts (a.chain == b.chain) (a.latest == b.latest) e in
    let c = eqb-true a.chain b.chain one.0 in
    let l = eqb-true a.latest b.latest one.1 in
    λ i. record { chain = c i; latest = l i }

pub same_commitment_is : (a b : Commitment) → same_commitment a b ≡ true → a ≡ b
same_commitment_is a b e =
    let one = and_parts (same_text a.payload b.payload && (a.timeout_height == b.timeout_height)) (a.timeout_time == b.timeout_time) e in
    let two = and_parts (same_text a.payload b.payload) (a.timeout_height == b.timeout_height) one.0 in
    let p = text_same a.payload b.payload two.0 in
    let h = eqb-true a.timeout_height b.timeout_height two.1 in
    let t = eqb-true a.timeout_time b.timeout_time one.1 in
    λ i. record { payload = p i; timeout_height = h i; timeout_time = t i }
