-- What stands at a key of typed records is plain and can be spelled in a proof, and the key is a key.
use Rattle.std.proofs.Common.{◌≡◌, ℕ, ◌<◌, ◌^◌, Bool, true, false, ◌&&◌, nat_lt, codes, [], ◌∷◌, ◌++◌, refl, arith, Option, Some, None, ltb-true}
use Rattle.std.specs.Prelude.{⊤, ◌==◌}
use Rattle.std.specs.Int.{w64, to_be_bytes}
use Rattle.std.specs.Fmt.{decimal}
use Rattle.std.proofs.lemmas.Bool.{and_parts}
use Rattle.ibc_ids.specs.Texts.{Text}
use Rattle.ibc_ids.specs.Names.{is_connection, is_channel, is_port}
use Rattle.ibc_ids.specs.Paths.{path, is_key, channel_path, sequence_path}
use Rattle.ibc_ids.specs.declared.key.Key.{Key}
use Rattle.ibc_ids.specs.declared.key.Key.TheVariants as key
use Rattle.ibc_wire.specs.Fields.{with_length}
use Rattle.ibc_wire.specs.Spelling.{peer, connection_state_number, channel_state_number, order_number}
use Rattle.ibc_wire.specs.declared.records.ConnectionState.{ConnectionState}
use Rattle.ibc_wire.specs.declared.records.ConnectionState.TheVariants as conn
use Rattle.ibc_wire.specs.declared.records.ChannelState.{ChannelState}
use Rattle.ibc_wire.specs.declared.records.ChannelState.TheVariants as chan
use Rattle.ibc_wire.specs.declared.records.Order.{Order}
use Rattle.ibc_wire.specs.declared.records.Order.TheVariants.{Unordered, Ordered}
use Rattle.ibc_merkle.specs.Hash.{hash}
use Rattle.ibc_machine.specs.ics24.Values.{Value, ClientIs, ConnectionIs, ChannelIs, NumberIs, CommitmentIs, ReceiptIs, AckIs, commitment_text, value_bytes}
use Rattle.ibc_merkle.proofs.Digests.{length-hash}
use Rattle.ibc_merkle.proofs.Depths.{bytes-hash}
use Rattle.ibc_refinement.proofs.ShortTexts.{FitsText}
use Rattle.ibc_refinement.proofs.Fitting.{fits_both, fits_within, byte_fits, number_fits, counted_fits, name_fits, version_fits, decimal_fits}
use Rattle.ibc_refinement.proofs.Typed.{IsNamedPeer, IsTypedConnection, IsTypedEnd}

-- ---- paths

channel_path_fits : (port channel : Text) → is_port port ≡ true → is_channel channel ≡ true → FitsText 209 (channel_path port channel)
channel_path_fits port channel p c =
    fits_both 145 64 (codes "/ports/" ++ port ++ codes "/channels/") channel
    (fits_both 135 10 (codes "/ports/" ++ port) (codes "/channels/")
    (fits_both 7 128 (codes "/ports/") port (record { bytes = refl; short = omega arith }) (name_fits 2 128 port p))
    (record { bytes = refl; short = omega arith }))
    (name_fits 8 64 channel c)

sequence_path_fits : (port channel : Text) (n : ℕ) → is_port port ≡ true → is_channel channel ≡ true → n < 2 ^ 64 → FitsText 240 (sequence_path port channel n)
sequence_path_fits port channel n p c h =
    fits_both 220 20 (channel_path port channel ++ codes "/sequences/") (decimal n)
    (fits_both 209 11 (channel_path port channel) (codes "/sequences/") (channel_path_fits port channel p c) (record { bytes = refl; short = omega arith }))
    (decimal_fits n h)

front_fits : (front rest : Text) → FitsText 16 front → FitsText 240 rest → FitsText 256 (front ++ rest)
front_fits front rest h g = fits_both 16 240 front rest h g

pub path_fits : (k : Key) → is_key k ≡ true → FitsText 256 (path k)
path_fits (key.ClientState id) h =
    fits_within 84 256 (path (key.ClientState id)) (omega arith)
    (fits_both 72 12 (codes "clients/" ++ id) (codes "/clientState") (fits_both 8 64 (codes "clients/") id (record { bytes = refl; short = omega arith }) (name_fits 9 64 id h)) (record { bytes = refl; short = omega arith }))
path_fits (key.Connection id) h = fits_within 76 256 (path (key.Connection id)) (omega arith) (fits_both 12 64 (codes "connections/") id (record { bytes = refl; short = omega arith }) (name_fits 10 64 id h))
path_fits (key.ChannelEnd port channel) h =
    let w = and_parts (is_port port) (is_channel channel) h in
    front_fits (codes "channelEnds") (channel_path port channel) (record { bytes = refl; short = omega arith }) (fits_within 209 240 _ (omega arith) (channel_path_fits port channel w.0 w.1))
path_fits (key.NextSequenceSend port channel) h =
    let w = and_parts (is_port port) (is_channel channel) h in
    front_fits (codes "nextSequenceSend") (channel_path port channel) (record { bytes = refl; short = omega arith }) (fits_within 209 240 _ (omega arith) (channel_path_fits port channel w.0 w.1))
path_fits (key.NextSequenceRecv port channel) h =
    let w = and_parts (is_port port) (is_channel channel) h in
    front_fits (codes "nextSequenceRecv") (channel_path port channel) (record { bytes = refl; short = omega arith }) (fits_within 209 240 _ (omega arith) (channel_path_fits port channel w.0 w.1))
path_fits (key.NextSequenceAck port channel) h =
    let w = and_parts (is_port port) (is_channel channel) h in
    front_fits (codes "nextSequenceAck") (channel_path port channel) (record { bytes = refl; short = omega arith }) (fits_within 209 240 _ (omega arith) (channel_path_fits port channel w.0 w.1))
path_fits (key.Commitment port channel n) h =
    let v = and_parts (is_port port && is_channel channel) (nat_lt n (2 ^ 64)) h in
    let w = and_parts (is_port port) (is_channel channel) v.0 in
    front_fits (codes "commitments") (sequence_path port channel n) (record { bytes = refl; short = omega arith }) (sequence_path_fits port channel n w.0 w.1 (ltb-true n (2 ^ 64) v.1))
path_fits (key.Receipt port channel n) h =
    let v = and_parts (is_port port && is_channel channel) (nat_lt n (2 ^ 64)) h in
    let w = and_parts (is_port port) (is_channel channel) v.0 in
    front_fits (codes "receipts") (sequence_path port channel n) (record { bytes = refl; short = omega arith }) (sequence_path_fits port channel n w.0 w.1 (ltb-true n (2 ^ 64) v.1))
path_fits (key.Acknowledgement port channel n) h =
    let v = and_parts (is_port port && is_channel channel) (nat_lt n (2 ^ 64)) h in
    let w = and_parts (is_port port) (is_channel channel) v.0 in
    front_fits (codes "acks") (sequence_path port channel n) (record { bytes = refl; short = omega arith }) (sequence_path_fits port channel n w.0 w.1 (ltb-true n (2 ^ 64) v.1))
path_fits key.NextClientSequence h = record { bytes = refl; short = omega arith }
path_fits key.NextConnectionSequence h = record { bytes = refl; short = omega arith }
path_fits key.NextChannelSequence h = record { bytes = refl; short = omega arith }

-- ---- values

-- as its type promises
abbrev pub IsTypedValue : Value → Type 0
IsTypedValue (ClientIs c) = (c.chain < 256) × (c.latest < 2 ^ 64)
IsTypedValue (ConnectionIs c) = IsTypedConnection c
IsTypedValue (ChannelIs c) = IsTypedEnd c
IsTypedValue (NumberIs n) = n < 2 ^ 64
IsTypedValue (CommitmentIs c) = (c.timeout_height < 2 ^ 64) × (c.timeout_time < 2 ^ 64)
IsTypedValue ReceiptIs = ⊤
IsTypedValue (AckIs ack) = ⊤

connection_state_low : (s : ConnectionState) → connection_state_number s < 256
connection_state_low conn.Init = omega arith
connection_state_low conn.TryOpen = omega arith
connection_state_low conn.Open = omega arith

channel_state_low : (s : ChannelState) → channel_state_number s < 256
channel_state_low chan.Init = omega arith
channel_state_low chan.TryOpen = omega arith
channel_state_low chan.Open = omega arith
channel_state_low chan.Closed = omega arith

order_low : (o : Order) → order_number o < 256
order_low Unordered = omega arith
order_low Ordered = omega arith

peer_fits : (test : Text → Bool) (init : Bool) (o : Option Text) → ((id : Text) → test id ≡ true → FitsText 64 id) → IsNamedPeer test init o → FitsText 66 (peer test init o).bytes
peer_fits test true None fit h = record { bytes = refl; short = omega arith }
peer_fits test true (Some id) fit h = absurd h
peer_fits test false None fit h = absurd h
peer_fits test false (Some id) fit h = counted_fits 64 id (fit id h)

hash_fits : (x : Text) → FitsText 512 (hash x)
hash_fits x = record { bytes = bytes-hash x; short = omega (arith, length-hash x) }

pub value_fits : (v : Value) → IsTypedValue v → FitsText 512 (value_bytes v)
value_fits (ClientIs c) h =
    fits_within 9 512 (value_bytes (ClientIs c)) (omega arith)
    (fits_both 1 8 (c.chain ∷ []) (to_be_bytes w64 c.latest ++ []) (byte_fits c.chain h.0) (fits_both 8 0 (to_be_bytes w64 c.latest) [] (number_fits c.latest) (record { bytes = refl; short = omega arith })))
value_fits (ConnectionIs c) h =
    let peer_bytes = (peer is_connection (connection_state_number c.state == 1) c.peer_connection).bytes in
    let last = with_length (codes "1") ++ [] in
    fits_within 202 512 (value_bytes (ConnectionIs c)) (omega arith)
    (fits_both 1 201 (connection_state_number c.state ∷ []) (with_length c.client ++ (with_length c.peer_client ++ (peer_bytes ++ last))) (byte_fits _ (connection_state_low c.state))
    (fits_both 66 135 (with_length c.client) (with_length c.peer_client ++ (peer_bytes ++ last)) (counted_fits 64 c.client (name_fits 9 64 c.client h.client))
    (fits_both 66 69 (with_length c.peer_client) (peer_bytes ++ last) (counted_fits 64 c.peer_client (name_fits 9 64 c.peer_client h.peer_client))
    (fits_both 66 3 peer_bytes last (peer_fits is_connection _ c.peer_connection (λ id g. name_fits 10 64 id g) h.peer) (record { bytes = refl; short = omega arith })))))
value_fits (ChannelIs c) h =
    let peer_bytes = (peer is_channel (channel_state_number c.state == 1) c.peer_channel).bytes in
    let last = with_length c.version ++ [] in
    fits_within 298 512 (value_bytes (ChannelIs c)) (omega arith)
    (fits_both 1 297 (channel_state_number c.state ∷ []) (order_number c.order ∷ (with_length c.peer_port ++ (peer_bytes ++ (with_length c.connection ++ last)))) (byte_fits _ (channel_state_low c.state))
    (fits_both 1 296 (order_number c.order ∷ []) (with_length c.peer_port ++ (peer_bytes ++ (with_length c.connection ++ last))) (byte_fits _ (order_low c.order))
    (fits_both 130 166 (with_length c.peer_port) (peer_bytes ++ (with_length c.connection ++ last)) (counted_fits 128 c.peer_port (name_fits 2 128 c.peer_port h.peer_port))
    (fits_both 66 100 peer_bytes (with_length c.connection ++ last) (peer_fits is_channel _ c.peer_channel (λ id g. name_fits 8 64 id g) h.peer)
    (fits_both 66 34 (with_length c.connection) last (counted_fits 64 c.connection (name_fits 10 64 c.connection h.connection))
    (fits_both 34 0 (with_length c.version) [] (counted_fits 32 c.version (version_fits c.version h.version)) (record { bytes = refl; short = omega arith })))))))
value_fits (NumberIs n) h = fits_within 8 512 (to_be_bytes w64 n) (omega arith) (number_fits n)
value_fits (CommitmentIs c) h = hash_fits (commitment_text c)
value_fits ReceiptIs h = record { bytes = refl; short = omega arith }
value_fits (AckIs ack) h = hash_fits ack
