-- What a typed message asks of another chain is fit, where its proofs and its packet are among the texts that
-- don't clash.
use Rattle.std.proofs.Common.{◌≡◌, ℕ, ◌<◌, ◌^◌, Bool, true, false, cond, ◌&&◌, eqb, nat_lt, List, [], ◌∷◌, ◌++◌, refl, sym, ap, ◌∙◌, subst, Option, Some, None, option_and_then, unwrap_or, inl, inr, lt-ltb, eqb-true, arith}
use Rattle.std.specs.Prelude.{◌==◌}
use Rattle.std.proofs.lemmas.Bool.{and_from, or_cases}
use Rattle.ibc_ids.specs.Texts.{Text}
use Rattle.ibc_ids.specs.Names.{is_connection, is_channel, is_port}
use Rattle.ibc_ids.specs.Paths.{is_key}
use Rattle.ibc_ids.specs.declared.key.Key.{Key}
use Rattle.ibc_ids.specs.declared.key.Key.TheVariants as key
use Rattle.ibc_wire.specs.Spelling.{channel_state_number}
use Rattle.ibc_wire.specs.declared.packet.Packet.{Packet}
use Rattle.ibc_wire.specs.declared.messages.Message.{Message}
use Rattle.ibc_wire.specs.declared.messages.Message.TheVariants as message
use Rattle.ibc_wire.specs.declared.records.ConnectionEnd.{ConnectionEnd}
use Rattle.ibc_wire.specs.declared.records.ConnectionState.TheVariants as conn
use Rattle.ibc_wire.specs.declared.records.ChannelEnd.{ChannelEnd}
use Rattle.ibc_wire.specs.declared.records.ChannelState.{ChannelState}
use Rattle.ibc_wire.specs.declared.records.ChannelState.TheVariants.{Init, TryOpen, Open, Closed}
use Rattle.ibc_machine.specs.chain.Records.{Core, Channel, connection_at, commitment_of}
use Rattle.ibc_machine.specs.ics24.Values.{Value, ClientIs, ConnectionIs, ChannelIs, NumberIs, CommitmentIs, AckIs, present_claim, absent_claim, commitment_text}
use Rattle.ibc_machine.specs.ics03.Connections.{connection_end}
use Rattle.ibc_machine.specs.ics04.Channels.{is_in_state, counterpart, has_channel, peer_channel_of, peer_connection_of, channel_end}
use Rattle.ibc_machine.specs.ics04.Packets.{is_ordered, not_received}
use Rattle.ibc_machine.specs.ics23.HashedTexts.{delivered_proof_texts, packet_texts, message_texts}
use Rattle.ibc_refinement.proofs.ShortTexts.{AreBytes}
use Rattle.ibc_refinement.proofs.SameSpellings.{IsShort, IsPeer, IsPlainChannel}
use Rattle.ibc_machine.proofs.Members.{Is_in, in_left, in_right}
use Rattle.ibc_refinement.proofs.PlainValues.{IsPlain, value_kind, kind_at}
use Rattle.ibc_refinement.proofs.Clear.{IsFitClaim}
use Rattle.ibc_refinement.proofs.SameAnswers.{AllAsked}
use Rattle.ibc_refinement.proofs.Typed.{IsNamedPeer, IsTypedConnection, IsTypedEnd, IsTyped}
use Rattle.ibc_refinement.proofs.TypedValues.{path_fits}
use Rattle.ibc_refinement.proofs.TypedLook.{short_port, short_name, short_connection, short_version, plain_from, connection_typed, channel_typed}
use Rattle.ibc_refinement.proofs.TypedMessages.{IsTypedPacket, IsTypedMessage}

-- ---- the parts

abbrev IsHashed : (Text → Type 0) → Text → Type 0
IsHashed S bytes = (x : Text) → Is_in x (delivered_proof_texts bytes) → S x

has_fit : (S : Text → Type 0) (k : Key) (v : Value) (bytes : Text) → is_key k ≡ true → IsPlain S v → value_kind v ≡ kind_at k → AreBytes bytes → IsHashed S bytes
    → IsFitClaim S (present_claim k v) bytes
has_fit S k v bytes is plain kind given hashed = record {
  plain = record { key_is = is; value = λ w e. let same : v ≡ w = cc in (subst (IsPlain S) same plain, ap value_kind (sym same) ∙ kind) };
  key_fits = path_fits k is;
  bytes_given = given;
  hashed = hashed;
}

lacks_fit : (S : Text → Type 0) (k : Key) (bytes : Text) → is_key k ≡ true → AreBytes bytes → IsHashed S bytes → IsFitClaim S (absent_claim k) bytes
lacks_fit S k bytes is given hashed = record {
  plain = record { key_is = is; value = λ w e. absurd (cc) };
  key_fits = path_fits k is;
  bytes_given = given;
  hashed = hashed;
}

-- an end of the peer
connection_fit : (S : Text → Type 0) (id : Text) (c : ConnectionEnd) (bytes : Text) → is_connection id ≡ true → IsTypedConnection c → AreBytes bytes → IsHashed S bytes
    → IsFitClaim S (present_claim (key.Connection id) (ConnectionIs c)) bytes
connection_fit S id c bytes is typed given hashed = has_fit S (key.Connection id) (ConnectionIs c) bytes is (plain_from S (ConnectionIs c) typed tt) refl given hashed

named_short : (o : Option Text) (init : Bool) → IsNamedPeer is_connection init o → IsShort (unwrap_or o [])
named_short None init h = omega arith
named_short (Some id) true h = absurd h
named_short (Some id) false h = short_connection id h

peer_connection_short : (core : Core) (connection : Text) → IsTyped core → IsShort (peer_connection_of core connection)
peer_connection_short core connection typed =
    elim (connection_at core connection) as (λ o. connection_at core connection ≡ o → IsShort (unwrap_or (option_and_then (λ (c : ConnectionEnd). c.peer_connection) o) [])) [
      | None ↦ λ _. omega arith
      | Some c ↦ λ is. named_short c.peer_connection _ (connection_typed core connection c typed is).1.peer
    ] refl

-- what the peer's end of a channel must be is plain
counterpart_plain : (core : Core) (mine : ChannelEnd) (port : Text) (peer : Option Text) (state : ChannelState) → IsTyped core → is_port port ≡ true
    → IsPeer (channel_state_number state == 1) peer → IsShort mine.version → IsPlainChannel (counterpart core mine port peer state)
counterpart_plain core mine port peer state typed p named version =
    record { peer_port = short_port port p; peer = named; connection = peer_connection_short core mine.connection typed; version = version }

channel_fit : (S : Text → Type 0) (core : Core) (mine : ChannelEnd) (name port : Text) (peer : Option Text) (state : ChannelState) (bytes : Text) → IsTyped core
    → is_port mine.peer_port ≡ true → is_channel name ≡ true → is_port port ≡ true → IsPeer (channel_state_number state == 1) peer → IsShort mine.version
    → AreBytes bytes → IsHashed S bytes → IsFitClaim S (has_channel mine name (counterpart core mine port peer state)) bytes
channel_fit S core mine name port peer state bytes typed peer_port named p peer_named version given hashed =
    has_fit S (key.ChannelEnd mine.peer_port name) (ChannelIs (counterpart core mine port peer state)) bytes
    (and_from (is_port mine.peer_port) (is_channel name) peer_port named) (counterpart_plain core mine port peer state typed p peer_named version) refl given hashed

-- an end that isn't in INIT names its peer
peer_named : (c : ChannelEnd) → IsTypedEnd c → eqb (channel_state_number c.state) 1 ≡ false → is_channel (peer_channel_of c) ≡ true
peer_named c typed other = by_peer c.peer_channel (subst (λ b. IsNamedPeer is_channel b c.peer_channel) other typed.peer)
  where
    by_peer : (o : Option Text) → IsNamedPeer is_channel false o → is_channel (unwrap_or o []) ≡ true
    by_peer None h = absurd h
    by_peer (Some id) h = h

pub not_init : (n m : ℕ) → eqb m 1 ≡ false → eqb n m ≡ true → eqb n 1 ≡ false
not_init n m other e = ap (λ x. eqb x 1) (eqb-true n m e) ∙ other

-- ---- packets

sequence_is : (port name : Text) (n : ℕ) → is_port port ≡ true → is_channel name ≡ true → n < 2 ^ 64 → (is_port port && is_channel name && nat_lt n (2 ^ 64)) ≡ true
sequence_is port name n p c h = and_from (is_port port && is_channel name) (nat_lt n (2 ^ 64)) (and_from (is_port port) (is_channel name) p c) (lt-ltb n (2 ^ 64) h)

not_received_fit : (S : Text → Type 0) (mine : Channel) (p : Packet) (next_recv : ℕ) (bytes : Text) → IsTypedPacket p → next_recv < 2 ^ 64 → AreBytes bytes → IsHashed S bytes
    → IsFitClaim S (not_received mine p next_recv) bytes
not_received_fit S mine p next_recv bytes typed small given hashed =
    elim (is_ordered mine) as (λ b. IsFitClaim S (cond b (present_claim (key.NextSequenceRecv p.destination_port p.destination_channel) (NumberIs next_recv)) (absent_claim (key.Receipt p.destination_port p.destination_channel p.sequence))) bytes) [
      | true ↦ has_fit S (key.NextSequenceRecv p.destination_port p.destination_channel) (NumberIs next_recv) bytes
          (and_from (is_port p.destination_port) (is_channel p.destination_channel) typed.destination_port typed.destination_channel) small refl given hashed
      | false ↦ lacks_fit S (key.Receipt p.destination_port p.destination_channel p.sequence) bytes
          (sequence_is p.destination_port p.destination_channel p.sequence typed.destination_port typed.destination_channel typed.sequence) given hashed
    ]

-- ---- all messages

abbrev pub AreHashed : (Text → Type 0) → List Text → Type 0
AreHashed S xs = (x : Text) → Is_in x xs → S x

front : (S : Text → Type 0) (xs ys : List Text) → AreHashed S (xs ++ ys) → AreHashed S xs
front S xs ys h x i = h x (in_left x xs ys i)

back : (S : Text → Type 0) (xs ys : List Text) → AreHashed S (xs ++ ys) → AreHashed S ys
back S xs ys h x i = h x (in_right x xs ys i)

pub asks_fit : (S : Text → Type 0) (core : Core) (m : Message) → IsTyped core → IsTypedMessage m → AreHashed S (message_texts m) → AllAsked (IsFitClaim S) core m
asks_fit S core (message.ConnOpenTry m) typed t h = (
  connection_fit S m.peer_connection (connection_end conn.Init m.peer_client m.client None) m.proof_end t.2 (record { client = t.1; peer_client = t.0; peer = tt }) t.5
      (front S (delivered_proof_texts m.proof_end) (delivered_proof_texts m.proof_client) h),
  has_fit S (key.ClientState m.peer_client) (ClientIs m.claim) m.proof_client t.1 t.4 refl t.6 (back S (delivered_proof_texts m.proof_end) (delivered_proof_texts m.proof_client) h),
)
asks_fit S core (message.ConnOpenAck m) typed t h = λ mine is.
    let c = connection_typed core m.connection mine typed is in (
      connection_fit S m.peer_connection (connection_end conn.TryOpen mine.peer_client mine.client (Some m.connection)) m.proof_end t.1
          (record { client = c.1.peer_client; peer_client = c.1.client; peer = t.0 }) t.4 (front S (delivered_proof_texts m.proof_end) (delivered_proof_texts m.proof_client) h),
      has_fit S (key.ClientState mine.peer_client) (ClientIs m.claim) m.proof_client c.1.peer_client t.3 refl t.5 (back S (delivered_proof_texts m.proof_end) (delivered_proof_texts m.proof_client) h),
    )
asks_fit S core (message.ConnOpenConfirm m) typed t h = λ mine peer is named.
    let c = connection_typed core m.connection mine typed is in
    connection_fit S peer (connection_end conn.Open mine.peer_client mine.client (Some m.connection)) m.proof (peer_is mine peer c.1 named)
    (record { client = c.1.peer_client; peer_client = c.1.client; peer = t.0 }) t.1 h
  where
    by_init : (init : Bool) (peer : Text) → IsNamedPeer is_connection init (Some peer) → is_connection peer ≡ true
    by_init true peer h = absurd h
    by_init false peer h = h

    peer_is : (mine : ConnectionEnd) (peer : Text) → IsTypedConnection mine → mine.peer_connection ≡ Some peer → is_connection peer ≡ true
    peer_is mine peer c named = by_init _ peer (subst (IsNamedPeer is_connection _) named c.peer)
asks_fit S core (message.ChanOpenTry m) typed t h =
    channel_fit S core (channel_end TryOpen m.order m.peer_port (Some m.peer_channel) m.connection m.version) m.peer_channel m.port None Init m.proof typed t.2 t.3 t.0 tt
    (short_version m.version t.4) t.5 h
asks_fit S core (message.ChanOpenAck m) typed t h = λ mine is.
    let c = channel_typed core m.port m.channel mine typed is in
    channel_fit S core mine.end m.peer_channel m.port (Some m.channel) TryOpen m.proof typed c.value.end.peer_port t.2 t.0 (short_name m.channel t.1)
    (short_version mine.end.version c.value.end.version) t.3 h
asks_fit S core (message.ChanOpenConfirm m) typed t h = λ mine is state.
    let c = channel_typed core m.port m.channel mine typed is in
    channel_fit S core mine.end (peer_channel_of mine.end) m.port (Some m.channel) Open m.proof typed c.value.end.peer_port
    (peer_named mine.end c.value.end (not_init _ 2 refl state)) t.0 (short_name m.channel t.1) (short_version mine.end.version c.value.end.version) t.2 h
asks_fit S core (message.ChanCloseConfirm m) typed t h = λ mine is state.
    let c = channel_typed core m.port m.channel mine typed is in
    let other : eqb (channel_state_number mine.end.state) 1 ≡ false = elim (or_cases (is_in_state TryOpen mine) (is_in_state Open mine) state) [ inl s ↦ not_init _ 2 refl s | inr s ↦ not_init _ 3 refl s ] in
    channel_fit S core mine.end (peer_channel_of mine.end) m.port (Some m.channel) Closed m.proof typed c.value.end.peer_port
    (peer_named mine.end c.value.end other) t.0 (short_name m.channel t.1) (short_version mine.end.version c.value.end.version) t.2 h
asks_fit S core (message.RecvPacket m) typed t h =
    let p = m.packet in
    let texts = front S (packet_texts p) (delivered_proof_texts m.proof) h in
    has_fit S (key.Commitment p.source_port p.source_channel p.sequence) (CommitmentIs (commitment_of p)) m.proof
    (sequence_is p.source_port p.source_channel p.sequence t.0.source_port t.0.source_channel t.0.sequence)
    (t.0.timeout_time, t.0.timeout_height, texts p.payload (inl refl), texts (commitment_text (commitment_of p)) (inr (inl refl))) refl t.1 (back S (packet_texts p) (delivered_proof_texts m.proof) h)
asks_fit S core (message.AckPacket m) typed t h =
    let p = m.packet in
    let more = back S (packet_texts p) (m.ack ∷ delivered_proof_texts m.proof) h in
    has_fit S (key.Acknowledgement p.destination_port p.destination_channel p.sequence) (AckIs m.ack) m.proof
    (sequence_is p.destination_port p.destination_channel p.sequence t.0.destination_port t.0.destination_channel t.0.sequence)
    (more m.ack (inl refl)) refl t.1 (back S (m.ack ∷ []) (delivered_proof_texts m.proof) more)
asks_fit S core (message.Timeout m) typed t h = λ mine is. not_received_fit S mine m.packet m.next_recv m.proof t.0 t.1 t.2 (back S (packet_texts m.packet) (delivered_proof_texts m.proof) h)
asks_fit S core (message.TimeoutOnClose m) typed t h = λ mine is.
    let p = m.packet in
    let c = channel_typed core p.source_port p.source_channel mine typed is in (
      not_received_fit S mine p m.next_recv m.proof t.0 t.1 t.2 (back S (packet_texts p) (delivered_proof_texts m.proof) (front S (packet_texts p ++ delivered_proof_texts m.proof) (delivered_proof_texts m.proof_close) h)),
      channel_fit S core mine.end p.destination_channel p.source_port (Some p.source_channel) Closed m.proof_close typed c.value.end.peer_port t.0.destination_channel t.0.source_port
          (short_name p.source_channel t.0.source_channel) (short_version mine.end.version c.value.end.version) t.3
          (back S (packet_texts p ++ delivered_proof_texts m.proof) (delivered_proof_texts m.proof_close) h),
    )
asks_fit S core m typed t h = tt
