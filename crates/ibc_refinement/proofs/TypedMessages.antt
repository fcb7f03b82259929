-- What the type of a message promises of its parts.
use Rattle.std.proofs.Common.{◌≡◌, ℕ, zero, suc, ◌<◌, ◌^◌, true, nat_lt, List, [], ◌∷◌, ◌++◌, sym, ◌∙◌, ltb-true}
use Rattle.std.specs.Prelude.{⊤}
use Rattle.std.proofs.lemmas.List.Folds.{list_all-append}
use Rattle.std.proofs.lemmas.Bool.{and_parts}
use Rattle.ibc_ids.specs.Names.{is_client, is_connection, is_channel, is_port, is_version, is_receiver, is_memo}
use Rattle.ibc_wire.specs.Fields.{Field, are_typed, name, be64, str}
use Rattle.ibc_wire.specs.Spelling.{packet_fields, tokens_fields}
use Rattle.ibc_wire.specs.Messages.{message_fields}
use Rattle.ibc_wire.specs.declared.packet.Packet.{Packet}
use Rattle.ibc_wire.specs.declared.messages.Message.{Message}
use Rattle.ibc_wire.specs.declared.messages.Message.TheVariants as message
use Rattle.ibc_refinement.proofs.ShortTexts.{AreBytes}

pub record IsTypedPacket (p : Packet) : Type 0 where
  pub sequence : p.sequence < 2 ^ 64
  pub timeout_height : p.timeout_height < 2 ^ 64
  pub timeout_time : p.timeout_time < 2 ^ 64
  pub source_port : is_port p.source_port ≡ true
  pub source_channel : is_channel p.source_channel ≡ true
  pub destination_port : is_port p.destination_port ≡ true
  pub destination_channel : is_channel p.destination_channel ≡ true

-- what the handlers need of a message's parts
abbrev pub IsTypedMessage : Message → Type 0
IsTypedMessage (message.CreateClient m) = m.chain < 256
IsTypedMessage (message.UpdateClient m) = (is_client m.client ≡ true) × (m.header.height < 2 ^ 64)
IsTypedMessage (message.ConnOpenInit m) = (is_client m.client ≡ true) × (is_client m.peer_client ≡ true)
IsTypedMessage (message.ConnOpenTry m) =
    (is_client m.client ≡ true) × (is_client m.peer_client ≡ true) × (is_connection m.peer_connection ≡ true) × (m.claim.chain < 256) × (m.claim.latest < 2 ^ 64)
    × AreBytes m.proof_end × AreBytes m.proof_client
IsTypedMessage (message.ConnOpenAck m) =
    (is_connection m.connection ≡ true) × (is_connection m.peer_connection ≡ true) × (m.claim.chain < 256) × (m.claim.latest < 2 ^ 64) × AreBytes m.proof_end
    × AreBytes m.proof_client
IsTypedMessage (message.ConnOpenConfirm m) = (is_connection m.connection ≡ true) × AreBytes m.proof
IsTypedMessage (message.ChanOpenInit m) =
    (is_port m.port ≡ true) × (is_connection m.connection ≡ true) × (is_port m.peer_port ≡ true) × (is_version m.version ≡ true)
IsTypedMessage (message.ChanOpenTry m) =
    (is_port m.port ≡ true) × (is_connection m.connection ≡ true) × (is_port m.peer_port ≡ true) × (is_channel m.peer_channel ≡ true) × (is_version m.version ≡ true)
    × AreBytes m.proof
IsTypedMessage (message.ChanOpenAck m) =
    (is_port m.port ≡ true) × (is_channel m.channel ≡ true) × (is_channel m.peer_channel ≡ true) × AreBytes m.proof
IsTypedMessage (message.ChanOpenConfirm m) = (is_port m.port ≡ true) × (is_channel m.channel ≡ true) × AreBytes m.proof
IsTypedMessage (message.ChanCloseInit m) = (is_port m.port ≡ true) × (is_channel m.channel ≡ true)
IsTypedMessage (message.ChanCloseConfirm m) = (is_port m.port ≡ true) × (is_channel m.channel ≡ true) × AreBytes m.proof
IsTypedMessage (message.Transfer m) = (m.timeout_height < 2 ^ 64) × (m.timeout_time < 2 ^ 64)
IsTypedMessage (message.SendNote m) = (m.timeout_height < 2 ^ 64) × (m.timeout_time < 2 ^ 64)
IsTypedMessage (message.RecvPacket m) = IsTypedPacket m.packet × AreBytes m.proof
IsTypedMessage (message.AckPacket m) = IsTypedPacket m.packet × AreBytes m.proof
IsTypedMessage (message.Timeout m) = IsTypedPacket m.packet × (m.next_recv < 2 ^ 64) × AreBytes m.proof
IsTypedMessage (message.TimeoutOnClose m) = IsTypedPacket m.packet × (m.next_recv < 2 ^ 64) × AreBytes m.proof × AreBytes m.proof_close
IsTypedMessage (message.TransferMany m) = (m.timeout_height < 2 ^ 64) × (m.timeout_time < 2 ^ 64)

-- ---- from the fields

head : (f : Field) (fs : List Field) → are_typed (f ∷ fs) ≡ true → f.in_type ≡ true
head f fs h = (and_parts f.in_type (are_typed fs) h).0

tail : (f : Field) (fs : List Field) → are_typed (f ∷ fs) ≡ true → are_typed fs ≡ true
tail f fs h = (and_parts f.in_type (are_typed fs) h).1

-- what stands behind some fields, by their number
abbrev behind : ℕ → List Field → List Field
behind zero fs = fs
behind (suc n) [] = []
behind (suc n) (f ∷ fs) = behind n fs

typed_behind : (n : ℕ) (fs : List Field) → are_typed fs ≡ true → are_typed (behind n fs) ≡ true
typed_behind zero fs h = h
typed_behind (suc n) [] h = h
typed_behind (suc n) (f ∷ fs) h = typed_behind n fs (tail f fs h)

-- the first field behind so many
abbrev FirstTyped : List Field → Type 0
FirstTyped [] = ⊤
FirstTyped (f ∷ fs) = f.in_type ≡ true

first_typed : (fs : List Field) → are_typed fs ≡ true → FirstTyped fs
first_typed [] h = tt
first_typed (f ∷ fs) h = head f fs h

field_at : (n : ℕ) (fs : List Field) → are_typed fs ≡ true → FirstTyped (behind n fs)
field_at n fs h = first_typed (behind n fs) (typed_behind n fs h)

-- fields in front, and behind
both_typed : (fs gs : List Field) → are_typed (fs ++ gs) ≡ true → (are_typed fs ≡ true) × (are_typed gs ≡ true)
both_typed fs gs h = and_parts (are_typed fs) (are_typed gs) (sym (list_all-append (λ (field : Field). field.in_type) fs gs) ∙ h)

number : (n : ℕ) → nat_lt n (2 ^ 64) ≡ true → n < 2 ^ 64
number n h = ltb-true n (2 ^ 64) h

packet_typed : (p : Packet) → are_typed (packet_fields p) ≡ true → IsTypedPacket p
packet_typed p h = record {
  sequence = number p.sequence (field_at 0 (packet_fields p) h);
  timeout_height = number p.timeout_height (field_at 1 (packet_fields p) h);
  timeout_time = number p.timeout_time (field_at 2 (packet_fields p) h);
  source_port = field_at 3 (packet_fields p) h;
  source_channel = field_at 4 (packet_fields p) h;
  destination_port = field_at 5 (packet_fields p) h;
  destination_channel = field_at 6 (packet_fields p) h;
}

pub message_typed : (m : Message) → are_typed (message_fields m) ≡ true → IsTypedMessage m
message_typed (message.CreateClient m) h = ltb-true m.chain 256 (field_at 1 (message_fields (message.CreateClient m)) h)
message_typed (message.UpdateClient m) h = let fs = message_fields (message.UpdateClient m) in (field_at 1 fs h, number m.header.height (field_at 3 fs h))
message_typed (message.ConnOpenInit m) h = let fs = message_fields (message.ConnOpenInit m) in (field_at 1 fs h, field_at 2 fs h)
message_typed (message.ConnOpenTry m) h =
    let fs = message_fields (message.ConnOpenTry m) in
    (field_at 1 fs h, field_at 2 fs h, field_at 3 fs h, ltb-true m.claim.chain 256 (field_at 4 fs h), number m.claim.latest (field_at 5 fs h), field_at 7 fs h, field_at 8 fs h)
message_typed (message.ConnOpenAck m) h =
    let fs = message_fields (message.ConnOpenAck m) in
    (field_at 1 fs h, field_at 2 fs h, ltb-true m.claim.chain 256 (field_at 3 fs h), number m.claim.latest (field_at 4 fs h), field_at 6 fs h, field_at 7 fs h)
message_typed (message.ConnOpenConfirm m) h = let fs = message_fields (message.ConnOpenConfirm m) in (field_at 1 fs h, field_at 3 fs h)
message_typed (message.ChanOpenInit m) h = let fs = message_fields (message.ChanOpenInit m) in (field_at 1 fs h, field_at 3 fs h, field_at 4 fs h, field_at 5 fs h)
message_typed (message.ChanOpenTry m) h =
    let fs = message_fields (message.ChanOpenTry m) in
    (field_at 1 fs h, field_at 3 fs h, field_at 4 fs h, field_at 5 fs h, field_at 6 fs h, field_at 8 fs h)
message_typed (message.ChanOpenAck m) h = let fs = message_fields (message.ChanOpenAck m) in (field_at 1 fs h, field_at 2 fs h, field_at 3 fs h, field_at 5 fs h)
message_typed (message.ChanOpenConfirm m) h = let fs = message_fields (message.ChanOpenConfirm m) in (field_at 1 fs h, field_at 2 fs h, field_at 4 fs h)
message_typed (message.ChanCloseInit m) h = let fs = message_fields (message.ChanCloseInit m) in (field_at 1 fs h, field_at 2 fs h)
message_typed (message.ChanCloseConfirm m) h = let fs = message_fields (message.ChanCloseConfirm m) in (field_at 1 fs h, field_at 2 fs h, field_at 4 fs h)
message_typed (message.Transfer m) h =
    let fs = message_fields (message.Transfer m) in (number m.timeout_height (field_at 7 fs h), number m.timeout_time (field_at 8 fs h))
message_typed (message.SendNote m) h = let fs = message_fields (message.SendNote m) in (number m.timeout_height (field_at 3 fs h), number m.timeout_time (field_at 4 fs h))
message_typed (message.RecvPacket m) h =
    let more = be64 m.height ∷ str m.proof ∷ [] in
    let w = both_typed (packet_fields m.packet) more (typed_behind 1 (message_fields (message.RecvPacket m)) h) in
    (packet_typed m.packet w.0, field_at 1 more w.1)
message_typed (message.AckPacket m) h =
    let more = str m.ack ∷ be64 m.height ∷ str m.proof ∷ [] in
    let w = both_typed (packet_fields m.packet) more (typed_behind 1 (message_fields (message.AckPacket m)) h) in
    (packet_typed m.packet w.0, field_at 2 more w.1)
message_typed (message.Timeout m) h =
    let more = be64 m.next_recv ∷ be64 m.height ∷ str m.proof ∷ [] in
    let w = both_typed (packet_fields m.packet) more (typed_behind 1 (message_fields (message.Timeout m)) h) in
    (packet_typed m.packet w.0, number m.next_recv (field_at 0 more w.1), field_at 2 more w.1)
message_typed (message.TimeoutOnClose m) h =
    let more = be64 m.next_recv ∷ be64 m.height ∷ str m.proof ∷ str m.proof_close ∷ [] in
    let w = both_typed (packet_fields m.packet) more (typed_behind 1 (message_fields (message.TimeoutOnClose m)) h) in
    (packet_typed m.packet w.0, number m.next_recv (field_at 0 more w.1), field_at 2 more w.1, field_at 3 more w.1)
message_typed (message.TransferMany m) h =
    let more = name is_receiver m.receiver ∷ name is_memo m.memo ∷ be64 m.timeout_height ∷ be64 m.timeout_time ∷ [] in
    let w = both_typed (tokens_fields m.tokens) more (typed_behind 3 (message_fields (message.TransferMany m)) h) in
    (number m.timeout_height (field_at 2 more w.1), number m.timeout_time (field_at 3 more w.1))
