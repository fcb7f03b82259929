-- Typed records, whose texts are among those that don't clash, are fit to be proved.
use Rattle.std.proofs.Common.{◌≡◌, ℕ, ◌<◌, ◌^◌, Bool, true, false, ◌&&◌, nat_lt, [], ◌∷◌, length, refl, sym, ap, ◌∙◌, subst, arith, Option, Some, None, option_map, option_and_then, inl, inr, lt-ltb, nat_cmp}
use Rattle.std.specs.Prelude.{⊤, ◌==◌}
use Rattle.std.specs.List.{flat_map}
use Rattle.std.specs.Map.{values_of}
use Rattle.std.specs.FinMap.{nat_cmp-IsAntisymmetric}
use Rattle.std.proofs.lemmas.Bool.{and_from}
use Rattle.ibc_ids.specs.Texts.{Text, text_cmp, pair_cmp}
use Rattle.ibc_ids.specs.Maps.{Map, at}
use Rattle.ibc_ids.specs.Names.{is_port, is_channel, is_client, is_connection, is_version}
use Rattle.ibc_ids.specs.Paths.{is_key}
use Rattle.ibc_ids.specs.declared.key.Key.{Key}
use Rattle.ibc_ids.specs.declared.key.Key.TheVariants as key
use Rattle.ibc_wire.specs.Spelling.{connection_state_number, channel_state_number}
use Rattle.ibc_wire.specs.declared.records.ConnectionEnd.{ConnectionEnd}
use Rattle.ibc_merkle.specs.Tree.{tree}
use Rattle.ibc_merkle.specs.Clashes.{tree_texts}
use Rattle.ibc_machine.specs.chain.Records.{Core, Client, Channel, client_at, connection_at, channel_at, is_one_of}
use Rattle.ibc_machine.specs.ics24.Values.{Value, ClientIs, ConnectionIs, ChannelIs, NumberIs, CommitmentIs, ReceiptIs, AckIs, value_at, receipt_if, commitment_text}
use Rattle.ibc_machine.specs.ics24.Image.{image}
use Rattle.ibc_machine.specs.ics23.HashedTexts.{commitment_texts, channel_texts, core_texts}
use Rattle.ibc_ids.proofs.Texts.{text_tied}
use Rattle.ibc_refinement.proofs.ShortTexts.{FitsText}
use Rattle.ibc_refinement.proofs.SameSpellings.{IsShort, IsPeer}
use Rattle.ibc_machine.proofs.Members.{Is_in, in_left, in_right, in_flat_map, at_in}
use Rattle.ibc_machine.proofs.Images.{pair_tied}
use Rattle.ibc_refinement.proofs.Entries.{all_at, all_one_of}
use Rattle.ibc_refinement.proofs.Fitting.{name_fits, version_fits}
use Rattle.ibc_refinement.proofs.PlainValues.{IsPlain}
use Rattle.ibc_refinement.proofs.Clear.{AreFit}
use Rattle.ibc_refinement.proofs.Typed.{IsTypedClient, IsNamedPeer, IsTypedConnectionAt, IsTypedCommitment, IsSequence, HasSequence, IsTypedChannel, IsTypedChannelAt, IsTyped}
use Rattle.ibc_refinement.proofs.TypedValues.{IsTypedValue, path_fits, value_fits}

-- ---- what is found is typed

pub client_typed : (core : Core) (id : Text) (c : Client) → IsTyped core → client_at core id ≡ Some c → IsTypedClient (id, c)
client_typed core id c typed there = all_at text_cmp IsTypedClient text_tied id c core.clients there typed.clients

pub connection_typed : (core : Core) (id : Text) (c : ConnectionEnd) → IsTyped core → connection_at core id ≡ Some c → IsTypedConnectionAt (id, c)
connection_typed core id c typed there = all_at text_cmp IsTypedConnectionAt text_tied id c core.connections there typed.connections

pub channel_typed : (core : Core) (port name : Text) (c : Channel) → IsTyped core → channel_at core port name ≡ Some c → IsTypedChannelAt ((port, name), c)
channel_typed core port name c typed there = all_at pair_cmp IsTypedChannelAt pair_tied (port, name) c core.channels there typed.channels

-- ---- texts

-- what a value hashes is among these texts
abbrev pub HasTexts : (Text → Type 0) → Value → Type 0
HasTexts S (CommitmentIs c) = S c.payload × S (commitment_text c)
HasTexts S (AckIs ack) = S ack
HasTexts S v = ⊤

-- what is hashed for what stands in a channel is among the texts of the records
channel_text : (core : Core) (port name : Text) (c : Channel) (x : Text) → channel_at core port name ≡ Some c → Is_in x (channel_texts ((port, name), c)) → Is_in x (core_texts core)
channel_text core port name c x there i =
    in_flat_map channel_texts ((port, name), c) x core.channels (at_in pair_cmp pair_tied (port, name) c core.channels there) i

in_values : {K V : Type 0} (k : K) (v : V) (es : Map K V) → Is_in (k, v) es → Is_in v (values_of es)
in_values k v [] h = absurd h
in_values k v (x ∷ es) (inl e) = inl (λ i. (e i).1)
in_values k v (x ∷ es) (inr h) = inr (in_values k v es h)

-- ---- a value, typed and with its texts, is plain

short_from : (high : ℕ) (text : Text) → high < 65536 → FitsText high text → IsShort text
short_from high text low fits = omega (arith, fits.short, low)

pub short_port : (text : Text) → is_port text ≡ true → IsShort text
short_port text h = short_from 128 text (omega arith) (name_fits 2 128 text h)

pub short_name : (text : Text) → is_channel text ≡ true → IsShort text
short_name text h = short_from 64 text (omega arith) (name_fits 8 64 text h)

short_client : (text : Text) → is_client text ≡ true → IsShort text
short_client text h = short_from 64 text (omega arith) (name_fits 9 64 text h)

pub short_connection : (text : Text) → is_connection text ≡ true → IsShort text
short_connection text h = short_from 64 text (omega arith) (name_fits 10 64 text h)

pub short_version : (text : Text) → is_version text ≡ true → IsShort text
short_version text h = short_from 32 text (omega arith) (version_fits text h)

plain_peer : (test : Text → Bool) (init : Bool) (o : Option Text) → ((id : Text) → test id ≡ true → IsShort id) → IsNamedPeer test init o → IsPeer init o
plain_peer test true None short h = tt
plain_peer test true (Some id) short h = absurd h
plain_peer test false None short h = absurd h
plain_peer test false (Some id) short h = short id h

pub plain_from : (S : Text → Type 0) (v : Value) → IsTypedValue v → HasTexts S v → IsPlain S v
plain_from S (ClientIs c) h s = h.1
plain_from S (ConnectionIs c) h s = record {
  client = short_client c.client h.client;
  peer_client = short_client c.peer_client h.peer_client;
  peer = plain_peer _ (connection_state_number c.state == 1) c.peer_connection short_connection h.peer;
}
plain_from S (ChannelIs c) h s = record {
  peer_port = short_port c.peer_port h.peer_port;
  peer = plain_peer _ (channel_state_number c.state == 1) c.peer_channel short_name h.peer;
  connection = short_connection c.connection h.connection;
  version = short_version c.version h.version;
}
plain_from S (NumberIs n) h s = h
plain_from S (CommitmentIs c) h s = (h.1, h.0, s.0, s.1)
plain_from S ReceiptIs h s = tt
plain_from S (AckIs ack) h s = s

-- ---- what stands at a key

pub record Stands (S : Text → Type 0) (k : Key) (v : Value) : Type 0 where
  pub key_is : is_key k ≡ true
  pub typed : IsTypedValue v
  pub texts : HasTexts S v

mapped : {A B : Type 0} (f : A → B) (o : Option A) {y : B} → option_map f o ≡ Some y → (x : A) × (o ≡ Some x) × (f x ≡ y)
mapped f (Some x) e = (x, refl, cc)
mapped f None e = absurd (cc)

gone_on : {A B : Type 0} (f : A → Option B) (o : Option A) {y : B} → option_and_then f o ≡ Some y → (x : A) × (o ≡ Some x) × (f x ≡ Some y)
gone_on f (Some x) e = (x, refl, e)
gone_on f None e = absurd (cc)

received : (b : Bool) {y : Value} → receipt_if b ≡ Some y → (b ≡ true) × (ReceiptIs ≡ y)
received true e = (refl, cc)
received false e = absurd (cc)

one : {x y : ℕ} → ◌≡◌ {A = Option ℕ} (Some x) (Some y) → x ≡ y
one e = cc

sequence_key : (port name : Text) (n : ℕ) → is_port port ≡ true → is_channel name ≡ true → n < 2 ^ 64 → (is_port port && is_channel name && nat_lt n (2 ^ 64)) ≡ true
sequence_key port name n p c h = and_from (is_port port && is_channel name) (nat_lt n (2 ^ 64)) (and_from (is_port port) (is_channel name) p c) (lt-ltb n (2 ^ 64) h)

module _ (S : Text → Type 0) (core : Core) (typed : IsTyped core) (texts : (x : Text) → Is_in x (core_texts core) → S x) where
  channel_number : (k : Key) (port name : Text) (f : Channel → ℕ) (v : Value) → ((c : Channel) → IsTypedChannel c → f c < 2 ^ 64) → option_map (λ c. NumberIs (f c)) (channel_at core port name) ≡ Some v
      → (is_port port && is_channel name) ≡ is_key k → Stands S k v
  channel_number k port name f v small e keys =
      let w = mapped (λ c. NumberIs (f c)) (channel_at core port name) e in
      let t = channel_typed core port name w.0 typed w.1 in
      subst (Stands S k) w.2 (record { key_is = sym keys ∙ and_from (is_port port) (is_channel name) t.port t.channel; typed = small w.0 t.value; texts = tt })

  pub stands : (k : Key) (v : Value) → value_at core k ≡ Some v → Stands S k v
  stands (key.ClientState id) v e =
      let w = mapped (λ client. ClientIs client.state) (client_at core id) e in
      let t = client_typed core id w.0 typed w.1 in
      subst (Stands S (key.ClientState id)) w.2 (record { key_is = t.name; typed = (t.chain, t.latest); texts = tt })
  stands (key.Connection id) v e =
      let w = mapped ConnectionIs (connection_at core id) e in
      let t = connection_typed core id w.0 typed w.1 in
      subst (Stands S (key.Connection id)) w.2 (record { key_is = t.0; typed = t.1; texts = tt })
  stands (key.ChannelEnd port name) v e =
      let w = mapped (λ c. ChannelIs c.end) (channel_at core port name) e in
      let t = channel_typed core port name w.0 typed w.1 in
      subst (Stands S (key.ChannelEnd port name)) w.2 (record { key_is = and_from (is_port port) (is_channel name) t.port t.channel; typed = t.value.end; texts = tt })
  stands (key.NextSequenceSend port name) v e = channel_number (key.NextSequenceSend port name) port name (λ c. c.next_send) v (λ c t. t.next_send) e refl
  stands (key.NextSequenceRecv port name) v e = channel_number (key.NextSequenceRecv port name) port name (λ c. c.next_recv) v (λ c t. t.next_recv) e refl
  stands (key.NextSequenceAck port name) v e = channel_number (key.NextSequenceAck port name) port name (λ c. c.next_ack) v (λ c t. t.next_ack) e refl
  stands (key.Commitment port name n) v e =
      let w = gone_on _ (channel_at core port name) e in
      let x = mapped CommitmentIs (at nat_cmp n w.0.commitments) w.2 in
      let t = channel_typed core port name w.0 typed w.1 in
      let u = all_at nat_cmp IsTypedCommitment nat_cmp-IsAntisymmetric n x.0 w.0.commitments x.1 t.value.commitments in
      let listed = in_values n x.0 w.0.commitments (at_in nat_cmp nat_cmp-IsAntisymmetric n x.0 w.0.commitments x.1) in
      let among : (y : Text) → Is_in y (commitment_texts x.0) → S y = λ y i.
      texts y (channel_text core port name w.0 y w.1
      (in_left y (flat_map commitment_texts (values_of w.0.commitments)) (values_of w.0.acks) (in_flat_map commitment_texts x.0 y (values_of w.0.commitments) listed i)))
      in
      subst (Stands S (key.Commitment port name n)) x.2 (record {
        key_is = sequence_key port name n t.port t.channel u.sequence;
        typed = (u.timeout_height, u.timeout_time);
        texts = (among x.0.payload (inl refl), among (commitment_text x.0) (inr (inl refl)));
      })
  stands (key.Receipt port name n) v e =
      let w = gone_on _ (channel_at core port name) e in
      let r = received (is_one_of w.0.receipts n) w.2 in
      let t = channel_typed core port name w.0 typed w.1 in
      subst (Stands S (key.Receipt port name n)) r.1 (record { key_is = sequence_key port name n t.port t.channel (all_one_of IsSequence n w.0.receipts r.0 t.value.receipts); typed = tt; texts = tt })
  stands (key.Acknowledgement port name n) v e =
      let w = gone_on _ (channel_at core port name) e in
      let x = mapped AckIs (at nat_cmp n w.0.acks) w.2 in
      let t = channel_typed core port name w.0 typed w.1 in
      let u = all_at nat_cmp HasSequence nat_cmp-IsAntisymmetric n x.0 w.0.acks x.1 t.value.acks in
      let listed = in_values n x.0 w.0.acks (at_in nat_cmp nat_cmp-IsAntisymmetric n x.0 w.0.acks x.1) in
      subst (Stands S (key.Acknowledgement port name n)) x.2 (record {
        key_is = sequence_key port name n t.port t.channel u;
        typed = tt;
        texts = texts x.0 (channel_text core port name w.0 x.0 w.1 (in_right x.0 (flat_map commitment_texts (values_of w.0.commitments)) (values_of w.0.acks) listed));
      })
  stands key.NextClientSequence v e =
      let w = mapped NumberIs (Some core.next_client) e in
      subst (Stands S key.NextClientSequence) (ap NumberIs (one w.1) ∙ w.2) (record { key_is = refl; typed = typed.next_client; texts = tt })
  stands key.NextConnectionSequence v e =
      let w = mapped NumberIs (Some core.next_connection) e in
      subst (Stands S key.NextConnectionSequence) (ap NumberIs (one w.1) ∙ w.2) (record { key_is = refl; typed = typed.next_connection; texts = tt })
  stands key.NextChannelSequence v e =
      let w = mapped NumberIs (Some core.next_channel) e in
      subst (Stands S key.NextChannelSequence) (ap NumberIs (one w.1) ∙ w.2) (record { key_is = refl; typed = typed.next_channel; texts = tt })

  pub fit_from : length (image core) < 2 ^ 64 → ((x : Text) → Is_in x (tree_texts (tree (image core))) → S x) → AreFit S core
  fit_from small hashed = record {
    plain = record {
      values = λ k v e. let s = stands k v e in plain_from S v s.typed s.texts;
      keys_are = λ k v e. (stands k v e).key_is;
    };
    fit = λ k v e. let s = stands k v e in (path_fits k s.key_is, value_fits v s.typed);
    small = small;
    hashed = hashed;
  }
