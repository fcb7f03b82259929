-- Values with the same bytes are the same, where their numbers fit and the texts that they hash don't clash.
use Rattle.std.proofs.Common.{◌≡◌, ℕ, ◌<◌, ◌^◌, Bool, true, false, ◌++◌, refl, sym, ap, ◌∙◌, Option, Some, None, option_map, option_and_then}
use Rattle.std.specs.Int.{w64, to_be_bytes}
use Rattle.std.specs.Ordering.{nat_cmp}
use Rattle.ibc_ids.specs.Texts.{Text}
use Rattle.ibc_ids.specs.Maps.{at}
use Rattle.ibc_ids.specs.declared.key.Key.{Key}
use Rattle.ibc_ids.specs.declared.key.Key.TheVariants as key
use Rattle.ibc_ids.specs.Paths.{is_key, DifferentPaths}
use Rattle.ibc_ids.proofs.Texts.{backs_same}
use Rattle.ibc_merkle.specs.Hash.{hash}
use Rattle.ibc_merkle.proofs.Digests.{length-hash}
use Rattle.ibc_merkle.proofs.Accepted.{IsClear}
use Rattle.ibc_refinement.proofs.SameSpellings.{numbers_same, client_states_same, IsPlainConnection, connection_ends_same, IsPlainChannel, channel_ends_same}
use Rattle.ibc_machine.specs.chain.Records.{Core, Channel, Commitment, client_at, connection_at, channel_at, is_one_of}
use Rattle.ibc_machine.specs.ics24.Values.{Value, ClientIs, ConnectionIs, ChannelIs, NumberIs, CommitmentIs, ReceiptIs, AckIs, Claim, value_at, receipt_if, commitment_text, value_bytes}
use Rattle.ibc_machine.proofs.Images.{TellsKey}

-- its numbers fit, its texts are short, and what it hashes is among these texts
abbrev pub IsPlain : (Text → Type 0) → Value → Type 0
IsPlain S (ClientIs c) = c.latest < 2 ^ 64
IsPlain S (ConnectionIs c) = IsPlainConnection c
IsPlain S (ChannelIs c) = IsPlainChannel c
IsPlain S (NumberIs n) = n < 2 ^ 64
IsPlain S (CommitmentIs c) = (c.timeout_time < 2 ^ 64) × (c.timeout_height < 2 ^ 64) × S c.payload × S (commitment_text c)
IsPlain S ReceiptIs = Unit {0}
IsPlain S (AckIs ack) = S ack

-- ---- what kind of value stands at a key

abbrev pub value_kind : Value → ℕ
value_kind (ClientIs c) = 0
value_kind (ConnectionIs c) = 1
value_kind (ChannelIs c) = 2
value_kind (NumberIs n) = 3
value_kind (CommitmentIs c) = 4
value_kind ReceiptIs = 5
value_kind (AckIs ack) = 6

abbrev pub kind_at : Key → ℕ
kind_at (key.ClientState id) = 0
kind_at (key.Connection id) = 1
kind_at (key.ChannelEnd port channel) = 2
kind_at (key.Commitment port channel n) = 4
kind_at (key.Receipt port channel n) = 5
kind_at (key.Acknowledgement port channel n) = 6
kind_at k = 3

mapped_kind : {A : Type 0} (f : A → Value) (n : ℕ) → ((x : A) → value_kind (f x) ≡ n) → (o : Option A) (v : Value) → option_map f o ≡ Some v → value_kind v ≡ n
mapped_kind f n is None v e = absurd (cc)
mapped_kind f n is (Some x) v e = let same : f x ≡ v = cc in ap value_kind (sym same) ∙ is x

gone_kind : (f : Channel → Option Value) (n : ℕ) → ((x : Channel) (v : Value) → f x ≡ Some v → value_kind v ≡ n) → (o : Option Channel) (v : Value) → option_and_then f o ≡ Some v → value_kind v ≡ n
gone_kind f n is None v e = absurd (cc)
gone_kind f n is (Some x) v e = is x v e

receipt_kind : (b : Bool) (v : Value) → receipt_if b ≡ Some v → value_kind v ≡ 5
receipt_kind true v e = let same : ReceiptIs ≡ v = cc in ap value_kind (sym same)
receipt_kind false v e = absurd (cc)

look_kind : (core : Core) (k : Key) (v : Value) → value_at core k ≡ Some v → value_kind v ≡ kind_at k
look_kind core (key.ClientState id) v e = mapped_kind _ 0 (λ _. refl) (client_at core id) v e
look_kind core (key.Connection id) v e = mapped_kind _ 1 (λ _. refl) (connection_at core id) v e
look_kind core (key.ChannelEnd port name) v e = mapped_kind _ 2 (λ _. refl) (channel_at core port name) v e
look_kind core (key.NextSequenceSend port name) v e = mapped_kind _ 3 (λ _. refl) (channel_at core port name) v e
look_kind core (key.NextSequenceRecv port name) v e = mapped_kind _ 3 (λ _. refl) (channel_at core port name) v e
look_kind core (key.NextSequenceAck port name) v e = mapped_kind _ 3 (λ _. refl) (channel_at core port name) v e
look_kind core (key.Commitment port name n) v e = gone_kind _ 4 (λ c v e. mapped_kind CommitmentIs 4 (λ _. refl) (at nat_cmp n c.commitments) v e) (channel_at core port name) v e
look_kind core (key.Receipt port name n) v e = gone_kind _ 5 (λ c v e. receipt_kind (is_one_of c.receipts n) v e) (channel_at core port name) v e
look_kind core (key.Acknowledgement port name n) v e = gone_kind _ 6 (λ c v e. mapped_kind AckIs 6 (λ _. refl) (at nat_cmp n c.acks) v e) (channel_at core port name) v e
look_kind core key.NextClientSequence v e = mapped_kind NumberIs 3 (λ _. refl) (Some core.next_client) v e
look_kind core key.NextConnectionSequence v e = mapped_kind NumberIs 3 (λ _. refl) (Some core.next_connection) v e
look_kind core key.NextChannelSequence v e = mapped_kind NumberIs 3 (λ _. refl) (Some core.next_channel) v e

-- ---- the bytes tell the value

commitments_same : (S : Text → Type 0) → IsClear S → (a b : Commitment) → IsPlain S (CommitmentIs a) → IsPlain S (CommitmentIs b) → hash (commitment_text a) ≡ hash (commitment_text b) → a ≡ b
commitments_same S clear a b h g e =
    let text = clear (commitment_text a) (commitment_text b) h.3 g.3 e in
    let last = backs_same (to_be_bytes w64 a.timeout_time ++ to_be_bytes w64 0 ++ to_be_bytes w64 a.timeout_height) (hash a.payload)
    (to_be_bytes w64 b.timeout_time ++ to_be_bytes w64 0 ++ to_be_bytes w64 b.timeout_height) (hash b.payload) (length-hash a.payload ∙ sym (length-hash b.payload)) text
    in
    let middle = backs_same (to_be_bytes w64 a.timeout_time ++ to_be_bytes w64 0) (to_be_bytes w64 a.timeout_height)
    (to_be_bytes w64 b.timeout_time ++ to_be_bytes w64 0) (to_be_bytes w64 b.timeout_height) refl last.0
    in
    let first = backs_same (to_be_bytes w64 a.timeout_time) (to_be_bytes w64 0) (to_be_bytes w64 b.timeout_time) (to_be_bytes w64 0) refl middle.0 in
    let payloads = clear a.payload b.payload h.2 g.2 last.1 in
    let heights = numbers_same a.timeout_height b.timeout_height h.1 g.1 middle.1 in
    let times = numbers_same a.timeout_time b.timeout_time h.0 g.0 first.0 in
    λ i. record { payload = payloads i; timeout_height = heights i; timeout_time = times i }

pub plain_values_same : (S : Text → Type 0) → IsClear S → (v w : Value) → value_kind v ≡ value_kind w → IsPlain S v → IsPlain S w → value_bytes v ≡ value_bytes w → v ≡ w
plain_values_same S clear (ClientIs a) (ClientIs b) k h g e = ap ClientIs (client_states_same a b h g e)
plain_values_same S clear (ConnectionIs a) (ConnectionIs b) k h g e = ap ConnectionIs (connection_ends_same a b h g e)
plain_values_same S clear (ChannelIs a) (ChannelIs b) k h g e = ap ChannelIs (channel_ends_same a b h g e)
plain_values_same S clear (NumberIs a) (NumberIs b) k h g e = ap NumberIs (numbers_same a b h g e)
plain_values_same S clear (CommitmentIs a) (CommitmentIs b) k h g e = ap CommitmentIs (commitments_same S clear a b h g e)
plain_values_same S clear ReceiptIs ReceiptIs k h g e = refl
plain_values_same S clear (AckIs a) (AckIs b) k h g e = ap AckIs (clear a b h g e)
plain_values_same S clear v w k h g e = absurd (cc)

-- ---- records and claims

-- all values that stand are plain, and all keys that have one are keys
pub record ArePlain (S : Text → Type 0) (core : Core) : Type 0 where
  pub values : (k : Key) (v : Value) → value_at core k ≡ Some v → IsPlain S v
  pub keys_are : (k : Key) (v : Value) → value_at core k ≡ Some v → is_key k ≡ true

-- a claim of a key, with a plain value of the key's kind or none
pub record IsPlainClaim (S : Text → Type 0) (claim : Claim) : Type 0 where
  pub key_is : is_key claim.key ≡ true
  pub value : (v : Value) → claim.value ≡ Some v → IsPlain S v × (value_kind v ≡ kind_at claim.key)

pub plain_tells : DifferentPaths → (S : Text → Type 0) (core : Core) (k : Key) → ArePlain S core → is_key k ≡ true → TellsKey core k
plain_tells different S core k plain is l v there same = different l k (plain.keys_are l v there) is same

pub plain_one_value : (S : Text → Type 0) → IsClear S → (core : Core) (claim : Claim) → ArePlain S core → IsPlainClaim S claim
    → (v w : Value) → value_at core claim.key ≡ Some v → claim.value ≡ Some w → value_bytes v ≡ value_bytes w → v ≡ w
plain_one_value S clear core claim plain asked v w there claimed same =
    let given = asked.value w claimed in
    plain_values_same S clear v w (look_kind core claim.key v there ∙ sym given.1) (plain.values claim.key v there) given.0 same
