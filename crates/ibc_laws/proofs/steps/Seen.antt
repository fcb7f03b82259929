-- What a chain has seen of another where a proof was accepted.
use Rattle.std.proofs.Common.{◌≡◌, ℕ, Bool, true, false, refl, ap, sym, ◌∙◌, subst, Option, Some, None, nat_cmp, option_map}
use Rattle.std.specs.Option.{option_map_or, option_and_then}
use Rattle.ibc_ids.specs.Texts.{Text}
use Rattle.ibc_ids.specs.Maps.{at}
use Rattle.ibc_ids.specs.declared.key.Key.TheVariants as key
use Rattle.ibc_ids.proofs.Texts.{text_same}
use Rattle.ibc_wire.specs.declared.records.ClientState.{ClientState}
use Rattle.ibc_wire.specs.declared.records.ConnectionEnd.{ConnectionEnd}
use Rattle.ibc_wire.specs.declared.records.ChannelEnd.{ChannelEnd}
use Rattle.ibc_machine.specs.chain.Records.{Core, Block, Client, Channel, Commitment, client_at, connection_at, channel_at, is_one_of}
use Rattle.ibc_machine.specs.ics24.Values.{ClientIs, ConnectionIs, ChannelIs, NumberIs, CommitmentIs, AckIs, Claim, value_at, present_claim, absent_claim, same_value, receipt_if}
use Rattle.ibc_machine.specs.ics24.Evidence.{Evidence}
use Rattle.ibc_machine.specs.chain.Machine.{World, true_marks, direct_evidence, block_at, is_shown_in}
use Rattle.ibc_machine.proofs.SameValues.{same_connection_is, same_channel_is, same_client_is, same_commitment_is}
use Rattle.ibc_laws.proofs.basics.PassedTests.{both}
use Rattle.std.proofs.Common.{eqb-true}

-- the client tracks a chain, which has committed the height, and its block there is so
pub record Sees (w : World) (core : Core) (client : Text) (height : ℕ) (P : Block → Type 0) : Type 0 where
  pub tracked : Client
  pub there : client_at core client ≡ Some tracked
  pub block : Block
  pub stood : block_at w tracked.state.chain height ≡ Some block
  pub had : P block

abbrev pub seeing : ℕ → Bool → World → Core → Evidence
seeing window oldest w core = direct_evidence true_marks window oldest w core

module _ (window : ℕ) (oldest : Bool) (w : World) (core : Core) (client : Text) (height : ℕ) (claim : Claim) (proof : Text) where
  in_block : (tracked : Client) → client_at core client ≡ Some tracked → (o : Option Block)
      → block_at w tracked.state.chain height ≡ o
      → option_map_or (is_shown_in true_marks claim proof) o false ≡ true
      → Sees w core client height (λ b. same_value (value_at b.records.core claim.key) claim.value ≡ true)
  in_block tracked there (Some b) stood e = record {
    tracked = tracked;
    there = there;
    block = b;
    stood = stood;
    had = (both (same_value (value_at b.records.core claim.key) claim.value) _ e).0;
  }
  in_block tracked there None stood e = absurd (cc e)

  of_client : (o : Option Client) → client_at core client ≡ o
      → option_map_or (is_shown_in true_marks claim proof) (option_and_then (λ (c : Client). block_at w c.state.chain height) o) false ≡ true
      → Sees w core client height (λ b. same_value (value_at b.records.core claim.key) claim.value ≡ true)
  of_client (Some c) there e = in_block c there (block_at w c.state.chain height) refl e
  of_client None there e = absurd (cc e)

  pub shown : (direct_evidence true_marks window oldest w core).shows client height claim proof ≡ true
      → Sees w core client height (λ b. same_value (value_at b.records.core claim.key) claim.value ≡ true)
  shown e = of_client (client_at core client) refl e

pub Sees-map : {w : World} {core : Core} {client : Text} {height : ℕ} {P Q : Block → Type 0}
    → ((b : Block) → P b → Q b) → Sees w core client height P → Sees w core client height Q
Sees-map f s = record { tracked = s.tracked; there = s.there; block = s.block; stood = s.stood; had = f s.block s.had }

some_same : {A : Type 0} {x y : A} → Some x ≡ Some y → x ≡ y
some_same e = cc e

pub Sees-both : {w : World} {core : Core} {client : Text} {height : ℕ} {P Q : Block → Type 0}
    → Sees w core client height P → Sees w core client height Q → Sees w core client height (λ b. P b × Q b)
Sees-both {w} {core} {client} {height} {P} {Q} s t =
    let tracked : t.tracked ≡ s.tracked = cc (s.there, t.there) in
    let stood : block_at w s.tracked.state.chain height ≡ Some t.block = subst (λ (c : Client). block_at w c.state.chain height ≡ Some t.block) tracked t.stood in
    let same : t.block ≡ s.block = some_same (sym stood ∙ s.stood) in
    record { tracked = s.tracked; there = s.there; block = s.block; stood = s.stood; had = (s.had, subst Q same t.had) }

-- ---- what each kind of claim says

pub client_is : (core : Core) (id : Text) (state : ClientState) → same_value (value_at core (key.ClientState id)) (Some (ClientIs state)) ≡ true
    → (c : Client) × (client_at core id ≡ Some c) × (c.state ≡ state)
client_is core id state e = go (client_at core id) refl e
  where
    go : (o : Option Client) → client_at core id ≡ o → same_value (option_map (λ (c : Client). ClientIs c.state) o) (Some (ClientIs state)) ≡ true
        → (c : Client) × (client_at core id ≡ Some c) × (c.state ≡ state)
    go (Some c) is e = (c, is, same_client_is c.state state e)
    go None is e = absurd (cc e)

pub connection_is : (core : Core) (id : Text) (end : ConnectionEnd) → same_value (value_at core (key.Connection id)) (Some (ConnectionIs end)) ≡ true
    → connection_at core id ≡ Some end
connection_is core id end e = go (connection_at core id) refl e
  where
    go : (o : Option ConnectionEnd) → connection_at core id ≡ o → same_value (option_map ConnectionIs o) (Some (ConnectionIs end)) ≡ true
        → connection_at core id ≡ Some end
    go (Some c) is e = is ∙ ap Some (same_connection_is c end e)
    go None is e = absurd (cc e)

pub channel_is : (core : Core) (port id : Text) (end : ChannelEnd) → same_value (value_at core (key.ChannelEnd port id)) (Some (ChannelIs end)) ≡ true
    → (c : Channel) × (channel_at core port id ≡ Some c) × (c.end ≡ end)
channel_is core port id end e = go (channel_at core port id) refl e
  where
    go : (o : Option Channel) → channel_at core port id ≡ o → same_value (option_map (λ (c : Channel). ChannelIs c.end) o) (Some (ChannelIs end)) ≡ true
        → (c : Channel) × (channel_at core port id ≡ Some c) × (c.end ≡ end)
    go (Some c) is e = (c, is, same_channel_is c.end end e)
    go None is e = absurd (cc e)

pub next_recv_is : (core : Core) (port id : Text) (n : ℕ) → same_value (value_at core (key.NextSequenceRecv port id)) (Some (NumberIs n)) ≡ true
    → (c : Channel) × (channel_at core port id ≡ Some c) × (c.next_recv ≡ n)
next_recv_is core port id n e = go (channel_at core port id) refl e
  where
    go : (o : Option Channel) → channel_at core port id ≡ o → same_value (option_map (λ (c : Channel). NumberIs c.next_recv) o) (Some (NumberIs n)) ≡ true
        → (c : Channel) × (channel_at core port id ≡ Some c) × (c.next_recv ≡ n)
    go (Some c) is e = (c, is, eqb-true c.next_recv n e)
    go None is e = absurd (cc e)

pub commitment_is : (core : Core) (port id : Text) (n : ℕ) (x : Commitment) → same_value (value_at core (key.Commitment port id n)) (Some (CommitmentIs x)) ≡ true
    → (c : Channel) × (channel_at core port id ≡ Some c) × (at nat_cmp n c.commitments ≡ Some x)
commitment_is core port id n x e = go (channel_at core port id) refl e
  where
    found : (c : Channel) → channel_at core port id ≡ Some c → (o : Option Commitment) → at nat_cmp n c.commitments ≡ o
        → same_value (option_map CommitmentIs o) (Some (CommitmentIs x)) ≡ true
        → (c : Channel) × (channel_at core port id ≡ Some c) × (at nat_cmp n c.commitments ≡ Some x)
    found c there (Some y) is e = (c, there, is ∙ ap Some (same_commitment_is y x e))
    found c there None is e = absurd (cc e)

    go : (o : Option Channel) → channel_at core port id ≡ o
        → same_value (option_and_then (λ (c : Channel). option_map CommitmentIs (at nat_cmp n c.commitments)) o) (Some (CommitmentIs x)) ≡ true
        → (c : Channel) × (channel_at core port id ≡ Some c) × (at nat_cmp n c.commitments ≡ Some x)
    go (Some c) is e = found c is (at nat_cmp n c.commitments) refl e
    go None is e = absurd (cc e)

pub ack_is : (core : Core) (port id : Text) (n : ℕ) (x : Text) → same_value (value_at core (key.Acknowledgement port id n)) (Some (AckIs x)) ≡ true
    → (c : Channel) × (channel_at core port id ≡ Some c) × (at nat_cmp n c.acks ≡ Some x)
ack_is core port id n x e = go (channel_at core port id) refl e
  where
    found : (c : Channel) → channel_at core port id ≡ Some c → (o : Option Text) → at nat_cmp n c.acks ≡ o
        → same_value (option_map AckIs o) (Some (AckIs x)) ≡ true
        → (c : Channel) × (channel_at core port id ≡ Some c) × (at nat_cmp n c.acks ≡ Some x)
    found c there (Some y) is e = (c, there, is ∙ ap Some (text_same y x e))
    found c there None is e = absurd (cc e)

    go : (o : Option Channel) → channel_at core port id ≡ o
        → same_value (option_and_then (λ (c : Channel). option_map AckIs (at nat_cmp n c.acks)) o) (Some (AckIs x)) ≡ true
        → (c : Channel) × (channel_at core port id ≡ Some c) × (at nat_cmp n c.acks ≡ Some x)
    go (Some c) is e = found c is (at nat_cmp n c.acks) refl e
    go None is e = absurd (cc e)

pub no_receipt : (core : Core) (port id : Text) (n : ℕ) → same_value (value_at core (key.Receipt port id n)) None ≡ true
    → (c : Channel) → channel_at core port id ≡ Some c → is_one_of c.receipts n ≡ false
no_receipt core port id n e c there = go (is_one_of c.receipts n) refl (subst (λ o. same_value (option_and_then (λ (c : Channel). receipt_if (is_one_of c.receipts n)) o) None ≡ true) there e)
  where
    go : (b : Bool) → is_one_of c.receipts n ≡ b → same_value (receipt_if b) None ≡ true → is_one_of c.receipts n ≡ false
    go true is e = absurd (cc e)
    go false is e = is

-- ---- the same, of an accepted proof

module _ (window : ℕ) (oldest : Bool) (w : World) (core : Core) (client : Text) (height : ℕ) where
  pub shown_client : (id : Text) (state : ClientState) (proof : Text)
      → (direct_evidence true_marks window oldest w core).shows client height (present_claim (key.ClientState id) (ClientIs state)) proof ≡ true
      → Sees w core client height (λ b. (c : Client) × (client_at b.records.core id ≡ Some c) × (c.state ≡ state))
  shown_client id state proof e = Sees-map (λ b had. client_is b.records.core id state had) (shown window oldest w core client height (present_claim (key.ClientState id) (ClientIs state)) proof e)

  pub shown_connection : (id : Text) (end : ConnectionEnd) (proof : Text)
      → (direct_evidence true_marks window oldest w core).shows client height (present_claim (key.Connection id) (ConnectionIs end)) proof ≡ true
      → Sees w core client height (λ b. connection_at b.records.core id ≡ Some end)
  shown_connection id end proof e = Sees-map (λ b had. connection_is b.records.core id end had) (shown window oldest w core client height (present_claim (key.Connection id) (ConnectionIs end)) proof e)

  pub shown_channel : (port id : Text) (end : ChannelEnd) (proof : Text)
      → (direct_evidence true_marks window oldest w core).shows client height (present_claim (key.ChannelEnd port id) (ChannelIs end)) proof ≡ true
      → Sees w core client height (λ b. (c : Channel) × (channel_at b.records.core port id ≡ Some c) × (c.end ≡ end))
  shown_channel port id end proof e = Sees-map (λ b had. channel_is b.records.core port id end had) (shown window oldest w core client height (present_claim (key.ChannelEnd port id) (ChannelIs end)) proof e)

  pub shown_next_recv : (port id : Text) (n : ℕ) (proof : Text)
      → (direct_evidence true_marks window oldest w core).shows client height (present_claim (key.NextSequenceRecv port id) (NumberIs n)) proof ≡ true
      → Sees w core client height (λ b. (c : Channel) × (channel_at b.records.core port id ≡ Some c) × (c.next_recv ≡ n))
  shown_next_recv port id n proof e = Sees-map (λ b had. next_recv_is b.records.core port id n had) (shown window oldest w core client height (present_claim (key.NextSequenceRecv port id) (NumberIs n)) proof e)

  pub shown_commitment : (port id : Text) (n : ℕ) (x : Commitment) (proof : Text)
      → (direct_evidence true_marks window oldest w core).shows client height (present_claim (key.Commitment port id n) (CommitmentIs x)) proof ≡ true
      → Sees w core client height (λ b. (c : Channel) × (channel_at b.records.core port id ≡ Some c) × (at nat_cmp n c.commitments ≡ Some x))
  shown_commitment port id n x proof e = Sees-map (λ b had. commitment_is b.records.core port id n x had) (shown window oldest w core client height (present_claim (key.Commitment port id n) (CommitmentIs x)) proof e)

  pub shown_ack : (port id : Text) (n : ℕ) (x : Text) (proof : Text)
      → (direct_evidence true_marks window oldest w core).shows client height (present_claim (key.Acknowledgement port id n) (AckIs x)) proof ≡ true
      → Sees w core client height (λ b. (c : Channel) × (channel_at b.records.core port id ≡ Some c) × (at nat_cmp n c.acks ≡ Some x))
  shown_ack port id n x proof e = Sees-map (λ b had. ack_is b.records.core port id n x had) (shown window oldest w core client height (present_claim (key.Acknowledgement port id n) (AckIs x)) proof e)

  pub shown_no_receipt : (port id : Text) (n : ℕ) (proof : Text)
      → (direct_evidence true_marks window oldest w core).shows client height (absent_claim (key.Receipt port id n)) proof ≡ true
      → Sees w core client height (λ b. (c : Channel) → channel_at b.records.core port id ≡ Some c → is_one_of c.receipts n ≡ false)
  shown_no_receipt port id n proof e = Sees-map (λ b had. no_receipt b.records.core port id n had) (shown window oldest w core client height (absent_claim (key.Receipt port id n)) proof e)
