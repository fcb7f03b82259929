-- What is once there stays: how ends of connections and channels, and cores, may go on.
use Rattle.std.proofs.Common.{◌≡◌, ℕ, ◌≤◌, ◌<◌, true, refl, ap, ◌∙◌, subst, Option, Some, None, ◌⊎◌, inl, inr, arith, nat_cmp, le_refl}
use Rattle.ibc_ids.specs.Texts.{Text, text_cmp, pair_cmp}
use Rattle.ibc_ids.specs.Maps.{Map, at}
use Rattle.ibc_wire.specs.declared.records.ConnectionState.TheVariants as conn
use Rattle.ibc_wire.specs.declared.records.ConnectionEnd.{ConnectionEnd}
use Rattle.ibc_wire.specs.declared.records.ChannelEnd.{ChannelEnd}
use Rattle.ibc_machine.specs.chain.Records.{Core, Client, Channel, Commitment, client_at, connection_at, channel_at, with_client, with_connection, with_channel, is_one_of}
use Rattle.ibc_laws.proofs.steps.CoreSteps.{rank}
use Rattle.ibc_machine.proofs.FiniteMaps.{by_text, by_pair, kept_in_with}

-- a connection end keeps its clients and, once it has one, its peer; OPEN stays
pub record ConnectionGrows (c d : ConnectionEnd) : Type 0 where
  pub client : d.client ≡ c.client
  pub peer_client : d.peer_client ≡ c.peer_client
  pub named : (p : Text) → c.peer_connection ≡ Some p → d.peer_connection ≡ Some p
  pub open_stays : c.state ≡ conn.Open → d.state ≡ conn.Open

-- a channel end keeps what it was opened with and, once it has one, its peer; it goes from unopened over
-- OPEN to CLOSED
pub record EndGrows (m n : ChannelEnd) : Type 0 where
  pub order : n.order ≡ m.order
  pub peer_port : n.peer_port ≡ m.peer_port
  pub connection : n.connection ≡ m.connection
  pub version : n.version ≡ m.version
  pub named : (p : Text) → m.peer_channel ≡ Some p → n.peer_channel ≡ Some p
  pub ranks : rank m.state ≤ rank n.state

-- the next sequence never falls; of one that was used, the commitment stays or goes for good
pub record SendingGrows (next : ℕ) (commitments : Map ℕ Commitment) (next_later : ℕ) (later : Map ℕ Commitment) : Type 0 where
  pub counts : next ≤ next_later
  pub stays : (k : ℕ) → k < next
      → (at nat_cmp k later ≡ at nat_cmp k commitments) ⊎ (at nat_cmp k later ≡ None)

-- what was received stays received, and its acknowledgement stays
pub record ReceivingGrows (m n : Channel) : Type 0 where
  pub counts : m.next_recv ≤ n.next_recv
  pub receipts : (k : ℕ) → is_one_of m.receipts k ≡ true → is_one_of n.receipts k ≡ true
  pub acks : (k : ℕ) (ack : Text) → at nat_cmp k m.acks ≡ Some ack → at nat_cmp k n.acks ≡ Some ack

pub record ChannelGrows (m n : Channel) : Type 0 where
  pub end : EndGrows m.end n.end
  pub sending : SendingGrows m.next_send m.commitments n.next_send n.commitments
  pub receiving : ReceivingGrows m n

-- clients, connections and channels stay, and go on as they may
pub record Grows (core later : Core) : Type 0 where
  pub clients : (id : Text) (c : Client) → client_at core id ≡ Some c
      → (d : Client) × (client_at later id ≡ Some d) × (d.state.chain ≡ c.state.chain)
  pub connections : (id : Text) (c : ConnectionEnd) → connection_at core id ≡ Some c
      → (d : ConnectionEnd) × (connection_at later id ≡ Some d) × ConnectionGrows c d
  pub channels : (port id : Text) (c : Channel) → channel_at core port id ≡ Some c
      → (d : Channel) × (channel_at later port id ≡ Some d) × ChannelGrows c d

pub ConnectionGrows-refl : (c : ConnectionEnd) → ConnectionGrows c c
ConnectionGrows-refl c = record { client = refl; peer_client = refl; named = λ p e. e; open_stays = λ e. e }

pub ConnectionGrows-trans : {b c d : ConnectionEnd} → ConnectionGrows b c → ConnectionGrows c d → ConnectionGrows b d
ConnectionGrows-trans f g = record {
  client = g.client ∙ f.client;
  peer_client = g.peer_client ∙ f.peer_client;
  named = λ p e. g.named p (f.named p e);
  open_stays = λ e. g.open_stays (f.open_stays e);
}

pub EndGrows-refl : (m : ChannelEnd) → EndGrows m m
EndGrows-refl m = record {
  order = refl;
  peer_port = refl;
  connection = refl;
  version = refl;
  named = λ p e. e;
  ranks = le_refl _;
}

pub SendingGrows-refl : (next : ℕ) (commitments : Map ℕ Commitment) → SendingGrows next commitments next commitments
SendingGrows-refl next commitments = record { counts = le_refl _; stays = λ k lt. inl refl }

pub ReceivingGrows-same : (m n : Channel) → n.next_recv ≡ m.next_recv → n.receipts ≡ m.receipts → n.acks ≡ m.acks
    → ReceivingGrows m n
ReceivingGrows-same m n next receipts acks = record {
  counts = omega arith;
  receipts = λ k e. ap (λ l. is_one_of l k) receipts ∙ e;
  acks = λ k ack e. ap (λ l. at nat_cmp k l) acks ∙ e;
}

pub ChannelGrows-refl : (m : Channel) → ChannelGrows m m
ChannelGrows-refl m = record {
  end = EndGrows-refl m.end;
  sending = SendingGrows-refl m.next_send m.commitments;
  receiving = ReceivingGrows-same m m refl refl refl;
}

pub ChannelGrows-trans : {l m n : Channel} → ChannelGrows l m → ChannelGrows m n → ChannelGrows l n
ChannelGrows-trans {l} {m} {n} f g = record {
  end = record {
    order = g.end.order ∙ f.end.order;
    peer_port = g.end.peer_port ∙ f.end.peer_port;
    connection = g.end.connection ∙ f.end.connection;
    version = g.end.version ∙ f.end.version;
    named = λ p e. g.end.named p (f.end.named p e);
    ranks = let a = f.end.ranks in let b = g.end.ranks in omega arith;
  };
  sending = record {
    counts = let a = f.sending.counts in let b = g.sending.counts in omega arith;
    stays = λ k lt.
        let a = f.sending.counts in
        let later : k < m.next_send = omega arith in
        elim (g.sending.stays k later) [
          | inr none ↦ inr none
          | inl same ↦ elim (f.sending.stays k lt) [ inl too ↦ inl (same ∙ too) | inr none ↦ inr (same ∙ none) ]
        ];
  };
  receiving = record {
    counts = let a = f.receiving.counts in let b = g.receiving.counts in omega arith;
    receipts = λ k e. g.receiving.receipts k (f.receiving.receipts k e);
    acks = λ k a e. g.receiving.acks k a (f.receiving.acks k a e);
  };
}

pub Grows-refl : (core : Core) → Grows core core
Grows-refl core = record {
  clients = λ id c e. (c, e, refl);
  connections = λ id c e. (c, e, ConnectionGrows-refl c);
  channels = λ port id c e. (c, e, ChannelGrows-refl c);
}

pub Grows-trans : {a b c : Core} → Grows a b → Grows b c → Grows a c
Grows-trans f g = record {
  clients = λ id c e. let one = f.clients id c e in let two = g.clients id one.0 one.1 in (two.0, two.1, two.2 ∙ one.2);
  connections = λ id c e. let one = f.connections id c e in let two = g.connections id one.0 one.1 in
      (two.0, two.1, ConnectionGrows-trans one.2 two.2);
  channels = λ port id c e. let one = f.channels port id c e in let two = g.channels port id one.0 one.1 in
      (two.0, two.1, ChannelGrows-trans one.2 two.2);
}

-- ---- one entry that goes on, or a new one where there was none

abbrev pub NewOr : {A : Type 0} → Option A → (A → Type 0) → Type 0
NewOr {A} before P = (c : A) → before ≡ Some c → P c

pub Grows-with_client : (core : Core) (id : Text) (d : Client) → NewOr (client_at core id) (λ c. d.state.chain ≡ c.state.chain) → Grows core (with_client id d core)
Grows-with_client core id d goes = record {
  clients = λ q c e. elim (kept_in_with by_text id q d c core.clients e) [
    | inl h ↦ (d, h.1, goes c (subst (λ x. client_at core x ≡ Some c) h.0 e))
    | inr h ↦ (c, h, refl)
  ];
  connections = λ q c e. (c, e, ConnectionGrows-refl c);
  channels = λ port q c e. (c, e, ChannelGrows-refl c);
}

pub Grows-with_connection : (core : Core) (id : Text) (d : ConnectionEnd) → NewOr (connection_at core id) (λ c. ConnectionGrows c d) → Grows core (with_connection id d core)
Grows-with_connection core id d goes = record {
  clients = λ q c e. (c, e, refl);
  connections = λ q c e. elim (kept_in_with by_text id q d c core.connections e) [
    | inl h ↦ (d, h.1, goes c (subst (λ x. connection_at core x ≡ Some c) h.0 e))
    | inr h ↦ (c, h, ConnectionGrows-refl c)
  ];
  channels = λ port q c e. (c, e, ChannelGrows-refl c);
}

pub Grows-with_channel : (core : Core) (port id : Text) (d : Channel) → NewOr (channel_at core port id) (λ c. ChannelGrows c d) → Grows core (with_channel port id d core)
Grows-with_channel core port id d goes = record {
  clients = λ q c e. (c, e, refl);
  connections = λ q c e. (c, e, ConnectionGrows-refl c);
  channels = λ p q c e. elim (kept_in_with by_pair (port, id) (p, q) d c core.channels e) [
    | inl h ↦ (d, h.1, goes c (subst (λ x. at pair_cmp x core.channels ≡ Some c) h.0 e))
    | inr h ↦ (c, h, ChannelGrows-refl c)
  ];
}

-- cores that differ in their counters alone
pub record SameEnds (core later : Core) : Type 0 where
  pub clients : later.clients ≡ core.clients
  pub connections : later.connections ≡ core.connections
  pub channels : later.channels ≡ core.channels

pub Grows-same_ends : {core later : Core} → SameEnds core later → Grows core later
Grows-same_ends {core} {later} same = record {
  clients = λ q c e. (c, ap (λ m. at text_cmp q m) same.clients ∙ e, refl);
  connections = λ q c e. (c, ap (λ m. at text_cmp q m) same.connections ∙ e, ConnectionGrows-refl c);
  channels = λ p q c e. (c, ap (λ m. at pair_cmp (p, q) m) same.channels ∙ e, ChannelGrows-refl c);
}
