-- What is true of the core of each chain on its own, and that each labelled step keeps it and lets the core go
-- on as it may.
use Rattle.std.proofs.Common.{◌≡◌, refl, ap, sym, subst, Some, None, inl, inr, ◌⊎◌}
use Rattle.ibc_ids.specs.Texts.{Text}
use Rattle.ibc_ids.specs.Paths.{nth_client, nth_connection, nth_channel}
use Rattle.ibc_wire.specs.declared.records.ConnectionState.TheVariants as conn
use Rattle.ibc_wire.specs.declared.records.ChannelState.TheVariants as chan
use Rattle.ibc_wire.specs.declared.records.ConnectionEnd.{ConnectionEnd}
use Rattle.ibc_wire.specs.declared.records.ChannelEnd.{ChannelEnd}
use Rattle.ibc_machine.specs.chain.Records.{Core, Client, Channel, client_at, connection_at, channel_at, with_client, with_connection, with_channel}
use Rattle.ibc_machine.specs.ics24.Evidence.{Host}
use Rattle.ibc_machine.specs.ics02.Clients.{new_client, with_known_height}
use Rattle.ibc_machine.specs.ics04.Channels.{new_channel}
use Rattle.ibc_machine.specs.chain.Machine.{World}
use Rattle.ibc_laws.proofs.basics.ListPlaces.{some_is}
use Rattle.ibc_machine.proofs.FiniteMaps.{by_text, by_pair, found_in_with}
use Rattle.ibc_machine.proofs.Identifiers.{nth_client_same, nth_connection_same, nth_channel_same}
use Rattle.ibc_laws.proofs.steps.Told.{Told}
use Rattle.ibc_laws.proofs.steps.CoreSteps.{CoreStep, creates_client, updates_client, starts_connection, answers_connection, confirms_connection, opens_channel, changes_channel}
use Rattle.ibc_laws.proofs.steps.Growth.{ConnectionGrows, ChannelGrows, Grows, Grows-trans, Grows-with_client, Grows-with_connection, Grows-with_channel, Grows-same_ends}
use Rattle.ibc_laws.proofs.steps.EndSteps.{IsShaped, end_grows, end_shaped}
use Rattle.ibc_laws.proofs.basics.Numbered.{Numbered, numbered-more, numbered-same, none_yet}

-- a connection end in INIT has no peer yet, and in any other state it has one
pub record IsNamedConnection (c : ConnectionEnd) : Type 0 where
  pub unnamed : c.state ≡ conn.Init → c.peer_connection ≡ None
  pub named : (c.state ≡ conn.Init → ⊥) → (p : Text) × (c.peer_connection ≡ Some p)

-- there is a client, a connection, a channel of the name
abbrev pub HasClient : Core → Text → Type 0
HasClient core id = (c : Client) × (client_at core id ≡ Some c)

abbrev pub HasConnection : Core → Text → Type 0
HasConnection core id = (c : ConnectionEnd) × (connection_at core id ≡ Some c)

abbrev pub HasChannel : Core → Text → Type 0
HasChannel core id = (port : Text) × (m : Channel) × (channel_at core port id ≡ Some m)

pub record CoreShaped (core : Core) : Type 0 where
  pub client_names : Numbered nth_client core.next_client (HasClient core)
  pub connection_names : Numbered nth_connection core.next_connection (HasConnection core)
  pub channel_names : Numbered nth_channel core.next_channel (HasChannel core)
  pub connections : (id : Text) (c : ConnectionEnd) → connection_at core id ≡ Some c → IsNamedConnection c
  pub channels : (port id : Text) (m : Channel) → channel_at core port id ≡ Some m → IsShaped m

-- ---- with one entry more, or another one

module _ (core : Core) (h : CoreShaped core) where
  has_client : (id q : Text) (d : Client) → HasClient (with_client id d core) q → (q ≡ id) ⊎ HasClient core q
  has_client id q d has = elim (found_in_with by_text id q d has.0 core.clients has.1) [
    | inl f ↦ inl f.0
    | inr f ↦ inr (has.0, f)
  ]

  has_connection : (id q : Text) (d : ConnectionEnd) → HasConnection (with_connection id d core) q
      → (q ≡ id) ⊎ HasConnection core q
  has_connection id q d has = elim (found_in_with by_text id q d has.0 core.connections has.1) [
    | inl f ↦ inl f.0
    | inr f ↦ inr (has.0, f)
  ]

  has_channel : (port id q : Text) (d : Channel) → HasChannel (with_channel port id d core) q
      → (q ≡ id) ⊎ HasChannel core q
  has_channel port id q d has = elim (found_in_with by_pair (port, id) (has.0, q) d has.1 core.channels has.2) [
    | inl f ↦ inl (ap (λ x. x.1) f.0)
    | inr f ↦ inr (has.0, has.1, f)
  ]

  named_with : (id : Text) (d : ConnectionEnd) → IsNamedConnection d → (q : Text) (c : ConnectionEnd)
      → connection_at (with_connection id d core) q ≡ Some c → IsNamedConnection c
  named_with id d named q c e = elim (found_in_with by_text id q d c core.connections e) [
    | inl f ↦ subst IsNamedConnection f.1 named
    | inr f ↦ h.connections q c f
  ]

  shaped_with : (port id : Text) (d : Channel) → IsShaped d → (p q : Text) (m : Channel)
      → channel_at (with_channel port id d core) p q ≡ Some m → IsShaped m
  shaped_with port id d shaped p q m e = elim (found_in_with by_pair (port, id) (p, q) d m core.channels e) [
    | inl f ↦ subst IsShaped f.1 shaped
    | inr f ↦ h.channels p q m f
  ]

old : (A : Text → Type 0) (id q : Text) → A id → (q ≡ id) ⊎ A q → A q
old A id q has (inl same) = subst A (sym same) has
old A id q has (inr it) = it

pub shaped-new : (end : ChannelEnd) → (end.state ≡ chan.Init → end.peer_channel ≡ None)
    → ((end.state ≡ chan.Init → ⊥) → (p : Text) × (end.peer_channel ≡ Some p)) → IsShaped (new_channel end)
shaped-new end unnamed named = record {
  peer = record { unnamed = unnamed; named = named };
  acks_received = λ k ack e. absurd (cc e);
  sorted = tt;
  below = λ k c e. absurd (cc e);
}

-- ---- by the labels

module _ (w : World) (host : Host) (core : Core) (h : CoreShaped core) where
  pub core_grows : (told : Told) (after : Core) → CoreStep w host core told after → Grows core after
  core_grows told after (creates_client chain other free) =
      Grows-trans (Grows-with_client core (nth_client core.next_client) (new_client chain)
      (λ c e. absurd (none_yet h.client_names nth_client_same (c, e))))
      (Grows-same_ends (record { clients = refl; connections = refl; channels = refl }))
  core_grows told after (updates_client id client height there) =
      Grows-with_client core id (with_known_height height client) (λ b e. ap (λ (x : Client). x.state.chain) (some_is there e))
  core_grows told after (starts_connection end free s) =
      Grows-trans (Grows-with_connection core (nth_connection core.next_connection) end
      (λ c e. absurd (none_yet h.connection_names nth_connection_same (c, e))))
      (Grows-same_ends (record { clients = refl; connections = refl; channels = refl }))
  core_grows told after (answers_connection id mine peer s) =
      let grows : ConnectionGrows mine (record mine { state = conn.Open; peer_connection = Some peer }) = record {
        client = refl;
        peer_client = refl;
        named = λ q e. absurd (cc ((h.connections id mine s.there).unnamed s.state, e));
        open_stays = λ e. refl;
      } in
      Grows-with_connection core id _ (λ b e. subst (λ (x : ConnectionEnd). ConnectionGrows x (record mine { state = conn.Open; peer_connection = Some peer })) (some_is s.there e) grows)
  core_grows told after (confirms_connection id mine s) =
      let grows : ConnectionGrows mine (record mine { state = conn.Open }) =
      record { client = refl; peer_client = refl; named = λ q e. e; open_stays = λ e. refl } in
      Grows-with_connection core id _ (λ b e. subst (λ (x : ConnectionEnd). ConnectionGrows x (record mine { state = conn.Open })) (some_is s.there e) grows)
  core_grows told after (opens_channel port end free s) =
      Grows-trans (Grows-with_channel core port (nth_channel core.next_channel) (new_channel end)
      (λ c e. absurd (none_yet h.channel_names nth_channel_same (port, c, e))))
      (Grows-same_ends (record { clients = refl; connections = refl; channels = refl }))
  core_grows _ after (changes_channel told port id mine now there s) =
      Grows-with_channel core port id now (λ b e. subst (λ (x : Channel). ChannelGrows x now) (some_is there e)
      (end_grows w host core port id mine (h.channels port id mine there) told now s))

  with_named_connection : (id : Text) (d : ConnectionEnd) → HasConnection core id → IsNamedConnection d
      → CoreShaped (with_connection id d core)
  with_named_connection id d has named = record {
    client_names = h.client_names;
    connection_names = numbered-same h.connection_names (λ q has_q. old (HasConnection core) id q has (has_connection core h id q d has_q));
    channel_names = h.channel_names;
    connections = named_with core h id d named;
    channels = h.channels;
  }

  pub core_shaped : (told : Told) (after : Core) → CoreStep w host core told after → CoreShaped after
  core_shaped told after (creates_client chain other free) = record {
    client_names = numbered-more h.client_names free (λ q has. has_client core h (nth_client core.next_client) q (new_client chain) has);
    connection_names = h.connection_names;
    channel_names = h.channel_names;
    connections = h.connections;
    channels = h.channels;
  }
  core_shaped told after (updates_client id client height there) = record {
    client_names = numbered-same h.client_names (λ q has. old (HasClient core) id q (client, there) (has_client core h id q (with_known_height height client) has));
    connection_names = h.connection_names;
    channel_names = h.channel_names;
    connections = h.connections;
    channels = h.channels;
  }
  core_shaped told after (starts_connection end free s) = record {
    client_names = h.client_names;
    connection_names = numbered-more h.connection_names free (λ q has. has_connection core h (nth_connection core.next_connection) q end has);
    channel_names = h.channel_names;
    connections = named_with core h (nth_connection core.next_connection) end (record { unnamed = s.unnamed; named = s.named });
    channels = h.channels;
  }
  core_shaped told after (answers_connection id mine peer s) =
      with_named_connection id (record mine { state = conn.Open; peer_connection = Some peer }) (mine, s.there)
      (record { unnamed = λ e. absurd (cc e); named = λ f. (peer, refl) })
  core_shaped told after (confirms_connection id mine s) =
      with_named_connection id (record mine { state = conn.Open }) (mine, s.there)
      (record { unnamed = λ e. absurd (cc e); named = λ f. (s.peer, s.named) })
  core_shaped told after (opens_channel port end free s) = record {
    client_names = h.client_names;
    connection_names = h.connection_names;
    channel_names = numbered-more h.channel_names free (λ q has. has_channel core h port (nth_channel core.next_channel) q (new_channel end) has);
    connections = h.connections;
    channels = shaped_with core h port (nth_channel core.next_channel) (new_channel end) (shaped-new end s.unnamed s.named);
  }
  core_shaped _ after (changes_channel told port id mine now there s) = record {
    client_names = h.client_names;
    connection_names = h.connection_names;
    channel_names = numbered-same h.channel_names (λ q has. old (HasChannel core) id q (port, mine, there) (has_channel core h port id q now has));
    connections = h.connections;
    channels = shaped_with core h port id now (end_shaped w host core port id mine (h.channels port id mine there) told now s);
  }
