-- Which end tracks a chain, and that nothing is pending at an end which has no peer.
use Rattle.std.proofs.Common.{◌≡◌, ℕ, Bool, true, false, [], map, refl, sym, ap, ◌∙◌, Option, Some, None, option_map, option_and_then, ◌&&◌, if◌then◌else◌}
use Rattle.std.specs.Prelude.{IsTrue}
use Rattle.std.specs.Option.{option_map_or}
use Rattle.std.proofs.lemmas.Bool.{and_parts}
use Rattle.ibc_ids.specs.Texts.{Text, text_cmp}
use Rattle.ibc_ids.specs.Maps.{Map, at}
use Rattle.ibc_ids.proofs.Maps.{at-map_values}
use Rattle.ibc_ids.specs.Names.{is_port, is_channel}
use Rattle.ibc_ids.specs.declared.key.Key.TheVariants as key
use Rattle.ibc_wire.specs.declared.records.ConnectionEnd.{ConnectionEnd}
use Rattle.ibc_machine.specs.chain.Records.{Channel, client_at, connection_at, channel_at}
use Rattle.ibc_machine.specs.ics24.Values.{ChannelIs}
use Rattle.ibc_machine.specs.ics24.Image.{IsKeyed}
use Rattle.ibc_machine.specs.ics04.Channels.{client_of, peer_channel_of}
use Rattle.ibc_machine.specs.ics04.Packets.{has_peer}
use Rattle.ibc_machine.specs.ics18.Relay.{View, tracks, theirs_of, if_names, end_pending, pending_at, pending_if}
use Rattle.ibc_records.specs.ClientModels.{ClientModel, abstract_client}
use Rattle.ibc_records.specs.RecordsModel.{abstract_client_entry}
use Rattle.ibc_records.proofs.FoundConnections.{client_nowhere}
use Rattle.ibc_relayer.specs.EndPairs.{tracks_chain}

-- a client is found among those that are held
pub tracked_there : (b : View) (entries : Map Text ClientModel) (id : Text) (chain : ℕ) (found : Option ClientModel) → map abstract_client_entry entries ≡ b.core.clients → found ≡ at text_cmp id entries
    → tracks_chain chain (option_map abstract_client found) ≡ tracks_chain chain (client_at b.core id)
tracked_there b entries id chain found are is =
    ap (λ o. tracks_chain chain (option_map abstract_client o)) is
    ∙ ap (tracks_chain chain) (sym (at-map_values text_cmp abstract_client id entries) ∙ ap (at text_cmp id) are)

module _ (a b : View) (mine : Channel) where
  pub tracks_nowhere : IsKeyed b.core → connection_at b.core mine.end.connection ≡ None → tracks a b mine ≡ false
  tracks_nowhere keyed gone = ap (tracks_chain a.chain) (client_nowhere b.core mine.end.connection keyed gone)

  pub client_is : (end : ConnectionEnd) → connection_at b.core mine.end.connection ≡ Some end → client_of b.core mine.end.connection ≡ end.client
  client_is end there = ap (λ (o : Option ConnectionEnd). option_map_or (λ (c : ConnectionEnd). c.client) o []) there

  pub tracks_at : (end : ConnectionEnd) → connection_at b.core mine.end.connection ≡ Some end → tracks a b mine ≡ tracks_chain a.chain (client_at b.core end.client)
  tracks_at end there = ap (λ id. tracks_chain a.chain (client_at b.core id)) (client_is end there)

  -- nothing is pending where there is no peer that names the end back
  module _ (port channel : Text) where
    pub none_tracked : tracks a b mine ≡ false → pending_at a b ((port, channel), mine) ≡ []
    none_tracked untracked = ap (λ c. pending_if c (option_map_or (end_pending a b (port, channel) mine) (theirs_of a (port, channel) mine) [])) untracked

    when_none : (c : Bool) → pending_if c [] ≡ []
    when_none true = refl
    when_none false = refl

    no_peer : theirs_of a (port, channel) mine ≡ None → pending_at a b ((port, channel), mine) ≡ []
    no_peer none = ap (λ o. pending_if (tracks a b mine) (option_map_or (end_pending a b (port, channel) mine) o [])) none ∙ when_none (tracks a b mine)

    pub none_found : channel_at a.core mine.end.peer_port (peer_channel_of mine.end) ≡ None → pending_at a b ((port, channel), mine) ≡ []
    none_found none = no_peer (ap (option_and_then (if_names (port, channel))) none)

    -- no channel has an empty name
    pub none_named : IsKeyed a.core → peer_channel_of mine.end ≡ [] → pending_at a b ((port, channel), mine) ≡ []
    none_named keyed empty = none_found (ap (channel_at a.core mine.end.peer_port) empty ∙ go (channel_at a.core mine.end.peer_port []) refl)
      where
        go : (o : Option Channel) → channel_at a.core mine.end.peer_port [] ≡ o → o ≡ None
        go None is = refl
        go (Some c) is =
            let named = keyed.keyed (key.ChannelEnd mine.end.peer_port []) (ChannelIs c.end) (ap (option_map (λ (c : Channel). ChannelIs c.end)) is) in
            absurd (no_name named)
          where
            no_name : IsTrue (is_port mine.end.peer_port && is_channel []) → ⊥
            no_name e = let parts = and_parts (is_port mine.end.peer_port) (is_channel []) e in let f : is_channel [] ≡ true = parts.1 in absurd (cc)

    pub not_named : (theirs : Channel) → channel_at a.core mine.end.peer_port (peer_channel_of mine.end) ≡ Some theirs → has_peer theirs port channel ≡ false → pending_at a b ((port, channel), mine) ≡ []
    not_named theirs there unnamed =
        no_peer (ap (option_and_then (if_names (port, channel))) there ∙ ap (λ (c : Bool). if c then Some theirs else None) unnamed)

    pub named_back : (theirs : Channel) → channel_at a.core mine.end.peer_port (peer_channel_of mine.end) ≡ Some theirs → has_peer theirs port channel ≡ true → theirs_of a (port, channel) mine ≡ Some theirs
    named_back theirs there named =
        ap (option_and_then (if_names (port, channel))) there ∙ ap (λ (c : Bool). if c then Some theirs else None) named
