-- Ends and clients that an end names: no channel has the empty name, and a client is found under its connection.
use Rattle.ibc_ledger.proofs.Common.{◌≡◌, ◌&&◌, refl, sym, ap, ◌∙◌, [], Option, Some, None, option_map, IsTrue, and_parts, Text, text_cmp, at, Core, Channel, channel_at, ClientModel, RecordsModel, core_of}
use Rattle.std.specs.Option.{option_map_or}
use Rattle.ibc_ids.specs.Names.{is_port, is_channel}
use Rattle.ibc_ids.specs.declared.key.Key.TheVariants as key
use Rattle.ibc_wire.specs.declared.records.ConnectionEnd.{ConnectionEnd}
use Rattle.ibc_machine.specs.chain.Records.{Client, client_at, connection_at}
use Rattle.ibc_machine.specs.ics24.Values.{ChannelIs}
use Rattle.ibc_machine.specs.ics04.Channels.{client_of}
use Rattle.ibc_machine.specs.ics24.Image.{IsKeyed}
use Rattle.ibc_records.specs.ClientModels.{abstract_client}
use Rattle.ibc_records.proofs.Updating.{client_at-held}

pub no_empty_name : (core : Core) (port : Text) → IsKeyed core → channel_at core port [] ≡ None
no_empty_name core port keyed = go (channel_at core port []) refl
  where
    go : (o : Option Channel) → channel_at core port [] ≡ o → o ≡ None
    go None is = refl
    go (Some c) is =
        let named : IsTrue (is_port port && is_channel []) = keyed.keyed (key.ChannelEnd port []) (ChannelIs c.end) (ap (option_map (λ (channel : Channel). ChannelIs channel.end)) is) in
        let empty : IsTrue (is_channel []) = (and_parts (is_port port) (is_channel []) named).1 in
        absurd (cc)

module _ (held : RecordsModel) (id : Text) (end : ConnectionEnd) (there : connection_at (core_of held) id ≡ Some end) where
  under : client_at (core_of held) (client_of (core_of held) id) ≡ option_map abstract_client (at text_cmp end.client held.clients)
  under =
      ap (λ (o : Option ConnectionEnd). client_at (core_of held) (option_map_or (λ (c : ConnectionEnd). c.client) o [])) there
      ∙ client_at-held held end.client

  pub tracks : (client : ClientModel) → at text_cmp end.client held.clients ≡ Some client
      → Some client.state.chain ≡ option_map (λ (c : Client). c.state.chain) (client_at (core_of held) (client_of (core_of held) id))
  tracks client found = sym (ap (option_map (λ (c : Client). c.state.chain)) (under ∙ ap (option_map abstract_client) found))

  pub tracks_none : at text_cmp end.client held.clients ≡ None
      → None ≡ option_map (λ (c : Client). c.state.chain) (client_at (core_of held) (client_of (core_of held) id))
  tracks_none gone = sym (ap (option_map (λ (c : Client). c.state.chain)) (under ∙ ap (option_map abstract_client) gone))
