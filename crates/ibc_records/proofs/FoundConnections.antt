-- The client under a connection is asked, and none where there is no connection.
use Rattle.std.proofs.Common.{◌≡◌, ℕ, false, Option, Some, None, Err, refl, ap, ◌∙◌}
use Rattle.std.specs.Prelude.{[], IsTrue}
use Rattle.std.specs.Option.{option_map, option_map_or}
use Rattle.ibc_ids.specs.Texts.{Text}
use Rattle.ibc_ids.specs.Names.{is_client}
use Rattle.ibc_ids.specs.declared.key.Key.TheVariants as key
use Rattle.ibc_ids.specs.declared.refusal.Refusal.TheVariants.{NoConsensus}
use Rattle.ibc_wire.specs.declared.records.ConnectionEnd.{ConnectionEnd}
use Rattle.ibc_machine.specs.chain.Records.{Core, Client, client_at, connection_at, is_one_of}
use Rattle.ibc_machine.specs.ics24.Values.{ClientIs}
use Rattle.ibc_machine.specs.chain.Checks.{require}
use Rattle.ibc_machine.specs.ics24.Evidence.{require_known}
use Rattle.ibc_machine.specs.ics04.Channels.{client_of}
use Rattle.ibc_machine.specs.ics24.Image.{IsKeyed}

module _ (core : Core) (id : Text) where
  -- the client under a connection that is there is asked
  pub known_over : (height : ℕ) (end : ConnectionEnd) → connection_at core id ≡ Some end → require_known core (client_of core id) height ≡ require_known core end.client height
  known_over height end there = ap (λ (o : Option ConnectionEnd). require_known core (option_map_or (λ (c : ConnectionEnd). c.client) o []) height) there

  -- no client has an empty name, so that none is asked where there is no connection
  no_client : IsKeyed core → client_at core [] ≡ None
  no_client keyed = go (client_at core []) refl
    where
      go : (o : Option Client) → client_at core [] ≡ o → o ≡ None
      go None is = refl
      go (Some c) is =
          let empty : IsTrue (is_client []) = keyed.keyed (key.ClientState []) (ClientIs c.state) (ap (option_map (λ (client : Client). ClientIs client.state)) is) in
          absurd (cc)

  pub client_nowhere : IsKeyed core → connection_at core id ≡ None → client_at core (client_of core id) ≡ None
  client_nowhere keyed gone =
      ap (λ (o : Option ConnectionEnd). client_at core (option_map_or (λ (c : ConnectionEnd). c.client) o [])) gone ∙ no_client keyed

  pub known_nowhere : IsKeyed core → (height : ℕ) → connection_at core id ≡ None → require_known core (client_of core id) height ≡ Err NoConsensus
  known_nowhere keyed height gone =
      ap (λ (o : Option Client). require (option_map_or (λ (c : Client). is_one_of c.known height) o false) NoConsensus) (client_nowhere keyed gone)
