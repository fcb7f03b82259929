-- Clients (ICS 2, "createClient" and "updateClient").
use Rattle.std.specs.Prelude.{ℕ, Bool, ◌&&◌, ◌+◌, not, nat_lt, nat_le, ◌==◌, max, [], Ok}
use Rattle.ibc_ids.specs.Paths.{nth_client}
use Rattle.ibc_ids.specs.declared.refusal.Refusal.TheVariants.{UnknownChain, OwnChain, UnknownClient, NotPublished, WrongHeader}
use Rattle.ibc_wire.specs.declared.messages.CreateClient.{CreateClient}
use Rattle.ibc_wire.specs.declared.header.Header.{Header}
use Rattle.ibc_wire.specs.declared.messages.UpdateClient.{UpdateClient}
use Rattle.ibc_machine.specs.declared.reply.Effect.TheVariants as effect
use Rattle.ibc_machine.specs.chain.Records.{Client, client_at, with_client, with_number}
use Rattle.ibc_machine.specs.chain.Checks.{require, expect, ◌>>=◌, ◌>>◌}
use Rattle.ibc_machine.specs.ics24.Evidence.{CoreHandler, require_number, require_row}

-- a client of a chain, which knows no height yet
abbrev pub new_client : ℕ → Client
new_client chain = record { state = record { chain = chain; latest = 0 }; known = [] }

-- ICS 2, "createClient"
unfoldable pub create_client : CreateClient → CoreHandler
create_client m evidence host core = do
  let id = nth_client core.next_client
  require (nat_lt m.chain host.chains) UnknownChain
  require (not (m.chain == host.chain)) OwnChain
  require_number core.next_client
  Ok (effect.Client id, record (with_client id (new_client m.chain) core) { next_client = core.next_client + 1 })

-- the client with one more height
abbrev pub with_known_height : ℕ → Client → Client
with_known_height height client =
    record {
      state = record { chain = client.state.chain; latest = max client.state.latest height };
      known = with_number height client.known;
    }

-- the header is of a height of the chain that the client tracks
abbrev pub is_of_client : Client → Header → Bool
is_of_client client header = (header.chain == client.state.chain) && not (header.height == 0)

-- ICS 2, "updateClient"
unfoldable pub update_client : UpdateClient → CoreHandler
update_client m evidence host core = do
  client ← expect (client_at core m.client) UnknownClient
  require (is_of_client client m.header) WrongHeader
  require (nat_le m.header.height (evidence.published m.header.chain)) NotPublished
  require_row (evidence.row m.header)
  Ok (effect.None, with_client m.client (with_known_height m.header.height client) core)
