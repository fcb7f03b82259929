-- Connections (ICS 3, "Opening Handshake").
use Rattle.std.specs.Prelude.{Bool, ◌&&◌, ◌+◌, nat_lt, ◌==◌, Option, Some, None, Ok, ⊤}
use Rattle.ibc_ids.specs.Texts.{Text}
use Rattle.ibc_ids.specs.Paths.{nth_connection}
use Rattle.ibc_ids.specs.declared.key.Key.TheVariants as key
use Rattle.ibc_ids.specs.declared.refusal.Refusal.TheVariants.{UnknownClient, UnknownConnection, WrongState, WrongSelfClient, BadMessage}
use Rattle.ibc_wire.specs.declared.records.ClientState.{ClientState}
use Rattle.ibc_wire.specs.declared.records.ConnectionState.{ConnectionState}
use Rattle.ibc_wire.specs.declared.records.ConnectionState.TheVariants.{Init, TryOpen, Open}
use Rattle.ibc_wire.specs.declared.records.ConnectionEnd.{ConnectionEnd}
use Rattle.ibc_wire.specs.declared.messages.ConnOpenInit.{ConnOpenInit}
use Rattle.ibc_wire.specs.declared.messages.ConnOpenTry.{ConnOpenTry}
use Rattle.ibc_wire.specs.declared.messages.ConnOpenAck.{ConnOpenAck}
use Rattle.ibc_wire.specs.declared.messages.ConnOpenConfirm.{ConnOpenConfirm}
use Rattle.ibc_machine.specs.declared.reply.Effect.TheVariants as effect
use Rattle.ibc_machine.specs.chain.Records.{Core, client_at, connection_at, with_connection}
use Rattle.ibc_machine.specs.ics24.Values.{ClientIs, ConnectionIs, Claim, present_claim, same_connection_state}
use Rattle.ibc_machine.specs.chain.Checks.{Checked, require, expect, ◌>>=◌, ◌>>◌}
use Rattle.ibc_machine.specs.ics24.Evidence.{Host, CoreHandler, require_number, require_known, require_proof}

-- a claimed client of the peer tracks this chain, and knows no height that isn't committed here (ICS 3,
-- "validateSelfClient")
abbrev pub names_host : Host → ClientState → Bool
names_host host claim = (claim.chain == host.chain) && nat_lt claim.latest host.height

abbrev pub connection_end : ConnectionState → Text → Text → Option Text → ConnectionEnd
connection_end state client peer_client peer_connection =
    record { state = state; client = client; peer_client = peer_client; peer_connection = peer_connection }

-- the claims that the peer has this end, and this client
abbrev pub has_connection : Text → ConnectionEnd → Claim
has_connection connection end = present_claim (key.Connection connection) (ConnectionIs end)

abbrev pub has_client : Text → ClientState → Claim
has_client client state = present_claim (key.ClientState client) (ClientIs state)

abbrev pub with_new_connection : Text → ConnectionEnd → Core → Core
with_new_connection id end core =
    record (with_connection id end core) { next_connection = core.next_connection + 1 }

-- ICS 3, "connOpenInit"
unfoldable pub conn_open_init : ConnOpenInit → CoreHandler
conn_open_init m evidence host core = do
  let id = nth_connection core.next_connection
  client ← expect (client_at core m.client) UnknownClient
  require_number core.next_connection
  Ok (effect.Connection id, with_new_connection id (connection_end Init m.client m.peer_client None) core)

-- the checks of an answer that need no proof
abbrev pub may_conn_try : Host → Core → ConnOpenTry → Checked ⊤
may_conn_try host core m = do
  client ← expect (client_at core m.client) UnknownClient
  require (names_host host m.claim) WrongSelfClient
  require_number core.next_connection
  require_known core m.client m.height

-- ICS 3, "connOpenTry"
unfoldable pub conn_open_try : ConnOpenTry → CoreHandler
conn_open_try m evidence host core = do
  let id = nth_connection core.next_connection
  let mine = connection_end TryOpen m.client m.peer_client (Some m.peer_connection)
  let theirs = connection_end Init m.peer_client m.client None
  require (evidence.is_proof m.proof_end && evidence.is_proof m.proof_client) BadMessage
  may_conn_try host core m
  require_proof evidence m.client m.height (has_connection m.peer_connection theirs) m.proof_end
  require_proof evidence m.client m.height (has_client m.peer_client m.claim) m.proof_client
  Ok (effect.Connection id, with_new_connection id mine core)

-- the checks of the accepted answer that need no proof
abbrev pub may_conn_ack : Host → Core → ConnOpenAck → ConnectionEnd → Checked ⊤
may_conn_ack host core m mine = do
  require (same_connection_state mine.state Init) WrongState
  require (names_host host m.claim) WrongSelfClient
  require_known core mine.client m.height

-- ICS 3, "connOpenAck"
unfoldable pub conn_open_ack : ConnOpenAck → CoreHandler
conn_open_ack m evidence host core = do
  require (evidence.is_proof m.proof_end && evidence.is_proof m.proof_client) BadMessage
  mine ← expect (connection_at core m.connection) UnknownConnection
  let theirs = connection_end TryOpen mine.peer_client mine.client (Some m.connection)
  may_conn_ack host core m mine
  require_proof evidence mine.client m.height (has_connection m.peer_connection theirs) m.proof_end
  require_proof evidence mine.client m.height (has_client mine.peer_client m.claim) m.proof_client
  let after : ConnectionEnd = record mine { state = Open; peer_connection = Some m.peer_connection }
  Ok (effect.None, with_connection m.connection after core)

-- ICS 3, "connOpenConfirm"; an end in TRYOPEN names its peer, so the second test of the state always passes
unfoldable pub conn_open_confirm : ConnOpenConfirm → CoreHandler
conn_open_confirm m evidence host core = do
  require (evidence.is_proof m.proof) BadMessage
  mine ← expect (connection_at core m.connection) UnknownConnection
  let theirs = connection_end Open mine.peer_client mine.client (Some m.connection)
  require (same_connection_state mine.state TryOpen) WrongState
  peer ← expect mine.peer_connection WrongState
  require_known core mine.client m.height
  require_proof evidence mine.client m.height (has_connection peer theirs) m.proof
  Ok (effect.None, with_connection m.connection (record mine { state = Open }) core)
