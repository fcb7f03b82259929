-- Clients and connections: handlers answer alike under two ways to judge that agree on what they ask.
use Rattle.std.proofs.Common.{◌≡◌, true, refl, ap, Some, None}
use Rattle.ibc_ids.specs.Texts.{Text}
use Rattle.ibc_ids.specs.declared.refusal.Refusal.TheVariants as refusal
use Rattle.ibc_wire.specs.declared.messages.UpdateClient.{UpdateClient}
use Rattle.ibc_wire.specs.declared.messages.ConnOpenTry.{ConnOpenTry}
use Rattle.ibc_wire.specs.declared.messages.ConnOpenAck.{ConnOpenAck}
use Rattle.ibc_wire.specs.declared.messages.ConnOpenConfirm.{ConnOpenConfirm}
use Rattle.ibc_wire.specs.declared.records.ConnectionEnd.{ConnectionEnd}
use Rattle.ibc_wire.specs.declared.records.ConnectionState.TheVariants as conn
use Rattle.ibc_machine.specs.chain.Records.{Core, Client, client_at, connection_at}
use Rattle.ibc_machine.specs.chain.Checks.{require}
use Rattle.ibc_machine.specs.ics24.Evidence.{Host, Evidence, require_row}
use Rattle.ibc_machine.specs.ics02.Clients.{update_client, is_of_client}
use Rattle.ibc_machine.specs.ics03.Connections.{connection_end, has_connection, has_client, conn_open_try, conn_open_ack, conn_open_confirm}
use Rattle.ibc_machine.proofs.ConnectionChecks.{conn_tryable, conn_ackable}
use Rattle.ibc_machine.proofs.PassedRows.{require_holds, expect_passed}
use Rattle.ibc_refinement.proofs.Checked.{then_same, bind_same}
use Rattle.ibc_refinement.proofs.Agreeing.{Asked, Agree, AgreeOn, proof_same, proofs_same, shows_same}

pub update_client_same : (one other : Evidence) (host : Host) (core : Core) (m : UpdateClient)
    → ((client : Client) → client_at core m.client ≡ Some client → is_of_client client m.header ≡ true → AgreeOn one other m.header)
    → update_client m one host core ≡ update_client m other host core
unfolding update_client
update_client_same one other host core m agree =
    bind_same _ _ _ λ (client : Client) is. then_same _ _ _ _ refl λ ours.
    let on = agree client (expect_passed (client_at core m.client) refusal.UnknownClient is) (require_holds _ _ ours) in
    then_same _ _ _ _ (ap (λ b. require b refusal.NotPublished) on.published) λ published.
    then_same _ _ _ _ (ap require_row (on.row (require_holds _ _ published))) λ _. refl

module _ (asked : Asked) (one other : Evidence) (host : Host) (core : Core) (agree : Agree asked one other core) where
  pub conn_open_try_same : (m : ConnOpenTry)
      → asked (has_connection m.peer_connection (connection_end conn.Init m.peer_client m.client None)) m.proof_end
      → asked (has_client m.peer_client m.claim) m.proof_client
      → conn_open_try m one host core ≡ conn_open_try m other host core
  unfolding conn_open_try
  conn_open_try_same m a b =
      then_same _ _ _ _ (proofs_same asked one other core agree m.proof_end m.proof_client) λ _. then_same _ _ _ _ refl λ may.
      let known = (conn_tryable host core m may).known in
      then_same _ _ _ _ (shows_same asked one other core agree m.client m.height _ m.proof_end known a) λ _.
      then_same _ _ _ _ (shows_same asked one other core agree m.client m.height _ m.proof_client known b) λ _. refl

  pub conn_open_ack_same : (m : ConnOpenAck)
      → ((mine : ConnectionEnd) → connection_at core m.connection ≡ Some mine
      → asked (has_connection m.peer_connection (connection_end conn.TryOpen mine.peer_client mine.client (Some m.connection))) m.proof_end
      × asked (has_client mine.peer_client m.claim) m.proof_client)
      → conn_open_ack m one host core ≡ conn_open_ack m other host core
  unfolding conn_open_ack
  conn_open_ack_same m a =
      then_same _ _ _ _ (proofs_same asked one other core agree m.proof_end m.proof_client) λ _. bind_same _ _ _ λ (mine : ConnectionEnd) is. then_same _ _ _ _ refl λ may.
      let there = expect_passed (connection_at core m.connection) refusal.UnknownConnection is in
      let known = (conn_ackable host core m mine may).known in
      then_same _ _ _ _ (shows_same asked one other core agree mine.client m.height _ m.proof_end known (a mine there).0) λ _.
      then_same _ _ _ _ (shows_same asked one other core agree mine.client m.height _ m.proof_client known (a mine there).1) λ _. refl

  pub conn_open_confirm_same : (m : ConnOpenConfirm)
      → ((mine : ConnectionEnd) (peer : Text) → connection_at core m.connection ≡ Some mine → mine.peer_connection ≡ Some peer
      → asked (has_connection peer (connection_end conn.Open mine.peer_client mine.client (Some m.connection))) m.proof)
      → conn_open_confirm m one host core ≡ conn_open_confirm m other host core
  unfolding conn_open_confirm
  conn_open_confirm_same m a =
      then_same _ _ _ _ (proof_same asked one other core agree m.proof) λ _. bind_same _ _ _ λ (mine : ConnectionEnd) is. then_same _ _ _ _ refl λ _. bind_same _ _ _ λ (peer : Text) has.
      let there = expect_passed (connection_at core m.connection) refusal.UnknownConnection is in
      let named = expect_passed mine.peer_connection refusal.WrongState has in
      then_same _ _ _ _ refl λ known. then_same _ _ _ _ (shows_same asked one other core agree mine.client m.height _ m.proof (require_holds _ _ known) (a mine peer there named)) λ _. refl
