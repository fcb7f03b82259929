-- The checks of the handshake in a row, as the code makes them.
use Rattle.std.proofs.Common.{◌≡◌, ◌&&◌, ℕ, List, is_some, Some, None, Ok, Err, refl, ap, sym, ◌∙◌}
use Rattle.std.specs.Prelude.{⊤, Result, IsErrAnd}
use Rattle.std.proofs.lemmas.Result.{err_from_is_err_and}
use Rattle.ibc_ids.specs.Texts.{Text}
use Rattle.ibc_ids.specs.declared.publication.Publication.{Publication}
use Rattle.ibc_ids.specs.declared.refusal.Refusal.{Refusal}
use Rattle.ibc_ids.specs.declared.refusal.Refusal.TheVariants.{UnknownClient, UnknownConnection, WrongState, BadMessage}
use Rattle.ibc_merkle.specs.declared.proof.Proof.{Proof}
use Rattle.ibc_wire.specs.Reading.{proof_of}
use Rattle.ibc_wire.specs.declared.records.ConnectionState.TheVariants.{TryOpen}
use Rattle.ibc_wire.specs.declared.records.ConnectionEnd.{ConnectionEnd}
use Rattle.ibc_wire.specs.declared.messages.ConnOpenInit.{ConnOpenInit}
use Rattle.ibc_wire.specs.declared.messages.ConnOpenTry.{ConnOpenTry}
use Rattle.ibc_wire.specs.declared.messages.ConnOpenAck.{ConnOpenAck}
use Rattle.ibc_wire.specs.declared.messages.ConnOpenConfirm.{ConnOpenConfirm}
use Rattle.ibc_machine.specs.declared.reply.Effect.{Effect}
use Rattle.ibc_machine.specs.declared.reply.Effect.TheVariants as effect
use Rattle.ibc_machine.specs.chain.Records.{Core, Client, client_at, connection_at, with_connection}
use Rattle.ibc_machine.specs.ledger.Replay.{LedgerState, proof_evidence}
use Rattle.ibc_machine.specs.ics24.Values.{same_connection_state}
use Rattle.ibc_machine.specs.chain.Checks.{Checked, require, expect, ◌>>=◌, ◌>>◌}
use Rattle.ibc_machine.specs.ics24.Evidence.{Host, Evidence, require_number, require_known, require_proof}
use Rattle.ibc_machine.specs.ics03.Connections.{has_connection, has_client, may_conn_try, may_conn_ack, conn_open_init, conn_open_try, conn_open_ack, conn_open_confirm}
use Rattle.ibc_machine.proofs.PassedChecks.{pass, fail, find, miss, unused}
use Rattle.ibc_records.specs.RecordsModel.{RecordsModel, core_of}
use Rattle.ibc_records.specs.HandlerContract.{IsTakenMessage, host_with}
use Rattle.ibc_records.specs.ProofVerdicts.{require_client, IsPassed}
use Rattle.ibc_records.proofs.Judging.{IsRefusedBy, refuses, untaken}
use Rattle.ibc_connection.specs.declared.claims.Proofs.{Proofs}
use Rattle.ibc_connection.specs.ConnectionHandshake.{AreProofs, new_end, init_end, try_end, after_ack, after_confirm, expected_init_end, expected_try_end, expected_open_end}

-- ---- the exit of a check

-- the result of checks of which one refused
pub refused : {A B : Type 0} {checked : Checked B} (given : A → B) (result : Result A Refusal) {r : Refusal} → IsErrAnd result (λ e. e ≡ r) → IsRefusedBy checked r → IsPassed checked given result
refused {checked = checked} given result is why = let p = err_from_is_err_and result is in refuses checked given result p.1 p.2 why

-- the answer to a message that a check refused, which leaves the records
pub refused_message : {A : Type 0} (effect_of : A → Effect) {checked : Checked (Effect × Core)} (old : RecordsModel) (result : Result A Refusal) {r : Refusal} → IsErrAnd result (λ e. e ≡ r) → IsRefusedBy checked r
    → IsTakenMessage effect_of checked old result old
refused_message effect_of {checked = checked} old result is why = let p = err_from_is_err_and result is in untaken effect_of checked old result old p.1 p.2 why refl

-- ---- the client is there, and no more is asked of it

module _ (core : Core) (client : Text) where
  pub no_client : {r : Refusal} (rest : Checked ⊤) → Err r ≡ require_client core client → Err r ≡ (expect (client_at core client) UnknownClient >>= λ (found : Client). rest)
  no_client rest gone = sym (fail rest (sym gone) (unused (client_at core client) UnknownClient rest))

  pub behind_client : {x : Checked ⊤} (rest : Checked ⊤) → Ok tt ≡ require_client core client → x ≡ rest → x ≡ (expect (client_at core client) UnknownClient >>= λ (found : Client). rest)
  behind_client rest there is = is ∙ sym (pass (sym there) (unused (client_at core client) UnknownClient rest))

-- ---- the rows

module _ (evidence : Evidence) (host : Host) (core : Core) where
  pub init_checks : (m : ConnOpenInit)
      → conn_open_init m evidence host core ≡ (require_client core m.client >> (require_number core.next_connection >> Ok (new_end (init_end m) core)))
  unfolding conn_open_init
  init_checks m = unused (client_at core m.client) UnknownClient _

  abbrev pub try_after : ConnOpenTry → Checked (Effect × Core)
  try_after m =
      may_conn_try host core m
      >> (require_proof evidence m.client m.height (has_connection m.peer_connection (expected_init_end m)) m.proof_end
      >> (require_proof evidence m.client m.height (has_client m.peer_client m.claim) m.proof_client
      >> Ok (new_end (try_end m) core)))

  pub try_checks : (m : ConnOpenTry)
      → conn_open_try m evidence host core ≡ (require (evidence.is_proof m.proof_end && evidence.is_proof m.proof_client) BadMessage >> try_after m)
  unfolding conn_open_try
  try_checks m = refl

  abbrev pub ack_after : ConnOpenAck → ConnectionEnd → Checked (Effect × Core)
  ack_after m mine =
      may_conn_ack host core m mine
      >> (require_proof evidence mine.client m.height (has_connection m.peer_connection (expected_try_end m mine)) m.proof_end
      >> (require_proof evidence mine.client m.height (has_client mine.peer_client m.claim) m.proof_client
      >> Ok (effect.None, with_connection m.connection (after_ack m mine) core)))

  pub ack_checks : (m : ConnOpenAck)
      → conn_open_ack m evidence host core
      ≡ (require (evidence.is_proof m.proof_end && evidence.is_proof m.proof_client) BadMessage
      >> (expect (connection_at core m.connection) UnknownConnection >>= ack_after m))
  unfolding conn_open_ack
  ack_checks m = refl

  abbrev pub confirm_after : ConnOpenConfirm → ConnectionEnd → Text → Checked (Effect × Core)
  confirm_after m mine peer =
      require_known core mine.client m.height
      >> (require_proof evidence mine.client m.height (has_connection peer (expected_open_end m mine)) m.proof
      >> Ok (effect.None, with_connection m.connection (after_confirm mine) core))

  abbrev pub confirm_rest : ConnOpenConfirm → ConnectionEnd → Checked (Effect × Core)
  confirm_rest m mine =
      require (same_connection_state mine.state TryOpen) WrongState
      >> (expect mine.peer_connection WrongState >>= confirm_after m mine)

  pub confirm_checks : (m : ConnOpenConfirm)
      → conn_open_confirm m evidence host core
      ≡ (require (evidence.is_proof m.proof) BadMessage >> (expect (connection_at core m.connection) UnknownConnection >>= confirm_rest m))
  unfolding conn_open_confirm
  confirm_checks m = refl

-- ---- behind the proofs, and behind the connection that is there

module _ (held : RecordsModel) (chain chains : ℕ) (seen : List Publication) (state : LedgerState) where
  abbrev roots : Evidence
  roots = proof_evidence seen None state

  abbrev here : Host
  here = host_with chain chains held

  abbrev core : Core
  core = core_of held

  pub try_begun : (m : ConnOpenTry) (proofs : Proofs) → AreProofs m.proof_end m.proof_client proofs → conn_open_try m roots here core ≡ try_after roots here core m
  try_begun m proofs read = pass (λ i. require (is_some (read.0 i) && is_some (read.1 i)) BadMessage) (try_checks roots here core m)

  module _ (m : ConnOpenAck) (proofs : Proofs) (read : AreProofs m.proof_end m.proof_client proofs) where
    pub ack_begun : conn_open_ack m roots here core ≡ (expect (connection_at core m.connection) UnknownConnection >>= ack_after roots here core m)
    ack_begun = pass (λ i. require (is_some (read.0 i) && is_some (read.1 i)) BadMessage) (ack_checks roots here core m)

    pub ack_gone : None ≡ connection_at core m.connection → conn_open_ack m roots here core ≡ Err UnknownConnection
    ack_gone none = miss _ (ap (λ o. expect o UnknownConnection) (sym none)) ack_begun

    pub ack_found : (mine : ConnectionEnd) → connection_at core m.connection ≡ Some mine → conn_open_ack m roots here core ≡ ack_after roots here core m mine
    ack_found mine there = find (ack_after roots here core m) (ap (λ o. expect o UnknownConnection) there) ack_begun

  module _ (m : ConnOpenConfirm) (proof : Proof) (read : proof_of m.proof ≡ Some proof) where
    confirm_begun : conn_open_confirm m roots here core ≡ (expect (connection_at core m.connection) UnknownConnection >>= confirm_rest roots here core m)
    confirm_begun = pass (λ i. require (is_some (read i)) BadMessage) (confirm_checks roots here core m)

    pub confirm_gone : None ≡ connection_at core m.connection → conn_open_confirm m roots here core ≡ Err UnknownConnection
    confirm_gone none = miss _ (ap (λ o. expect o UnknownConnection) (sym none)) confirm_begun

    pub confirm_found : (mine : ConnectionEnd) → Some mine ≡ connection_at core m.connection → conn_open_confirm m roots here core ≡ confirm_rest roots here core m mine
    confirm_found mine there = find (confirm_rest roots here core m) (ap (λ o. expect o UnknownConnection) (sym there)) confirm_begun

    -- the peer's name is there too
    pub confirm_named : (mine : ConnectionEnd) (peer : Text) → Some mine ≡ connection_at core m.connection → require (same_connection_state mine.state TryOpen) WrongState ≡ Ok tt
        → mine.peer_connection ≡ Some peer → conn_open_confirm m roots here core ≡ confirm_after roots here core m mine peer
    confirm_named mine peer there begun named = find (confirm_after roots here core m mine) (ap (λ o. expect o WrongState) named) (pass begun (confirm_found mine there))
