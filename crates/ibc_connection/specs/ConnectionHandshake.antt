-- The ends that the handshake leaves (ICS 3, "Opening Handshake").
use Rattle.std.specs.Prelude.{◌≡◌, ◌&&◌, ◌==◌, ◌+◌, ℕ, Bool, ⊤, nat_lt, is_some, Some, None, Result}
use Rattle.ibc_ids.specs.Texts.{Text}
use Rattle.ibc_ids.specs.Paths.{nth_connection}
use Rattle.ibc_ids.specs.declared.refusal.Refusal.{Refusal}
use Rattle.ibc_merkle.specs.declared.proof.Proof.{Proof}
use Rattle.ibc_wire.specs.declared.records.ClientState.{ClientState}
use Rattle.ibc_wire.specs.declared.records.ConnectionState.TheVariants.{Init, TryOpen, Open}
use Rattle.ibc_wire.specs.declared.records.ConnectionEnd.{ConnectionEnd}
use Rattle.ibc_wire.specs.declared.messages.ConnOpenInit.{ConnOpenInit}
use Rattle.ibc_wire.specs.declared.messages.ConnOpenTry.{ConnOpenTry}
use Rattle.ibc_wire.specs.declared.messages.ConnOpenAck.{ConnOpenAck}
use Rattle.ibc_wire.specs.declared.messages.ConnOpenConfirm.{ConnOpenConfirm}
use Rattle.ibc_wire.specs.Reading.{proof_of}
use Rattle.ibc_connection.specs.declared.claims.Proofs.{Proofs}
use Rattle.ibc_machine.specs.declared.reply.Effect.{Effect}
use Rattle.ibc_machine.specs.declared.reply.Effect.TheVariants as effect
use Rattle.ibc_machine.specs.chain.Records.{Core}
use Rattle.ibc_machine.specs.ics03.Connections.{connection_end, has_connection, with_new_connection}
use Rattle.ibc_path_store.specs.StoreModel.{height_of}
use Rattle.ibc_records.specs.RecordsModel.{RecordsModel, core_of}
use Rattle.ibc_records.specs.HandlerContract.{AreWrittenRecords}
use Rattle.ibc_records.specs.ProofVerdicts.{IsShown}

-- ---- ends of this chain

-- a new end, under the next name
abbrev pub new_end : ConnectionEnd → Core → Effect × Core
new_end end core =
    (effect.Connection (nth_connection core.next_connection), with_new_connection (nth_connection core.next_connection) end core)

-- the end was added under the next name, which is this one
abbrev pub AddsNextConnection : ConnectionEnd → RecordsModel → Text → RecordsModel → Type 0
AddsNextConnection end old id new =
    (id ≡ nth_connection old.next_connection) × AreWrittenRecords (with_new_connection id end (core_of old)) old new

abbrev pub init_end : ConnOpenInit → ConnectionEnd
init_end m = connection_end Init m.client m.peer_client None

abbrev pub try_end : ConnOpenTry → ConnectionEnd
try_end m = connection_end TryOpen m.client m.peer_client (Some m.peer_connection)

abbrev pub after_ack : ConnOpenAck → ConnectionEnd → ConnectionEnd
after_ack m mine = record mine { state = Open; peer_connection = Some m.peer_connection }

abbrev pub after_confirm : ConnectionEnd → ConnectionEnd
after_confirm mine = record mine { state = Open }

-- ---- the peer's end, as each message says that it is

abbrev pub expected_init_end : ConnOpenTry → ConnectionEnd
expected_init_end m = connection_end Init m.peer_client m.client None

abbrev pub expected_try_end : ConnOpenAck → ConnectionEnd → ConnectionEnd
expected_try_end m mine = connection_end TryOpen mine.peer_client mine.client (Some m.connection)

abbrev pub expected_open_end : ConnOpenConfirm → ConnectionEnd → ConnectionEnd
expected_open_end m mine = connection_end Open mine.peer_client mine.client (Some m.connection)

-- ---- proofs

-- the two proofs are those that these bytes spell
abbrev pub AreProofs : Text → Text → Proofs → Type 0
AreProofs end client proofs = (proof_of end ≡ Some proofs.end) × (proof_of client ≡ Some proofs.client)

-- both texts spell a proof
abbrev pub are_readable : Text → Text → Bool
are_readable end client = is_some (proof_of end) && is_some (proof_of client)

-- ---- checks

-- a claimed client of the peer tracks this chain, and knows no height that isn't committed here (ICS 3, "validateSelfClient")
abbrev pub is_self_client : RecordsModel → ℕ → ClientState → Bool
is_self_client held chain claim = (claim.chain == chain) && nat_lt claim.latest (height_of held.store + 1)

-- the proof shows that the peer began the connection
abbrev pub IsConnectionInitShown : RecordsModel → ConnOpenTry → Proof → Result ⊤ Refusal → Type 0
IsConnectionInitShown held m proof result = IsShown held m.client m.height (has_connection m.peer_connection (expected_init_end m)) proof result

-- the proof shows that the peer answered the connection
abbrev pub IsConnectionTryShown : RecordsModel → ConnectionEnd → ConnOpenAck → Proof → Result ⊤ Refusal → Type 0
IsConnectionTryShown held mine m proof result = IsShown held mine.client m.height (has_connection m.peer_connection (expected_try_end m mine)) proof result

-- the proof shows that the peer opened the connection
abbrev pub IsConnectionOpenShown : RecordsModel → ConnectionEnd → Text → ConnOpenConfirm → Proof → Result ⊤ Refusal → Type 0
IsConnectionOpenShown held mine peer m proof result = IsShown held mine.client m.height (has_connection peer (expected_open_end m mine)) proof result
