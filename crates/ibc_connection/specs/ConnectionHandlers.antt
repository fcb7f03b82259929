-- What becomes of the messages of connections, and how their checks judge them (ICS 3, "Opening Handshake").
use Rattle.std.specs.Prelude.{◌≡◌, ℕ, ⊤, Result}
use Rattle.ibc_ids.specs.Texts.{Text}
use Rattle.ibc_ids.specs.declared.refusal.Refusal.{Refusal}
use Rattle.ibc_wire.specs.declared.records.ConnectionEnd.{ConnectionEnd}
use Rattle.ibc_wire.specs.declared.messages.ConnOpenInit.{ConnOpenInit}
use Rattle.ibc_wire.specs.declared.messages.ConnOpenTry.{ConnOpenTry}
use Rattle.ibc_wire.specs.declared.messages.ConnOpenAck.{ConnOpenAck}
use Rattle.ibc_wire.specs.declared.messages.ConnOpenConfirm.{ConnOpenConfirm}
use Rattle.ibc_machine.specs.declared.reply.Effect.TheVariants as effect
use Rattle.ibc_machine.specs.chain.Records.{with_connection}
use Rattle.ibc_machine.specs.ics03.Connections.{conn_open_init, conn_open_try, conn_open_ack, conn_open_confirm, may_conn_try, may_conn_ack}
use Rattle.ibc_records.specs.RecordsModel.{RecordsModel, core_of}
use Rattle.ibc_records.specs.HandlerContract.{IsHandled, host_with}
use Rattle.ibc_records.specs.ProofVerdicts.{IsJudged}
use Rattle.ibc_connection.specs.ConnectionHandshake.{new_end, try_end, after_ack}

-- ---- what becomes of a message, on this chain of however many, or on whichever chain

-- ICS 3, "connOpenInit"
abbrev pub HandlesConnOpenInit : ConnOpenInit → RecordsModel → Result Text Refusal → RecordsModel → Type 0
HandlesConnOpenInit m old result new = (chain chains : ℕ) → IsHandled effect.Connection (conn_open_init m) chain chains old result new

-- ICS 3, "connOpenTry"
abbrev pub HandlesConnOpenTry : ℕ → ConnOpenTry → RecordsModel → Result Text Refusal → RecordsModel → Type 0
HandlesConnOpenTry chain m old result new = (chains : ℕ) → IsHandled effect.Connection (conn_open_try m) chain chains old result new

-- ICS 3, "connOpenAck"
abbrev pub HandlesConnOpenAck : ℕ → ConnOpenAck → RecordsModel → Result ⊤ Refusal → RecordsModel → Type 0
HandlesConnOpenAck chain m old result new = (chains : ℕ) → IsHandled (λ _. effect.None) (conn_open_ack m) chain chains old result new

-- ICS 3, "connOpenConfirm"
abbrev pub HandlesConnOpenConfirm : ConnOpenConfirm → RecordsModel → Result ⊤ Refusal → RecordsModel → Type 0
HandlesConnOpenConfirm m old result new = (chain chains : ℕ) → IsHandled (λ _. effect.None) (conn_open_confirm m) chain chains old result new

-- ---- what the checks say

-- of "connOpenTry", before any proof
abbrev pub IsTryAllowed : ℕ → ConnOpenTry → RecordsModel → Result ⊤ Refusal → Type 0
IsTryAllowed chain m held result = (chains : ℕ) → result ≡ may_conn_try (host_with chain chains held) (core_of held) m

-- of "connOpenTry": that an end in TRYOPEN may be added
abbrev pub JudgesConnOpenTry : ℕ → ConnOpenTry → RecordsModel → Result ⊤ Refusal → Type 0
JudgesConnOpenTry chain m held result =
    (chains : ℕ) → IsJudged (conn_open_try m) chain chains held (λ _. new_end (try_end m) (core_of held)) result

-- of "connOpenAck" at this end, before any proof
abbrev pub IsAckAllowed : ℕ → ConnOpenAck → ConnectionEnd → RecordsModel → Result ⊤ Refusal → Type 0
IsAckAllowed chain m mine held result = (chains : ℕ) → result ≡ may_conn_ack (host_with chain chains held) (core_of held) m mine

-- of "connOpenAck" at this end: that it may be open
abbrev pub PassesConnOpenAck : ℕ → ConnOpenAck → ConnectionEnd → RecordsModel → Result ⊤ Refusal → Type 0
PassesConnOpenAck chain m mine held result =
    (chains : ℕ) → IsJudged (conn_open_ack m) chain chains held (λ _. (effect.None, with_connection m.connection (after_ack m mine) (core_of held))) result

-- of "connOpenAck": that this end may be set
abbrev pub JudgesConnOpenAck : ℕ → ConnOpenAck → RecordsModel → Result ConnectionEnd Refusal → Type 0
JudgesConnOpenAck chain m held result =
    (chains : ℕ) → IsJudged (conn_open_ack m) chain chains held (λ end. (effect.None, with_connection m.connection end (core_of held))) result

-- of "connOpenConfirm": that this end may be set
abbrev pub JudgesConnOpenConfirm : ConnOpenConfirm → RecordsModel → Result ConnectionEnd Refusal → Type 0
JudgesConnOpenConfirm m held result =
    (chain chains : ℕ) → IsJudged (conn_open_confirm m) chain chains held (λ end. (effect.None, with_connection m.connection end (core_of held))) result
