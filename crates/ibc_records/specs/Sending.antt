-- Sending packets, as records and proofs judge it (ICS 4, "sendPacket").
use Rattle.std.specs.Prelude.{◌&&◌, ℕ, Bool, ⊤, Result}
use Rattle.std.specs.Borrow.{Bor}
use Rattle.ibc_ids.specs.Texts.{Text}
use Rattle.ibc_ids.specs.declared.refusal.Refusal.{Refusal}
use Rattle.ibc_machine.specs.chain.Records.{Channel, is_known_height}
use Rattle.ibc_machine.specs.ics04.Packets.{sending_end, require_timeouts, is_reached}
use Rattle.ibc_records.specs.RecordsModel.{RecordsModel, core_of}
use Rattle.ibc_records.specs.ProofVerdicts.{IsEvident, IsPassed}
use Rattle.ibc_records.specs.TimeoutChecks.{is_timeout_reached, with_timeouts}

-- the channel end of this port and name, where it may send
abbrev pub IsSendingEnd : RecordsModel → Text → Text → Result (Bor Channel) Refusal → Type 0
IsSendingEnd held port id result = IsPassed (sending_end (core_of held) port id) (λ mine. mine.now) result

-- whether a packet with these timeouts may be sent, whatever its payload
abbrev pub AreJudgedTimeouts : RecordsModel → Channel → ℕ → ℕ → Result ⊤ Refusal → Type 0
AreJudgedTimeouts held mine height time result =
    (payload : Text) → IsEvident held (λ evidence. require_timeouts evidence (core_of held) mine (with_timeouts payload height time)) result

-- whether one of these timeouts is reached, whatever the payload
abbrev pub IsReachedTimeout : RecordsModel → Channel → ℕ → ℕ → Bool → Type 0
IsReachedTimeout held mine height time result =
    (payload : Text) → IsEvident held (is_timeout_reached (core_of held) mine (with_timeouts payload height time)) result

-- whether the client knows the height, whose time has reached the limit
abbrev pub IsReachedLimit : RecordsModel → Text → ℕ → ℕ → Bool → Type 0
IsReachedLimit held client height limit result =
    IsEvident held (λ evidence. is_known_height (core_of held) client height && is_reached limit (evidence.time_at client height)) result
