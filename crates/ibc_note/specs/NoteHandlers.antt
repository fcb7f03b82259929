-- What becomes of the message of port `note`, and what a note that came leaves (ICS 4, "sendPacket" and "recvPacket").
use Rattle.std.specs.Prelude.{◌≡◌, ◌++◌, ◌∷◌, [], ℕ, List, Result}
use Rattle.std.specs.Borrow.{Bor}
use Rattle.std.specs.Option.{unwrap_or}
use Rattle.ibc_ids.specs.Texts.{Text, text_cmp}
use Rattle.ibc_ids.specs.Maps.{Map, at, with}
use Rattle.ibc_ids.specs.declared.refusal.Refusal.{Refusal}
use Rattle.ibc_wire.specs.declared.messages.SendNote.{SendNote}
use Rattle.ibc_machine.specs.declared.reply.Effect.TheVariants as effect
use Rattle.ibc_machine.specs.chain.Notes.{note_commitment, send_note}
use Rattle.ibc_machine.specs.chain.Records.{Channel}
use Rattle.ibc_machine.specs.ics04.Packets.{with_sent}
use Rattle.ibc_records.specs.RecordsModel.{RecordsModel, core_of}
use Rattle.ibc_records.specs.HandlerContract.{IsHandled}
use Rattle.ibc_records.specs.ProofVerdicts.{IsJudged}

-- a note is sent on whichever chain, or refused
abbrev pub HandlesSendNote : SendNote → RecordsModel → Result ℕ Refusal → RecordsModel → Type 0
HandlesSendNote m old result new = (chain chains : ℕ) → IsHandled effect.Sent (send_note m) chain chains old result new

-- what its checks say, with the end of this port that sends it
abbrev pub JudgesSendNote : Text → SendNote → RecordsModel → Result (Bor Channel) Refusal → Type 0
JudgesSendNote port m held result =
    (chain chains : ℕ) → IsJudged (send_note m) chain chains held (λ mine. with_sent port m.channel mine.now (note_commitment m) (core_of held)) result

-- the note came behind those of its channel
abbrev pub AddsNote : Text → Text → Map Text (List Text) → Map Text (List Text) → Type 0
AddsNote channel note old new = new ≡ with text_cmp channel (unwrap_or (at text_cmp channel old) [] ++ note ∷ []) old
