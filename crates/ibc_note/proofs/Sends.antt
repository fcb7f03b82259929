-- A note's checks in a row, and what is sent when they pass.
use Rattle.std.proofs.Common.{◌≡◌, ℕ, Some, Ok, Err, inr, sym, ap, ◌∙◌}
use Rattle.std.specs.Prelude.{Result, IfOk, IfErr, OnErr}
use Rattle.ibc_ids.specs.Texts.{Text}
use Rattle.ibc_ids.specs.declared.refusal.Refusal.{Refusal}
use Rattle.ibc_ids.specs.declared.refusal.Refusal.TheVariants.{NoMemory, TooLarge}
use Rattle.ibc_wire.specs.declared.messages.SendNote.{SendNote}
use Rattle.ibc_machine.specs.declared.reply.Effect.{Effect}
use Rattle.ibc_machine.specs.declared.reply.Effect.TheVariants as effect
use Rattle.ibc_machine.specs.chain.Records.{Core, Channel, Commitment, channel_at, with_channel}
use Rattle.ibc_machine.specs.chain.Checks.{Checked, require, ◌>>=◌, ◌>>◌}
use Rattle.ibc_machine.specs.ics24.Evidence.{Host, Evidence, require_number}
use Rattle.ibc_machine.specs.ics04.Packets.{has_size, sending_end, require_timeouts, after_send, with_sent}
use Rattle.ibc_machine.specs.chain.Notes.{note_port, note_commitment, send_note}
use Rattle.ibc_machine.proofs.PassedChecks.{find}
use Rattle.ibc_records.specs.RecordsModel.{RecordsModel, core_of, IsUnchanged}
use Rattle.ibc_records.specs.HandlerContract.{IsTakenMessage}
use Rattle.ibc_records.specs.Packets.{SendsPacket}

module _ (evidence : Evidence) (host : Host) (core : Core) (m : SendNote) (port : Text) (named : port ≡ note_port) where
  -- the checks behind those of the end
  abbrev pub note_rest : Channel → Checked (Effect × Core)
  note_rest mine =
      require (has_size m.payload) TooLarge
      >> (require_timeouts evidence core mine (note_commitment m)
      >> (require_number mine.next_send >> Ok (with_sent port m.channel mine (note_commitment m) core)))

  pub note_row : send_note m evidence host core ≡ (sending_end core port m.channel >>= note_rest)
  unfolding send_note
  note_row = λ i. sending_end core (sym named i) m.channel >>= λ (mine : Channel).
      require (has_size m.payload) TooLarge
      >> (require_timeouts evidence core mine (note_commitment m)
      >> (require_number mine.next_send >> Ok (with_sent (sym named i) m.channel mine (note_commitment m) core)))

  pub note_found : (mine : Channel) → sending_end core port m.channel ≡ Ok mine → send_note m evidence host core ≡ note_rest mine
  note_found mine is = find note_rest is note_row

module _ (checked : Checked (Effect × Core)) (old : RecordsModel) (m : SendNote) (port : Text) (c : Commitment) (committed : c ≡ note_commitment m) (mine : Channel) where
  pub note_taken : checked ≡ Ok (with_sent port m.channel mine (note_commitment m) (core_of old))
      → channel_at (core_of old) port m.channel ≡ Some mine
      → (result : Result ℕ Refusal) (new : RecordsModel)
      → IfOk result (λ n. SendsPacket old port m.channel c n new)
      → IfErr result (λ refusal. refusal ≡ NoMemory)
      → OnErr result (IsUnchanged old new)
      → IsTakenMessage effect.Sent checked old result new
  note_taken is there (Ok n) new sent err unchanged =
      let stood : Some mine ≡ Some sent.mine = sym there ∙ sent.stood in
      let same : mine ≡ sent.mine = cc (stood) in
      let sequence : mine.next_send ≡ n = ap (λ (x : Channel). x.next_send) same ∙ sym sent.sequence in (
        with_channel port m.channel (after_send c sent.mine) (core_of old),
        is ∙ (λ i. Ok (effect.Sent (sequence i), with_channel port m.channel (after_send (sym committed i) (same i)) (core_of old))),
        sent.written,
      )
  note_taken is there (Err refusal) new sent err unchanged = (inr err, unchanged)
