-- What a connection that was added, or an end that was set, makes of a message.
use Rattle.std.proofs.Common.{◌≡◌, Ok, Err}
use Rattle.std.specs.Prelude.{⊤, Result, IfOk, IfErr, OnOk, OnErr}
use Rattle.ibc_ids.specs.Texts.{Text}
use Rattle.ibc_ids.specs.Paths.{nth_connection}
use Rattle.ibc_ids.specs.declared.refusal.Refusal.{Refusal}
use Rattle.ibc_ids.specs.declared.refusal.Refusal.TheVariants.{NoMemory}
use Rattle.ibc_wire.specs.declared.records.ConnectionEnd.{ConnectionEnd}
use Rattle.ibc_machine.specs.declared.reply.Effect.{Effect}
use Rattle.ibc_machine.specs.declared.reply.Effect.TheVariants as effect
use Rattle.ibc_machine.specs.chain.Records.{Core, with_connection}
use Rattle.ibc_machine.specs.chain.Checks.{Checked}
use Rattle.ibc_machine.specs.ics03.Connections.{with_new_connection}
use Rattle.ibc_records.specs.RecordsModel.{RecordsModel, core_of, IsUnchanged, SetsConnection}
use Rattle.ibc_records.specs.HandlerContract.{IsTakenMessage, AreWrittenRecords}
use Rattle.ibc_records.proofs.WrittenRecords.{sets_connection_written}
use Rattle.ibc_records.proofs.Judging.{added_taken, set_taken}
use Rattle.ibc_connection.specs.ConnectionHandshake.{new_end}

-- an end was added under the next name, as the result says
abbrev pub IsAdded : ConnectionEnd → RecordsModel → RecordsModel → Text → Type 0
IsAdded end old new id = (id ≡ nth_connection old.next_connection) × AreWrittenRecords (with_new_connection id end (core_of old)) old new

module _ (checked : Checked (Effect × Core)) (old new : RecordsModel) where
  pub begun_taken : (end : ConnectionEnd) (result : Result Text Refusal) → checked ≡ Ok (new_end end (core_of old))
      → IfOk result (IsAdded end old new) → IfErr result (λ refusal. refusal ≡ NoMemory) → OnErr result (IsUnchanged old new)
      → IsTakenMessage effect.Connection checked old result new
  begun_taken end = added_taken checked old new effect.Connection (nth_connection old.next_connection) (λ id. with_new_connection id end (core_of old))

  pub end_taken : (id : Text) (end : ConnectionEnd) (result : Result ⊤ Refusal) → checked ≡ Ok (effect.None, with_connection id end (core_of old))
      → OnOk result (SetsConnection old id end new) → IfErr result (λ refusal. refusal ≡ NoMemory) → OnErr result (IsUnchanged old new)
      → IsTakenMessage (λ _. effect.None) checked old result new
  end_taken id end (Ok x) is sets err unchanged =
      set_taken checked old new (with_connection id end (core_of old)) (Ok x) is (sets_connection_written old id end new sets) err unchanged
  end_taken id end (Err refusal) is sets err unchanged = set_taken checked old new (with_connection id end (core_of old)) (Err refusal) is sets err unchanged
