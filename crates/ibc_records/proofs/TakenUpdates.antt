-- A client that was made was taken as its checks say.
use Rattle.std.proofs.Common.{refl, Result, Ok, Err, inl, inr, ⊎_elim}
use Rattle.ibc_ids.specs.Texts.{Text}
use Rattle.ibc_ids.specs.declared.refusal.Refusal.{Refusal}
use Rattle.ibc_wire.specs.declared.messages.CreateClient.{CreateClient}
use Rattle.ibc_machine.specs.declared.reply.Effect.{Effect}
use Rattle.ibc_machine.specs.declared.reply.Effect.TheVariants as effect
use Rattle.ibc_machine.specs.chain.Records.{Core}
use Rattle.ibc_machine.specs.chain.Checks.{Checked}
use Rattle.ibc_records.specs.RecordsModel.{RecordsModel, core_of}
use Rattle.ibc_records.specs.HandlerContract.{IsTakenMessage}
use Rattle.ibc_records.proofs.WrittenRecords.{adds_client_written}
use Rattle.ibc_records.specs.ClientReplies.{IsCreated}

pub created_taken : (checked : Checked (Effect × Core)) (m : CreateClient) (old new : RecordsModel) (result : Result Text Refusal) → IsCreated checked m old result new
    → IsTakenMessage effect.Client checked old result new
created_taken checked m old new (Ok id) created =
    let written = adds_client_written old id m.chain new created.1 in
    (core_of new, created.0, record { core_is = refl; stored = written.stored; knows = written.knows })
created_taken checked m old new (Err refusal) refused = (⊎_elim (λ e. inl e) (λ w. inr w.0) refused.0, refused.1)
