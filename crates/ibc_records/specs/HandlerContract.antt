-- What becomes of a message that tells no client of a height: it is taken, as its checks say, or refused.
use Rattle.std.specs.Prelude.{◌≡◌, ◌⊎◌, ◌+◌, ℕ, List, None, Result, Ok, Err}
use Rattle.ibc_ids.specs.declared.publication.Publication.{Publication}
use Rattle.ibc_ids.specs.declared.refusal.Refusal.{Refusal}
use Rattle.ibc_ids.specs.declared.refusal.Refusal.TheVariants.{NoMemory}
use Rattle.ibc_machine.specs.declared.reply.Effect.{Effect}
use Rattle.ibc_machine.specs.chain.Records.{Core}
use Rattle.ibc_machine.specs.chain.Checks.{Checked}
use Rattle.ibc_machine.specs.ics24.Evidence.{Host, CoreHandler, Handler}
use Rattle.ibc_machine.specs.ledger.Replay.{LedgerState, proof_evidence}
use Rattle.ibc_path_store.specs.StoreModel.{height_of}
use Rattle.ibc_records.specs.RecordsModel.{RecordsModel, core_of, IsStored, IsUnchanged}
use Rattle.ibc_records.specs.Knowledge.{Knows, KnowsNoMore}

-- the records are written, as their checks say they are, and the store is their image
pub record AreWrittenRecords (core : Core) (old new : RecordsModel) : Type 0 where
  pub core_is : core_of new ≡ core
  pub stored : IsStored old new
  pub knows : KnowsNoMore old new

-- The message was taken with this effect, as its checks say, or it was refused: by the check that failed, or for want of
-- memory, which any check may need. A refusal leaves the records but for room.
abbrev pub IsTakenMessage : {A : Type 0} → (A → Effect) → Checked (Effect × Core) → RecordsModel → Result A Refusal → RecordsModel → Type 0
IsTakenMessage effect_of checked old (Ok x) new = (core : Core) × (checked ≡ Ok (effect_of x, core)) × AreWrittenRecords core old new
IsTakenMessage effect_of checked old (Err refusal) new = ((checked ≡ Err refusal) ⊎ (refusal ≡ NoMemory)) × IsUnchanged old new

-- the chain that the records are of, numbered so among so many
abbrev pub host_with : ℕ → ℕ → RecordsModel → Host
host_with chain chains held =
    record { chain = chain; chains = chains; height = height_of held.store + 1; time = held.store.time }

-- A handler's answer by roots and proofs, where a ledger's state says of heights what the clients of the records know. A
-- message that tells no client of a height reads no table.
abbrev pub IsHandled : {A : Type 0} → (A → Effect) → CoreHandler → ℕ → ℕ → RecordsModel → Result A Refusal → RecordsModel → Type 0
IsHandled effect_of handler chain chains old result new =
    (seen : List Publication) (state : LedgerState) → Knows old state
    → IsTakenMessage effect_of (handler (proof_evidence seen None state) (host_with chain chains old) (core_of old)) old result new

-- The message was taken with this effect, as its checks and the application say, or it was refused, by them or for want
-- of memory. A refusal leaves the records but for room, and the application.
abbrev pub IsTakenWith : {A App : Type 0} → (A → Effect) → Checked (Effect × Core × App) → RecordsModel → App → Result A Refusal → RecordsModel → App → Type 0
IsTakenWith effect_of checked old app (Ok x) new after = (core : Core) × (checked ≡ Ok (effect_of x, core, after)) × AreWrittenRecords core old new
IsTakenWith effect_of checked old app (Err refusal) new after = ((checked ≡ Err refusal) ⊎ (refusal ≡ NoMemory)) × IsUnchanged old new × (after ≡ app)

-- a handler's answer by roots and proofs, as above, where an application takes part
abbrev pub IsHandledWith : {A App : Type 0} → (A → Effect) → Handler App → ℕ → ℕ → RecordsModel → App → Result A Refusal → RecordsModel → App → Type 0
IsHandledWith effect_of handler chain chains old app result new after =
    (seen : List Publication) (state : LedgerState) → Knows old state
    → IsTakenWith effect_of (handler (proof_evidence seen None state) (host_with chain chains old) (core_of old) app) old app result new after
