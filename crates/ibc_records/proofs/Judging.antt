-- How the checks of a message, one after another, decide what becomes of it.
use Rattle.std.proofs.Common.{◌≡◌, ◌⊎◌, ◌<◌, ℕ, Bool, false, inl, inr, refl, sym, ap, subst, ◌∙◌, Ok, Err, Some, None, Option, is_some, length, option_map}
use Rattle.std.specs.Prelude.{⊤, Result, IfOk, IfErr, OnOk, OnErr, slice_index}
use Rattle.std.proofs.lemmas.Result.{IfOk-weaker}
use Rattle.ibc_ids.specs.Texts.{Text, text_cmp}
use Rattle.ibc_ids.specs.Maps.{at}
use Rattle.ibc_ids.specs.declared.refusal.Refusal.{Refusal}
use Rattle.ibc_ids.specs.declared.refusal.Refusal.TheVariants.{NoMemory, UnknownClient, BadMessage}
use Rattle.ibc_merkle.specs.declared.proof.Proof.{Proof}
use Rattle.ibc_wire.specs.Fields.{Spells}
use Rattle.ibc_wire.specs.Spelling.{proof_fields}
use Rattle.ibc_wire.specs.Reading.{proof_of, ReadsWhatIsSpelled}
use Rattle.ibc_machine.specs.declared.reply.Effect.{Effect}
use Rattle.ibc_machine.specs.declared.reply.Effect.TheVariants as effect
use Rattle.ibc_machine.specs.chain.Records.{Core, Client}
use Rattle.ibc_machine.specs.chain.Checks.{Checked, require, expect, go_on, ◌>>=◌, ◌>>◌}
use Rattle.ibc_machine.proofs.PassedChecks.{pass, fail, miss}
use Rattle.ibc_records.specs.ClientModels.{ClientModel, abstract_client}
use Rattle.ibc_records.specs.RecordsModel.{RecordsModel, core_of, IsUnchanged}
use Rattle.ibc_records.specs.HandlerContract.{IsTakenMessage, AreWrittenRecords}
use Rattle.ibc_records.specs.ProofVerdicts.{require_client, IsUnlessMemory, IsPassed}
use Rattle.ibc_records.proofs.Updating.{client_at-held}

-- a check's refusal, or want of memory
abbrev pub IsRefusedBy : {B : Type 0} → Checked B → Refusal → Type 0
IsRefusedBy checked r = (checked ≡ Err r) ⊎ (r ≡ NoMemory)

pub failed : {A : Type 0} {checked : Checked A} {r : Refusal} → IsUnlessMemory checked (Err r) → IsRefusedBy checked r
failed (inl e) = inr cc
failed (inr e) = inl (sym e)

pub passed : {A : Type 0} {checked : Checked A} {x : A} → IsUnlessMemory checked (Ok x) → checked ≡ Ok x
passed (inl e) = absurd cc
passed (inr e) = sym e

-- memory ran out before a check was made
pub unchecked : {A : Type 0} {checked : Checked A} (result : Result A Refusal) {e : Refusal} → result ≡ Err e → e ≡ NoMemory → IsUnlessMemory checked result
unchecked result is memory = inl (is ∙ ap Err memory)

-- an answer that goes on with a check that failed
pub stops : {B : Type 0} {y : Checked B} {x : Checked ⊤} {r : Refusal} (rest : Checked B) → IsRefusedBy x r → y ≡ (x >> rest) → IsRefusedBy y r
stops rest (inl e) is = inl (fail rest e is)
stops rest (inr memory) is = inr memory

pub stops_at : {A B : Type 0} {y : Checked B} {x : Checked A} {r : Refusal} (rest : A → Checked B) → IsRefusedBy x r → y ≡ (x >>= rest) → IsRefusedBy y r
stops_at rest (inl e) is = inl (miss rest e is)
stops_at rest (inr memory) is = inr memory

-- bytes that are no proof, or want of memory
pub unread : {b : Bool} {r : Refusal} → (r ≡ BadMessage → b ≡ false) → (r ≡ BadMessage) ⊎ (r ≡ NoMemory) → IsRefusedBy (require b BadMessage) r
unread bad (inl is) = inl (ap (λ b. require b BadMessage) (bad is) ∙ ap Err (sym is))
unread bad (inr memory) = inr memory

-- the result of checks that were refused
pub refuses : {A B : Type 0} (checked : Checked B) (given : A → B) (result : Result A Refusal) {e r : Refusal} → result ≡ Err e → e ≡ r → IsRefusedBy checked r → IsPassed checked given result
refuses checked given result is same why =
    subst (IsPassed checked given) (sym is) (subst (IsRefusedBy checked) (sym same) why)

-- the last check, whose result is that of all
pub ends : {B : Type 0} (checked : Checked B) (given : ⊤ → B) (result : Result ⊤ Refusal) {x : Checked ⊤} → IsUnlessMemory x result → checked ≡ (x >> Ok (given tt)) → IsPassed checked given result
ends checked given (Ok tt) says is = pass (passed says) is
ends checked given (Err r) says is = stops (Ok (given tt)) (failed says) is

-- the result of a message that was refused
pub untaken : {A : Type 0} (effect_of : A → Effect) (checked : Checked (Effect × Core)) (old : RecordsModel) (result : Result A Refusal) (new : RecordsModel) {e r : Refusal}
    → result ≡ Err e → e ≡ r → IsRefusedBy checked r → IsUnchanged old new → IsTakenMessage effect_of checked old result new
untaken effect_of checked old result new is same why unchanged =
    subst (λ r. IsTakenMessage effect_of checked old r new) (sym is) (subst (IsRefusedBy checked) (sym same) why, unchanged)

-- the value of checks that passed, once it was made
pub made : {A B : Type 0} (checked : Checked B) (given : A → B) (value : A) (result : Result A Refusal) → checked ≡ Ok (given value)
    → IfOk result (λ x. x ≡ value) → IfErr result (λ refusal. refusal ≡ NoMemory) → IsPassed checked given result
made checked given value (Ok x) is same memory = is ∙ ap (λ v. Ok (given v)) (sym same)
made checked given value (Err refusal) is same memory = inr memory

-- the result of a message that all checks let through
module _ (checked : Checked (Effect × Core)) (old new : RecordsModel) where
  -- what it added has this name
  pub added_taken : (effect_of : Text → Effect) (name : Text) (core_with : Text → Core) (result : Result Text Refusal) → checked ≡ Ok (effect_of name, core_with name)
      → IfOk result (λ id. (id ≡ name) × AreWrittenRecords (core_with id) old new) → IfErr result (λ refusal. refusal ≡ NoMemory) → OnErr result (IsUnchanged old new)
      → IsTakenMessage effect_of checked old result new
  added_taken effect_of name core_with (Ok id) is added err unchanged =
      (core_with id, is ∙ ap (λ n. Ok (effect_of n, core_with n)) (sym added.0), added.1)
  added_taken effect_of name core_with (Err refusal) is added err unchanged = (inr err, unchanged)

  -- it set something
  pub set_taken : (core : Core) (result : Result ⊤ Refusal) → checked ≡ Ok (effect.None, core)
      → OnOk result (AreWrittenRecords core old new) → IfErr result (λ refusal. refusal ≡ NoMemory) → OnErr result (IsUnchanged old new)
      → IsTakenMessage (λ _. effect.None) checked old result new
  set_taken core (Ok x) is written err unchanged = (core, is, written)
  set_taken core (Err refusal) is written err unchanged = (inr err, unchanged)

-- ---- what the code finds

module _ (held : RecordsModel) (id : Text) where
  judged : Option Client → Checked ⊤
  judged o = expect o UnknownClient >>= λ (c : Client). Ok tt

  pub client_there : (found : ClientModel) → Some found ≡ at text_cmp id held.clients → Ok tt ≡ require_client (core_of held) id
  unfolding go_on judged
  client_there found some = ap judged (sym (client_at-held held id ∙ ap (λ o. option_map abstract_client o) (sym some)))

  pub client_gone : None ≡ at text_cmp id held.clients → Err UnknownClient ≡ require_client (core_of held) id
  unfolding go_on judged
  client_gone none = ap judged (sym (client_at-held held id ∙ ap (λ o. option_map abstract_client o) (sym none)))

module _ (reads : ReadsWhatIsSpelled) (text : Text) (bytes : (i : ℕ) → i < length text → slice_index text i < 256) (result : Result Proof Refusal) where
  pub proof_read : IfOk result (λ p. Spells (proof_fields p) text) → IfOk result (λ p. proof_of text ≡ Some p)
  proof_read ok = IfOk-weaker result (λ p. Spells (proof_fields p) text) (λ p. proof_of text ≡ Some p) (λ p spelled. (reads p text bytes).1 spelled) ok

  pub no_proof : ((p : Proof) → Spells (proof_fields p) text → ⊥) → is_some (proof_of text) ≡ false
  no_proof none = by_proof (proof_of text) refl
    where
      by_proof : (o : Option Proof) → proof_of text ≡ o → is_some o ≡ false
      by_proof None is = refl
      by_proof (Some p) is = absurd (none p ((reads p text bytes).0 is))
