-- What a check of a proof says of the claim.
use Rattle.std.proofs.Common.{◌≡◌, ◌⊎◌, ℕ, true, Err, inl, inr, ap, ◌∙◌}
use Rattle.std.specs.Prelude.{⊤, Result}
use Rattle.ibc_ids.specs.Texts.{Text}
use Rattle.ibc_ids.specs.Paths.{path}
use Rattle.ibc_ids.specs.declared.key.Key.{Key}
use Rattle.ibc_ids.specs.declared.refusal.Refusal.{Refusal}
use Rattle.ibc_ids.specs.declared.refusal.Refusal.TheVariants.{NoMemory}
use Rattle.ibc_merkle.specs.Proofs.{accepts_present, accepts_absent}
use Rattle.ibc_merkle.specs.declared.proof.Proof.{Proof}
use Rattle.ibc_machine.specs.chain.Records.{is_known_height}
use Rattle.ibc_machine.specs.ics24.Values.{Value, present_claim, absent_claim, value_bytes}
use Rattle.ibc_records.specs.RecordsModel.{RecordsModel, core_of}
use Rattle.ibc_records.specs.Claims.{proof_checked}
use Rattle.ibc_records.specs.ProofVerdicts.{IsShown}
use Rattle.ibc_records.proofs.ShownClaims.{shown_present, shown_absent}

module _ (held : RecordsModel) (client : Text) (height : ℕ) (knowing : is_known_height (core_of held) client height ≡ true) (key : Key) (value : Value) (proof : Proof) where
  -- the value's bytes were looked for at the key's path
  pub is_shown : (result : Result ⊤ Refusal) {text bytes : Text} → text ≡ path key → bytes ≡ value_bytes value
      → (result ≡ Err NoMemory) ⊎ (result ≡ proof_checked held client height (λ root. accepts_present proof root text bytes))
      → IsShown held client height (present_claim key value) proof result
  is_shown result same valued (inl memory) seen state spelled knowledge reads = inl memory
  is_shown result same valued (inr checked) seen state spelled knowledge reads =
      inr (checked ∙ (λ i. proof_checked held client height (λ root. accepts_present proof root (same i) (valued i)))
      ∙ shown_present held state seen client height key value spelled proof knowledge knowing reads)

-- nothing was looked for at the key's path
pub is_shown_absent : (held : RecordsModel) (client : Text) (height : ℕ) → is_known_height (core_of held) client height ≡ true → (key : Key) (proof : Proof) (result : Result ⊤ Refusal) {text : Text} → text ≡ path key
    → (result ≡ Err NoMemory) ⊎ (result ≡ proof_checked held client height (λ root. accepts_absent proof root text))
    → IsShown held client height (absent_claim key) proof result
is_shown_absent held client height knowing key proof result same (inl memory) seen state spelled knowledge reads = inl memory
is_shown_absent held client height knowing key proof result same (inr checked) seen state spelled knowledge reads =
    inr (checked ∙ ap (λ text. proof_checked held client height (λ root. accepts_absent proof root text)) same
    ∙ shown_absent held state seen client height key spelled proof knowledge knowing reads)
