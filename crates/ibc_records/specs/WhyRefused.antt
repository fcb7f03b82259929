-- Why a call is refused: by a check that failed, as an application or a payer refuses, or for want of memory.
use Rattle.std.specs.Prelude.{◌≡◌, ◌⊎◌, Result, Err, IfErr}
use Rattle.ibc_ids.specs.declared.refusal.Refusal.{Refusal}
use Rattle.ibc_ids.specs.declared.refusal.Refusal.TheVariants.{NoMemory}
use Rattle.ibc_machine.specs.chain.Checks.{Checked}

-- a refusal is that of the checks, or memory ran out
abbrev pub FailsBy : {A B : Type 0} → Checked A → Result B Refusal → Type 0
FailsBy checked result = IfErr result (λ refusal. (checked ≡ Err refusal) ⊎ (refusal ≡ NoMemory))

-- memory ran out, or the refusal is what the application or the payer answered
abbrev pub IsRefusedAs : {A B : Type 0} → Checked A → Result B Refusal → Type 0
IsRefusedAs asked result = IfErr result (λ refusal. (refusal ≡ NoMemory) ⊎ (asked ≡ Err refusal))
