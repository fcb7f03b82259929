-- How an answer fits what a move comes to.
use Rattle.std.specs.Prelude.{◌≡◌, ◌⊎◌, ◌↔◌, Option, Some, None, Err, IsSome, IfErr, Result, OnOk, IsErrOf, IsOkUnless}
use Rattle.ibc_ids.specs.declared.refusal.Refusal.{Refusal}
use Rattle.ibc_ids.specs.declared.refusal.Refusal.TheVariants.{NoMemory, Poor}
use Rattle.ibc_machine.specs.chain.Checks.{Checked}

-- where it is made, this is what it comes to
abbrev pub GivesOnOk : {A B E : Type 0} → Result A E → Option B → B → Type 0
GivesOnOk result next after = OnOk result (next ≡ Some after)

-- this is the refusal exactly where it comes to nothing
abbrev pub IsErrIfNone : {A B : Type 0} → Result A Refusal → Refusal → Option B → Type 0
IsErrIfNone result refusal next = IsErrOf result refusal ↔ (next ≡ None)

-- where it comes to something, only memory may be missing
abbrev pub IsOkIfSome : {A B : Type 0} → Result A Refusal → Option B → Type 0
IsOkIfSome result next = IsSome next → IsOkUnless result NoMemory

-- where it comes to nothing, the refusal is that there is less
abbrev pub IsPoorIfNone : {A B : Type 0} → Result A Refusal → Option B → Type 0
IsPoorIfNone result next = next ≡ None → IsErrOf result Poor

-- a refusal is that there is less, where it comes to nothing, or that memory is missing
abbrev pub FailsPoor : {A B : Type 0} → Result A Refusal → Option B → Type 0
FailsPoor result next = IfErr result (λ e. (e ≡ NoMemory) ⊎ ((e ≡ Poor) × (next ≡ None)))

-- a refusal is its own, or that memory is missing
abbrev pub FailsAs : {A B : Type 0} → Result A Refusal → Checked B → Type 0
FailsAs result next = IfErr result (λ e. (e ≡ NoMemory) ⊎ (next ≡ Err e))

-- where it is refused, so is the call
abbrev pub FailsIf : {A B : Type 0} → Result A Refusal → Checked B → Type 0
FailsIf result next = (e : Refusal) → next ≡ Err e → IsErrOf result e
