-- How the program ends on a fault.
use Rattle.std.specs.Prelude.{◌≡◌, ◌⊎◌, ℕ, IsErrOf, Result}
use Rattle.ibc_ids.specs.declared.refusal.Refusal.{Refusal}
use Rattle.ibc_ids.specs.declared.refusal.Refusal.TheVariants as refusal
use Rattle.ibc_script.specs.declared.fault.Fault.{Fault}
use Rattle.ibc_script.specs.declared.fault.Fault.TheVariants.{BadArguments, BadScript, CannotRead, CannotWrite, NoMemory}

-- the program's status
abbrev pub status_of : Fault → ℕ
status_of BadArguments = 2
status_of BadScript = 1
status_of CannotRead = 1
status_of CannotWrite = 1
status_of NoMemory = 1

-- what a refusal makes of a script
abbrev pub fault_of : Refusal → Fault
fault_of refusal.NoMemory = NoMemory
fault_of _ = BadScript

-- a fault that may come while steps are run
abbrev pub IsRunFault : Fault → Type 0
IsRunFault fault = (fault ≡ CannotWrite) ⊎ (fault ≡ NoMemory)

-- a fault that may come while a script is judged
abbrev pub IsScriptFault : Fault → Type 0
IsScriptFault fault = (fault ≡ BadScript) ⊎ (fault ≡ NoMemory)

-- the script is a bad one only where nothing is so
abbrev pub OnlyWhereNone : {A : Type 0} → Result A Fault → (A → Type 0) → Type 0
OnlyWhereNone {A} result IsSo = IsErrOf result BadScript → (a : A) → ¬ IsSo a
