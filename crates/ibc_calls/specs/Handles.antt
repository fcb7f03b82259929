-- What calls do to handles.
use Rattle.std.specs.Prelude.{◌≡◌, ◌⊎◌, ◌≤◌, ◌<◌, ◌++◌, ℕ, length, drop, Option, Some, None, Result, Ok, Err}
use Rattle.ibc_ids.specs.Texts.{Text}
use Rattle.ibc_ids.specs.declared.refusal.Refusal.TheVariants.{NoMemory}
use Rattle.ibc_handle.specs.declared.handle_value.HandleValue.{HandleValue}
use Rattle.ibc_calls.specs.declared.answer.Refused.{Refused}
use Rattle.ibc_calls.specs.declared.answer.Refused.TheVariants.{Core, Empty, Full, TooShort}
use Rattle.ibc_calls.specs.CallAnswers.{Answer}

-- a handle that holds nothing is refused, and stays so
abbrev pub OfValueOrEmpty : (HandleValue → Option HandleValue → Answer → Type 0) → Option HandleValue → Option HandleValue → Answer → Type 0
OfValueOrEmpty does None new answer = (new ≡ None) × (answer ≡ Err Empty)
OfValueOrEmpty does (Some old) new answer = does old new answer

-- A handle that holds something already is refused, and keeps it.
abbrev pub OfEmptyOrFull : (Option HandleValue → Answer → Type 0) → Option HandleValue → Option HandleValue → Answer → Type 0
OfEmptyOrFull does (Some old) new answer = (new ≡ Some old) × (answer ≡ Err Full)
OfEmptyOrFull does None new answer = does new answer

-- a value was made, or memory ran out and the handle is empty
abbrev pub IsMade : (HandleValue → Type 0) → Option HandleValue → Answer → Type 0
IsMade is (Some value) answer = is value × (answer ≡ Ok tt)
IsMade is None answer = answer ≡ Err (Core NoMemory)

-- the handle stays empty, for this reason
abbrev pub StaysEmpty : Refused → Option HandleValue → Answer → Type 0
StaysEmpty why new answer = (new ≡ None) × (answer ≡ Err why)

-- a value is freed where there is one
abbrev pub freed : Option HandleValue → Answer
freed None = Err Empty
freed (Some value) = Ok tt

-- ---- bytes that are handed out

-- the bytes stand at the beginning of the place, or it is too short and stays; their number is told
abbrev pub IsWritten : Text → Text → Text → ℕ → Answer → Type 0
IsWritten bytes old new size answer =
    (size ≡ length bytes)
    × (((length bytes ≤ length old) × (answer ≡ Ok tt) × (new ≡ bytes ++ drop (length bytes) old))
    ⊎ ((length old < length bytes) × (answer ≡ Err TooShort) × (new ≡ old)))

-- the bytes stand at the beginning of the place where there is room, and their number is told
abbrev pub IsPut : Text → Text → Text → ℕ → Type 0
IsPut bytes old new size = (written : Answer) × IsWritten bytes old new size written

-- the bytes that were found are written; where it was refused nothing is
abbrev pub WritesFound : Result Text Refused → Text → Text → ℕ → ℕ → Answer → Type 0
WritesFound (Ok bytes) old new size size' answer = IsWritten bytes old new size' answer
WritesFound (Err why) old new size size' answer = (answer ≡ Err why) × (new ≡ old) × (size' ≡ size)

-- what is so of what was found is written
unfoldable pub Finds : (Result Text Refused → Type 0) → Text → Text → ℕ → ℕ → Answer → Type 0
Finds is old new size size' answer = (found : Result Text Refused) × is found × WritesFound found old new size size' answer
