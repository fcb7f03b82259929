-- Checks in order: the first that fails names the refusal.
use Rattle.std.specs.Prelude.{Bool, true, false, Option, Some, None, Result, Ok, Err}
use Rattle.std.specs.Prelude.{⊤}
use Rattle.ibc_ids.specs.declared.refusal.Refusal.{Refusal}

-- a value, or the refusal of the first check that failed
abbrev pub Checked : Type 0 → Type 0
Checked A = Result A Refusal

-- go on with the value
unfoldable pub go_on : {A B : Type 0} → Checked A → (A → Checked B) → Checked B
go_on (Ok x) f = f x
go_on (Err refusal) f = Err refusal

-- go on where nothing was refused
unfoldable pub and_then : {B : Type 0} → Checked ⊤ → Checked B → Checked B
and_then (Ok x) rest = rest
and_then (Err refusal) rest = Err refusal

-- a `do` block goes on from line to line
infixl 10 ◌>>=◌
abbrev pub ◌>>=◌ : {A B : Type 0} → Checked A → (A → Checked B) → Checked B
x >>= f = go_on x f

infixl 10 ◌>>◌
abbrev pub ◌>>◌ : {B : Type 0} → Checked ⊤ → Checked B → Checked B
x >> rest = and_then x rest

-- the condition holds, or else this refusal
abbrev pub require : Bool → Refusal → Checked ⊤
require true refusal = Ok tt
require false refusal = Err refusal

-- there is a value, or else this refusal
abbrev pub expect : {A : Type 0} → Option A → Refusal → Checked A
expect (Some x) refusal = Ok x
expect None refusal = Err refusal
