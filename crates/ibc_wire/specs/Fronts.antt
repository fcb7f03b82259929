-- What stands at the front of a text: a value and the text behind it, one function for each kind of field.
use Rattle.std.specs.Prelude.{◌≡◌, bytes_eq, ℕ, zero, suc, ◌+◌, ◌*◌, ◌^◌, Bool, true, false, IsTrue, List, [], ◌∷◌, ◌++◌, Option, Some, None, Result, Ok, Err}
use Rattle.std.specs.Int.{Width, w64, byte_len, from_be_bytes}
use Rattle.ibc_ids.specs.Texts.{Text}
use Rattle.ibc_ids.specs.declared.refusal.Refusal.{Refusal}
use Rattle.ibc_ids.specs.declared.refusal.Refusal.TheVariants.{NoMemory, BadMessage}
use Rattle.ibc_wire.specs.Fields.{Field, bytes_of, have_form}
use Rattle.ibc_wire.specs.Reading.{◌>>=◌, Front, byte_at_front, bytes_at_front, str_at_front}

-- a call may be refused as a bad message only where this holds, and for want of memory anywhere
abbrev pub IsRefusal : Refusal → Type 0 → Type 0
IsRefusal NoMemory bad = Unit {0}
IsRefusal BadMessage bad = bad
IsRefusal _ bad = ⊥

-- what a function returned, seen by view, is what reading gives, unless memory ran out
abbrev pub Gives : {X Y : Type 0} → (X → Y) → Result X Refusal → Option Y → Type 0
Gives view (Ok x) read = read ≡ Some (view x)
Gives view (Err e) read = IsRefusal e (read ≡ None)

-- a function wrote fields that have their form behind a text, unless memory ran out or one hasn't its form
abbrev pub Writes : {X : Type 0} → List Field → Text → Result X Refusal → Text → Type 0
Writes fields old (Ok x) new = IsTrue (have_form fields) × (new ≡ old ++ bytes_of fields)
Writes fields old (Err e) new = IsRefusal e (have_form fields ≡ false)

-- a number, its bytes big-endian
abbrev pub number_at_front : Width → Text → Front ℕ
number_at_front w text = do
  bytes ← bytes_at_front (byte_len w) text
  Some (from_be_bytes w bytes.0, bytes.1)

-- an amount, the high half first
abbrev pub amount_at_front : Text → Front ℕ
amount_at_front text = do
  high ← number_at_front w64 text
  low ← number_at_front w64 high.1
  Some (high.0 * 2 ^ 64 + low.0, low.1)

-- a name behind its length
abbrev pub name_at_front : (Text → Bool) → Text → Front Text
name_at_front test text = do
  found ← str_at_front 65535 text
  elim (test found.0) [ true ↦ Some found | false ↦ None ]

-- a text that is always the same
abbrev pub same_at_front : Text → Text → Front (Unit {0})
same_at_front expected text = do
  found ← str_at_front 65535 text
  elim (bytes_eq found.0 expected) [ true ↦ Some (tt, found.1) | false ↦ None ]

-- what a number stands for
abbrev pub coded_at_front : {A : Type 0} → (ℕ → Option A) → Text → Front A
coded_at_front of text = do
  number ← byte_at_front text
  found ← of number.0
  Some (found, number.1)

-- a peer's identifier, which is empty in the state Init and only there
abbrev pub peer_at_front : (Text → Bool) → Bool → Text → Front (Option Text)
peer_at_front test true text = do
  found ← str_at_front 0 text
  Some (None, found.1)
peer_at_front test false text = do
  found ← name_at_front test text
  Some (Some found.0, found.1)

-- so many values in a row
abbrev pub many_at_front : {A : Type 0} → (Text → Front A) → ℕ → Text → Front (List A)
many_at_front front zero text = Some ([], text)
many_at_front front (suc n) text = do
  head ← front text
  others ← many_at_front front n head.1
  Some (head.0 ∷ others.0, others.1)

-- the value at the front, where nothing stands behind it
abbrev pub value_if_whole : {A : Type 0} → Front A → Option A
value_if_whole None = None
value_if_whole (Some (value, [])) = Some value
value_if_whole (Some (value, b ∷ rest)) = None
