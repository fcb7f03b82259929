-- The proof that bytes spell, if they spell one. A message's proof fields are bytes, and so are judged by it.
use Rattle.std.specs.Prelude.{◌≡◌, ◌<◌, ℕ, zero, suc, ◌↔◌, slice_index, nat_le, true, false, List, [], ◌∷◌, length, take, drop, Option, Some, None}
use Rattle.std.specs.Int.{w16, from_be_bytes}
use Rattle.ibc_ids.specs.Texts.{Text}
use Rattle.ibc_wire.specs.Fields.{Spells}
use Rattle.ibc_wire.specs.Spelling.{proof_fields}
use Rattle.ibc_merkle.specs.declared.proof.Operation.{Operation}
use Rattle.ibc_merkle.specs.declared.proof.Presence.{Presence}
use Rattle.ibc_merkle.specs.declared.proof.Proof.{Proof}
use Rattle.ibc_merkle.specs.declared.proof.Proof.TheVariants.{Present, Absent}

infixl 10 ◌>>=◌
abbrev pub ◌>>=◌ : {A B : Type 0} → Option A → (A → Option B) → Option B
None >>= f = None
(Some x) >>= f = f x

-- a value at the front of a text, and the text behind it
abbrev pub Front : Type 0 → Type 0
Front A = Option (A × Text)

-- one byte
abbrev pub byte_at_front : Text → Front ℕ
byte_at_front [] = None
byte_at_front (b ∷ rest) = Some (b, rest)

-- so many bytes
abbrev pub bytes_at_front : ℕ → Text → Front Text
bytes_at_front n text = elim (nat_le n (length text)) [ true ↦ Some (take n text, drop n text) | false ↦ None ]

-- a text of at most so many bytes behind its length
abbrev pub str_at_front : ℕ → Text → Front Text
str_at_front limit text = do
  size ← bytes_at_front 2 text
  let n = from_be_bytes w16 size.0
  elim (nat_le n limit) [ true ↦ bytes_at_front n size.1 | false ↦ None ]

abbrev pub operation_at_front : Text → Front Operation
operation_at_front text = do
  prefix ← str_at_front 64 text
  suffix ← str_at_front 64 prefix.1
  Some (record { prefix = prefix.0; suffix = suffix.0 }, suffix.1)

abbrev pub operations_at_front : ℕ → Text → Front (List Operation)
operations_at_front zero text = Some ([], text)
operations_at_front (suc n) text = do
  first ← operation_at_front text
  others ← operations_at_front n first.1
  Some (first.0 ∷ others.0, others.1)

abbrev pub presence_at_front : Text → Front Presence
presence_at_front text = do
  key ← str_at_front 256 text
  value ← str_at_front 512 key.1
  leaf_prefix ← str_at_front 64 value.1
  count ← byte_at_front leaf_prefix.1
  operations ← elim (nat_le count.0 64) [ true ↦ operations_at_front count.0 count.1 | false ↦ None ]
  Some (
    record { key = key.0; value = value.0; leaf_prefix = leaf_prefix.0; operations = operations.0 },
    operations.1,
  )

-- behind a 0 no neighbour, and behind a 1 one
abbrev pub neighbour_behind : ℕ → Text → Front (Option Presence)
neighbour_behind zero text = Some (None, text)
neighbour_behind (suc zero) text = do
  found ← presence_at_front text
  Some (Some found.0, found.1)
neighbour_behind (suc (suc n)) text = None

abbrev pub neighbour_at_front : Text → Front (Option Presence)
neighbour_at_front text = do
  flag ← byte_at_front text
  neighbour_behind flag.0 flag.1

abbrev pub proof_behind : ℕ → Text → Front Proof
proof_behind zero text = None
proof_behind (suc zero) text = do
  found ← presence_at_front text
  Some (Present found.0, found.1)
proof_behind (suc (suc zero)) text = do
  key ← str_at_front 256 text
  left ← neighbour_at_front key.1
  right ← neighbour_at_front left.1
  Some (Absent (record { key = key.0; left = left.0; right = right.0 }), right.1)
proof_behind (suc (suc (suc n))) text = None

-- nothing may stand behind a proof
abbrev pub proof_if_whole : Proof × Text → Option Proof
proof_if_whole (proof, []) = Some proof
proof_if_whole (proof, b ∷ rest) = None

unfoldable pub proof_of : Text → Option Proof
proof_of text = do
  tag ← byte_at_front text
  found ← proof_behind tag.0 tag.1
  proof_if_whole found

-- what is read is spelled so, and what is spelled so is read; texts are of bytes
abbrev pub ReadsWhatIsSpelled : Type 0
ReadsWhatIsSpelled = (p : Proof) (text : Text) → ((i : ℕ) → i < length text → slice_index text i < 256)
    → (proof_of text ≡ Some p) ↔ Spells (proof_fields p) text
