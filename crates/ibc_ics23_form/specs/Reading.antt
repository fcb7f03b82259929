-- The proof whose form a text may be: fields are cut out one after another. What is cut out counts only where the text is its form.
use Rattle.std.specs.Prelude.{ℕ, zero, suc, ◌+◌, ◌*◌, ◌-◌, ◌%◌, ◌^◌, ◌==◌, nat_lt, bytes_eq, List, [], ◌∷◌, ◌++◌, length, Option, Some, None, if◌then◌else◌}
use Rattle.ibc_ids.specs.Texts.{Text}
use Rattle.ibc_merkle.specs.declared.proof.Operation.{Operation}
use Rattle.ibc_merkle.specs.declared.proof.Presence.{Presence}
use Rattle.ibc_merkle.specs.declared.proof.Absence.{Absence}
use Rattle.ibc_merkle.specs.declared.proof.Proof.{Proof}
use Rattle.ibc_merkle.specs.declared.proof.Proof.TheVariants.{Present, Absent}
use Rattle.ibc_wire.specs.Reading.{◌>>=◌, Front, bytes_at_front}
use Rattle.ibc_ics23_form.specs.Forms.{leaf_front, inner_front}

-- the number at the front, of at most so many bytes and one, and below 2 ^ 63
unfoldable pub varint_at_front : ℕ → Text → Front ℕ
varint_at_front more [] = None
varint_at_front more (b ∷ rest) =
    if nat_lt b 128 then Some (b, rest)
    else if more == 0 then None
    else (do
      higher ← varint_at_front (more - 1) rest
      if nat_lt higher.0 (2 ^ 56) then Some (b % 128 + 128 * higher.0, higher.1) else None)

-- the content of the field of this tag
unfoldable pub delimited_at_front : ℕ → Text → Front Text
delimited_at_front tag [] = None
delimited_at_front tag (b ∷ rest) =
    if b == tag then (do
      size ← varint_at_front 8 rest
      bytes_at_front size.0 size.1)
    else None

-- the content of the field of this tag, and none where the field is left out
unfoldable pub content_at_front : ℕ → Text → Front Text
content_at_front tag [] = Some ([], [])
content_at_front tag (b ∷ rest) = if b == tag then delimited_at_front tag (b ∷ rest) else Some ([], b ∷ rest)

-- what stands behind the bytes that have to stand in front
unfoldable pub behind : Text → Text → Option Text
behind front text = do
  found ← bytes_at_front (length front) text
  if bytes_eq found.0 front then Some found.1 else None

unfoldable pub operation_in : Text → Option Operation
operation_in text = do
  marked ← behind inner_front text
  prefix ← content_at_front 18 marked
  suffix ← content_at_front 26 prefix.1
  Some (record { prefix = prefix.0; suffix = suffix.0 })

unfoldable pub operation_at_front : Text → Front Operation
operation_at_front text = do
  node ← delimited_at_front 34 text
  operation ← operation_in node.0
  Some (operation, node.1)

-- the operations behind those that were cut out already; at most so many
unfoldable pub path_behind : Text → ℕ → List Operation → Option (List Operation)
path_behind [] most done = Some done
path_behind (b ∷ rest) zero done = None
path_behind (b ∷ rest) (suc most) done = do
  next ← operation_at_front (b ∷ rest)
  path_behind next.1 most (done ++ next.0 ∷ [])

unfoldable pub leaf_prefix_in : Text → Option Text
leaf_prefix_in text = do
  marked ← behind leaf_front text
  prefix ← content_at_front 42 marked
  Some prefix.0

unfoldable pub presence_in : Text → Option Presence
presence_in text = do
  key ← content_at_front 10 text
  value ← content_at_front 18 key.1
  leaf ← delimited_at_front 26 value.1
  leaf_prefix ← leaf_prefix_in leaf.0
  operations ← path_behind leaf.1 64 []
  Some (record { key = key.0; value = value.0; leaf_prefix = leaf_prefix; operations = operations })

unfoldable pub neighbour_at_front : ℕ → Text → Front (Option Presence)
neighbour_at_front tag [] = Some (None, [])
neighbour_at_front tag (b ∷ rest) =
    if b == tag then (do
      found ← delimited_at_front tag (b ∷ rest)
      shown ← presence_in found.0
      Some (Some shown, found.1))
    else Some (None, b ∷ rest)

unfoldable pub absence_in : Text → Option Absence
absence_in text = do
  key ← content_at_front 10 text
  left ← neighbour_at_front 18 key.1
  right ← neighbour_at_front 26 left.1
  Some (record { key = key.0; left = left.0; right = right.0 })

-- a presence in field 1, an absence in field 2
unfoldable pub proof_in : Text → Option Proof
proof_in [] = None
proof_in (b ∷ rest) =
    if b == 10 then (do
      content ← delimited_at_front 10 (b ∷ rest)
      shown ← presence_in content.0
      Some (Present shown))
    else (do
      content ← delimited_at_front 18 (b ∷ rest)
      shown ← absence_in content.0
      Some (Absent shown))
