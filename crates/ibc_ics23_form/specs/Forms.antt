-- A proof as a cosmos.ics23.v1.CommitmentProof in canonical protobuf: fields in the order of their numbers, and none that is
-- at its default (ICS 23, "Proofs").
use Rattle.std.specs.Prelude.{◌≡◌, IsTrue, ℕ, List, [], ◌∷◌, ◌++◌, length, Option, Some, None}
use Rattle.ibc_ids.specs.Texts.{Text}
use Rattle.ibc_merkle.specs.Hash.{varint}
use Rattle.ibc_merkle.specs.declared.proof.Operation.{Operation}
use Rattle.ibc_merkle.specs.declared.proof.Presence.{Presence}
use Rattle.ibc_merkle.specs.declared.proof.Absence.{Absence}
use Rattle.ibc_merkle.specs.declared.proof.Proof.{Proof}
use Rattle.ibc_merkle.specs.declared.proof.Proof.TheVariants.{Present, Absent}
use Rattle.ibc_wire.specs.Fields.{Spells, have_form}
use Rattle.ibc_wire.specs.Spelling.{proof_fields}

-- a field of bytes, or of a message: its tag, which is 8 times its number and 2, and the content behind its length
abbrev pub delimited : ℕ → Text → Text
delimited tag content = tag ∷ varint (length content) ++ content

-- a field of bytes, which is left out where there are none
abbrev pub bytes_field : ℕ → Text → Text
bytes_field tag [] = []
bytes_field tag (c ∷ cs) = delimited tag (c ∷ cs)

-- "LeafOp": the leaf is hashed by SHA-256, its value before, and lengths are varints
abbrev pub leaf_front : Text
leaf_front = 8 ∷ 1 ∷ 24 ∷ 1 ∷ 32 ∷ 1 ∷ []

-- and the prefix
abbrev pub leaf_op : Text → Text
leaf_op prefix = leaf_front ++ bytes_field 42 prefix

-- "InnerOp": the node is hashed by SHA-256
abbrev pub inner_front : Text
inner_front = 8 ∷ 1 ∷ []

-- and what stands before the child's hash, and behind it
abbrev pub inner_op : Operation → Text
inner_op operation = inner_front ++ bytes_field 18 operation.prefix ++ bytes_field 26 operation.suffix

abbrev pub path_fields : List Operation → Text
path_fields [] = []
path_fields (operation ∷ operations) = delimited 34 (inner_op operation) ++ path_fields operations

-- "ExistenceProof": the key, the value, the leaf and the path
abbrev pub existence : Presence → Text
existence p =
    bytes_field 10 p.key ++ bytes_field 18 p.value ++ delimited 26 (leaf_op p.leaf_prefix) ++ path_fields p.operations

-- a neighbour, where there is one
abbrev pub neighbour_field : ℕ → Option Presence → Text
neighbour_field tag None = []
neighbour_field tag (Some p) = delimited tag (existence p)

-- "NonExistenceProof": the key, and its neighbours to the left and to the right
abbrev pub non_existence : Absence → Text
non_existence p = bytes_field 10 p.key ++ neighbour_field 18 p.left ++ neighbour_field 26 p.right

-- "CommitmentProof": field 1 of one that exists, field 2 of one that doesn't
unfoldable pub form_of : Proof → Text
form_of (Present p) = delimited 10 (existence p)
form_of (Absent p) = delimited 18 (non_existence p)

-- the one proof whose form this text is
pub record IsProofOf (text : Text) (proof : Proof) : Type 0 where
  pub form : form_of proof ≡ text
  pub alone : (other : Proof) → form_of other ≡ text → other ≡ proof

-- the text is the form of no proof that bytes spell
abbrev pub IsFormOfNone : Text → Type 0
IsFormOfNone text = (proof : Proof) → IsTrue (have_form (proof_fields proof)) → ¬ (form_of proof ≡ text)

-- the bytes spell the one proof whose form this text is
abbrev pub IsSpelledProofOf : Text → Text → Type 0
IsSpelledProofOf text bytes = (proof : Proof) × IsProofOf text proof × Spells (proof_fields proof) bytes
