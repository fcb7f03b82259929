-- The parts of the encodings (this project's profile, in place of protobuf). A value is written as its
-- fields in order; a field has its bytes, and a test that it has its form.
use Rattle.std.specs.Prelude.{◌≡◌, ℕ, ◌^◌, ◌==◌, Bool, true, ◌&&◌, nat_lt, nat_le, IsTrue, List, [], ◌∷◌, ◌++◌, length}
use Rattle.std.specs.List.{flat_map, list_all}
use Rattle.std.specs.Int.{w16, w64, w128, to_be_bytes}
use Rattle.ibc_ids.specs.Texts.{Text}

-- what its type promises of it (a number's range, a name's form, that texts are of bytes), and what a
-- spelling asks beyond that
pub record Field : Type 0 where
  pub bytes : Text
  pub in_type : Bool
  pub in_form : Bool

-- one byte
abbrev pub one_byte : ℕ → Field
one_byte n = record { bytes = n ∷ []; in_type = nat_lt n 256; in_form = true }

-- a whole number, 8 bytes big-endian
abbrev pub be64 : ℕ → Field
be64 n = record { bytes = to_be_bytes w64 n; in_type = nat_lt n (2 ^ 64); in_form = true }

-- an amount, 16 bytes big-endian
abbrev pub be128 : ℕ → Field
be128 n = record { bytes = to_be_bytes w128 n; in_type = nat_lt n (2 ^ 128); in_form = true }

-- a text behind its length
abbrev pub with_length : Text → Text
with_length text = to_be_bytes w16 (length text) ++ text

-- a name behind its length
abbrev pub name : (Text → Bool) → Text → Field
name test text = record { bytes = with_length text; in_type = test text; in_form = true }

-- a text of so many bytes at most behind its length
abbrev pub str_up_to : ℕ → Text → Field
str_up_to limit text =
    record {
      bytes = with_length text;
      in_type = list_all (λ c. nat_lt c 256) text;
      in_form = nat_le (length text) limit;
    }

-- any text behind its length
abbrev pub str : Text → Field
str = str_up_to 65535

-- 32 bytes
abbrev pub root32 : Text → Field
root32 text =
    record { bytes = text; in_type = (length text == 32) && list_all (λ c. nat_lt c 256) text; in_form = true }

-- no bytes, where something holds of the value
abbrev pub form_condition : Bool → Field
form_condition holds = record { bytes = []; in_type = true; in_form = holds }

-- how many things stand behind it, in one byte
abbrev pub count_between : ℕ → ℕ → ℕ → Field
count_between least most n =
    record { bytes = n ∷ []; in_type = true; in_form = nat_le least n && nat_le n most }

-- the fields are what their types promise
abbrev pub are_typed : List Field → Bool
are_typed = list_all (λ field. field.in_type)

-- the fields have a spelling
abbrev pub have_form : List Field → Bool
have_form = list_all (λ field. field.in_type && field.in_form)

-- the fields in order
abbrev pub bytes_of : List Field → Text
bytes_of = flat_map (λ field. field.bytes)

-- the text spells the fields
abbrev pub Spells : List Field → Text → Type 0
Spells fields text = IsTrue (have_form fields) × (text ≡ bytes_of fields)

-- No text spells two values of a type.
abbrev pub HasOneValue : {A : Type 0} → (A → List Field) → Type 0
HasOneValue {A} fields = (a b : A) (text : Text) → Spells (fields a) text → Spells (fields b) text → a ≡ b
