-- When a function on texts reads what fields spell.
use Rattle.std.specs.Prelude.{◌≡◌, nat_lt, ◌++◌, IsTrue, List, Some}
use Rattle.std.specs.List.{list_all}
use Rattle.ibc_ids.specs.Texts.{Text}
use Rattle.ibc_wire.specs.Fields.{Field, bytes_of, have_form}
use Rattle.ibc_wire.specs.Reading.{Front}

-- each element is a byte
abbrev pub AreBytes : Text → Type 0
AreBytes text = IsTrue (list_all (λ c. nat_lt c 256) text)

-- the text is the fields in their form, and then the rest
pub record Begins (fields : List Field) (text rest : Text) : Type 0 where
  pub form : IsTrue (have_form fields)
  pub is : text ≡ bytes_of fields ++ rest

-- what is read is spelled so, and what is spelled so is read, whatever stands behind it
pub record IsReader {A : Type 0} (fields : A → List Field) (front : Text → Front A) : Type 0 where
  pub spelled : (text : Text) (a : A) (rest : Text) → AreBytes text → front text ≡ Some (a, rest) → Begins (fields a) text rest
  pub read : (a : A) (text rest : Text) → Begins (fields a) text rest → front text ≡ Some (a, rest)
