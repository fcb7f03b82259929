-- What stands in the JSON value of a script.
use Rattle.std.specs.Prelude.{ℕ, codes, Bool, false, List, [], ◌∷◌, Option, Some, None, option_map, option_and_then, unwrap_or, map, String, string_bytes}
use Rattle.std.specs.Borrow.{Bor}
use Rattle.std.specs.BTreeMap.{BTreeMap, keys}
use Rattle.std.specs.declared.alloc.Global.{Global}
use Rattle.serde_json.specs.Data.{Data, Items, no_items, item, Members, no_members, member}
use Rattle.serde_json.specs.Find.{get, at, as_array, as_number, as_str, as_u64}
use Rattle.serde_json.specs.View.{view}
use Rattle.serde_json.specs.declared.value.Value.{Value}
use Rattle.ibc_ids.specs.Texts.{Text}
use Rattle.ibc_lab.specs.declared.step_kind.StepKind.{StepKind}
use Rattle.ibc_lab.specs.Words.{kind_of}

-- there is a value, and it passes the test
abbrev pub passes : {A : Type 0} → (A → Bool) → Option A → Bool
passes test None = false
passes test (Some x) = test x

-- the items of an array
abbrev pub list_of : Items → List Data
list_of no_items = []
list_of (item d ds) = d ∷ list_of ds

-- the names of an object's members
abbrev pub names_of : Members → List Text
names_of no_members = []
names_of (member name d ms) = name ∷ names_of ms

-- the same of members as they are read
abbrev pub names_in : BTreeMap (String Global) Value → List Text
names_in members = map string_bytes (keys members)

-- the whole number below 2^64 that a value is
abbrev pub whole_number : Value → Option ℕ
whole_number value = option_and_then as_u64 (as_number (view value))

-- the text behind a reference
abbrev pub text_behind : Option (Bor Text) → Option Text
text_behind text = option_map (λ t. t.now) text

-- the items of a list, where the value is one
abbrev pub items_in : Data → Option (List Data)
items_in d = option_map list_of (as_array d)

-- the items of a list; none where the value is no list
abbrev pub items_of : Data → List Data
items_of d = unwrap_or (items_in d) []

-- the items of the member of this name; none where it is no list, or isn't there
abbrev pub items_of_found : Option Data → List Data
items_of_found None = []
items_of_found (Some d) = items_of d

abbrev pub items_at : Text → Data → List Data
items_at name d = items_of_found (get name d)

-- the text that the member of this name is
abbrev pub text_at : Text → Data → Option Text
text_at name d = option_and_then as_str (get name d)

-- the text that the item at a place of a list is
abbrev pub item_text : ℕ → Data → Option Text
item_text k d = option_and_then as_str (at k d)

-- the name that a chain's object gives
abbrev pub name_in : Data → Option Text
name_in d = text_at (codes "name") d

-- the kind that a step's object names
abbrev pub kind_in : Data → Option StepKind
kind_in d = option_and_then kind_of (text_at (codes "do") d)
