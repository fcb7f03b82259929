-- Lists of values, the names of an object's members, and the parts of a path.
use Rattle.std.proofs.Common.{◌≡◌, ℕ, List, [], ◌∷◌, length, take, map, string_bytes, false, String, Global, refl, ap}
use Rattle.std.proofs.lemmas.List.{length-map, take-map}
use Rattle.std.specs.Prelude.{◌≢◌}
use Rattle.std.specs.Map.{keys_of}
use Rattle.serde_json.specs.Data.{Data}
use Rattle.serde_json.specs.View.{view, items_of, members_view}
use Rattle.serde_json.specs.declared.value.Value.{Value}
use Rattle.ibc_ids.specs.Texts.{Text}
use Rattle.ibc_lab.specs.Texts.{is_last_sequence}
use Rattle.ibc_lab.specs.Values.{list_of, names_of}

-- a list that goes into an array comes out
pub list_of-items_of : (ds : List Data) → list_of (items_of ds) ≡ ds
list_of-items_of [] = refl
list_of-items_of (d ∷ ds) = ap (λ rest. d ∷ rest) (list_of-items_of ds)

pub length_of_views : (vs : List Value) → length (map view vs) ≡ length vs
length_of_views vs = length-map vs view

pub take_of_views : (k : ℕ) (vs : List Value) → take k (map view vs) ≡ map view (take k vs)
take_of_views k vs = take-map view k vs

-- the names of an object's members are the keys of its map
pub names_in_map : (es : List (String Global × Value)) → names_of (members_view es) ≡ map string_bytes (keys_of es)
names_in_map [] = refl
names_in_map (e ∷ es) = ap (λ rest. string_bytes e.0 ∷ rest) (names_in_map es)

-- a sequence with a part behind it isn't the last
pub no_last : (sequence : Text) (parts : List Text) → parts ≢ [] → is_last_sequence (sequence ∷ parts) ≡ false
no_last sequence [] h = absurd (h refl)
no_last sequence (part ∷ parts) h = refl
