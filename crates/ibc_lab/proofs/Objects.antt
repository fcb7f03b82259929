-- What is told of an object, and of a chain whose name none before it has.
use Rattle.std.proofs.Common.{◌≡◌, ◌∙◌, ℕ, ◌++◌, Bool, false, cond, [], List, Ok, Err, Some, Option, String, Global, ap, append_assoc, append-nil, map, string_bytes, sym, take}
use Rattle.std.specs.Prelude.{OnOk, Result}
use Rattle.std.specs.Map.{keys_of}
use Rattle.serde_json.specs.Data.{Data, Members}
use Rattle.serde_json.specs.Find.{as_object}
use Rattle.serde_json.specs.View.{members_view}
use Rattle.serde_json.specs.declared.value.Value.{Value}
use Rattle.ibc_ids.specs.Texts.{Text}
use Rattle.ibc_lab.specs.declared.fault.FaultKind.TheVariants as wrong
use Rattle.ibc_lab.specs.declared.fault.ScriptFault.{ScriptFault}
use Rattle.ibc_lab.specs.declared.member.Member.TheVariants as member
use Rattle.ibc_lab.specs.declared.owed.Owed.{Owed}
use Rattle.ibc_lab.specs.declared.place.ScriptPart.TheVariants as part
use Rattle.ibc_lab.specs.declared.place.ScriptPlace.{ScriptPlace}
use Rattle.ibc_lab.specs.Faults.{fault_at, members_faults, name_twice_faults, object_faults, object_faults_in, unknown_faults}
use Rattle.ibc_lab.specs.Leaves.{is_known}
use Rattle.ibc_lab.specs.Places.{at_member, place_of}
use Rattle.ibc_lab.specs.Values.{name_in, passes}
use Rattle.ibc_lab.proofs.Lists.{names_in_map}

-- the members that it may not have, and then those that it owes
pub object_told : {A E : Type 0} (chains : List Data) (place : ScriptPlace) (owed : List Owed) (d : Data) (es : List (String Global × Value)) (r : Result A E)
    → (found unknown all : List ScriptFault) → Some (members_view es) ≡ as_object d
    → unknown ≡ found ++ unknown_faults place owed (map string_bytes (keys_of es))
    → OnOk r (all ≡ unknown ++ members_faults chains place owed d) → OnOk r (all ≡ found ++ object_faults chains place owed d)
object_told chains place owed d es (Ok a) found unknown all there first rest =
    let owes = members_faults chains place owed d in
    let names = map string_bytes (keys_of es) in
    rest ∙ ap (λ (l : List ScriptFault). l ++ owes) first ∙ append_assoc found (unknown_faults place owed names) owes
    ∙ ap (λ (l : List Text). found ++ (unknown_faults place owed l ++ owes)) (sym (names_in_map es))
    ∙ ap (λ (o : Option Members). found ++ object_faults_in chains place owed d o) there
object_told chains place owed d es (Err e) found unknown all there first rest = rest

pub not_twice : (chains before : List Data) (k : ℕ) (d : Data) (found : List ScriptFault) (known : Bool) → before ≡ take k chains
    → known ≡ passes (is_known before) (name_in d) → known ≡ false → found ≡ found ++ name_twice_faults chains k d
not_twice chains before k d found known front is unknown =
    let none : passes (is_known (take k chains)) (name_in d) ≡ false =
    ap (λ (l : List Data). passes (is_known l) (name_in d)) (sym front) ∙ sym is ∙ unknown in
    sym (append-nil found)
    ∙ ap (λ (b : Bool). found ++ cond b (fault_at (at_member (place_of (part.Chain k)) member.Name) wrong.NameTwice) []) (sym none)
