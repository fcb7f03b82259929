-- What is wrong with the JSON value of a script, each fault with its place.
use Rattle.std.specs.Prelude.{◌≡◌, ℕ, ◌+◌, Bool, true, false, ◌&&◌, ◌||◌, ◌==◌, codes, List, [], ◌∷◌, ◌++◌, length, take, Option, Some, None, OnOk, Result, if◌then◌else◌}
use Rattle.std.specs.Global.{Vec}
use Rattle.std.specs.Str.{bytes_eq}
use Rattle.std.specs.Ordering.{nat_cmp, match_ordering}
use Rattle.std.specs.Cmp.Lexicographic.{slice_cmp}
use Rattle.serde_json.specs.Data.{Data, Members}
use Rattle.serde_json.specs.Find.{get, as_object}
use Rattle.ibc_ids.specs.Texts.{Text}
use Rattle.ibc_lab.specs.declared.fault.ScriptFault.{ScriptFault}
use Rattle.ibc_lab.specs.declared.fault.Tuple.{Tuple}
use Rattle.ibc_lab.specs.declared.fault.Tuple.TheVariants as tuple
use Rattle.ibc_lab.specs.declared.fault.FaultKind.{FaultKind}
use Rattle.ibc_lab.specs.declared.fault.FaultKind.TheVariants as wrong
use Rattle.ibc_lab.specs.declared.leaf.Leaf.{Leaf}
use Rattle.ibc_lab.specs.declared.leaf.Leaf.TheVariants as leaf
use Rattle.ibc_lab.specs.declared.member.Member.TheVariants as member
use Rattle.ibc_lab.specs.declared.owed.MemberForm.{MemberForm}
use Rattle.ibc_lab.specs.declared.owed.MemberForm.TheVariants as form
use Rattle.ibc_lab.specs.declared.owed.Owed.{Owed}
use Rattle.ibc_lab.specs.declared.place.ScriptPart.TheVariants as part
use Rattle.ibc_lab.specs.declared.place.ScriptPlace.{ScriptPlace}
use Rattle.ibc_lab.specs.declared.step_kind.StepKind.{StepKind}
use Rattle.ibc_lab.specs.Forms.{parts_of}
use Rattle.ibc_lab.specs.Leaves.{is_known, leaf_fits}
use Rattle.ibc_lab.specs.Places.{at_member, inside, place_of}
use Rattle.ibc_lab.specs.Tables.{chain_owes, kind_owed, script_owes, step_owes}
use Rattle.ibc_lab.specs.Values.{item_text, items_at, items_in, items_of, kind_in, name_in, names_of, passes}
use Rattle.ibc_lab.specs.Words.{member_name}

-- where it goes well, these faults stand behind those that were found before
abbrev pub Gains : {A E : Type 0} → Result A E → Vec ScriptFault → Vec ScriptFault → List ScriptFault → Type 0
Gains result old new faults = OnOk result (new.items ≡ old.items ++ faults)

abbrev pub fault_at : ScriptPlace → FaultKind → List ScriptFault
fault_at place what = record { place = place; wrong = what } ∷ []

-- a fault, unless something is so
abbrev pub unless : Bool → ScriptPlace → FaultKind → List ScriptFault
unless so place what = if so then [] else fault_at place what

-- ---- values without parts, and lists of a fixed number of them

abbrev pub leaf_faults : List Data → ScriptPlace → Leaf → Data → List ScriptFault
leaf_faults chains place l d = unless (leaf_fits chains l d) place (wrong.Leaf l)

-- each item has the form of its place, counted from k
abbrev pub parts_faults : List Data → ScriptPlace → ℕ → List Leaf → List Data → List ScriptFault
parts_faults chains place k [] ds = []
parts_faults chains place k (l ∷ ls) [] = []
parts_faults chains place k (l ∷ ls) (d ∷ ds) =
    leaf_faults chains (inside place k) l d ++ parts_faults chains place (k + 1) ls ds

abbrev pub tuple_faults_in : List Data → ScriptPlace → Tuple → Option (List Data) → List ScriptFault
tuple_faults_in chains place t None = fault_at place (wrong.Tuple t)
tuple_faults_in chains place t (Some ds) =
    if length ds == length (parts_of t) then parts_faults chains place 0 (parts_of t) ds else fault_at place (wrong.Tuple t)

abbrev pub tuple_faults : List Data → ScriptPlace → Tuple → Data → List ScriptFault
tuple_faults chains place t d = tuple_faults_in chains place t (items_in d)

-- ---- lists of any number of such lists

abbrev pub each_faults : List Data → ScriptPlace → Tuple → ℕ → List Data → List ScriptFault
each_faults chains place t k [] = []
each_faults chains place t k (d ∷ ds) =
    tuple_faults chains (inside place k) t d ++ each_faults chains place t (k + 1) ds

-- both are there, and are the same
abbrev pub are_one : Option Text → Option Text → Bool
are_one None b = false
are_one (Some a) None = false
are_one (Some a) (Some b) = bytes_eq a b

abbrev pub is_less : Text → Text → Bool
is_less a b = match_ordering (slice_cmp nat_cmp a b) true false false

-- the second is greater in byte order, where both are there
abbrev pub is_greater : Option Text → Option Text → Bool
is_greater None b = true
is_greater (Some a) None = true
is_greater (Some a) (Some b) = is_less a b

-- the denominations of tokens rise in byte order, behind a token and from the first on
abbrev pub rise_after : Data → List Data → Bool
rise_after last [] = true
rise_after last (d ∷ ds) = is_greater (item_text 0 last) (item_text 0 d) && rise_after d ds

abbrev pub rise : List Data → Bool
rise [] = true
rise (d ∷ ds) = rise_after d ds

abbrev pub rising_faults : ScriptPlace → List Data → List ScriptFault
rising_faults place ds = unless (rise ds) place wrong.NotRising

abbrev pub one_chain_faults : ScriptPlace → Data → List ScriptFault
one_chain_faults place d = if are_one (item_text 0 d) (item_text 1 d) then fault_at place wrong.OneChain else []

abbrev pub form_faults : List Data → ScriptPlace → MemberForm → Data → List ScriptFault
form_faults chains place (form.Leaf l) d = leaf_faults chains place l d
form_faults chains place form.Pair d = tuple_faults chains place tuple.Pair d ++ one_chain_faults place d
form_faults chains place form.Packet d = tuple_faults chains place tuple.Packet d
form_faults chains place form.Tokens d =
    leaf_faults chains place (leaf.List 1 8) d ++ each_faults chains place tuple.Token 0 (items_of d)
    ++ rising_faults place (items_of d)
form_faults chains place form.Balances d =
    leaf_faults chains place (leaf.List 0 18446744073709551615) d ++ each_faults chains place tuple.Balance 0 (items_of d)

-- ---- objects

-- a member that an object has to have
abbrev pub missing_faults : ScriptPlace → Owed → List ScriptFault
missing_faults place o = unless o.optional place (wrong.Missing o.member)

abbrev pub member_faults_in : List Data → ScriptPlace → Owed → Option Data → List ScriptFault
member_faults_in chains place o None = missing_faults place o
member_faults_in chains place o (Some d) = form_faults chains (at_member place o.member) o.form d

abbrev pub member_faults : List Data → ScriptPlace → Owed → Data → List ScriptFault
member_faults chains place o d = member_faults_in chains place o (get (member_name o.member) d)

abbrev pub members_faults : List Data → ScriptPlace → List Owed → Data → List ScriptFault
members_faults chains place [] d = []
members_faults chains place (o ∷ os) d = member_faults chains place o d ++ members_faults chains place os d

-- a member of this name is among those
abbrev pub is_owed : List Owed → Text → Bool
is_owed [] name = false
is_owed (o ∷ os) name = bytes_eq (member_name o.member) name || is_owed os name

-- members that an object may not have
abbrev pub unknown_faults : ScriptPlace → List Owed → List Text → List ScriptFault
unknown_faults place owed [] = []
unknown_faults place owed (name ∷ names) =
    unless (is_owed owed name) place (wrong.Unknown name) ++ unknown_faults place owed names

abbrev pub object_faults_in : List Data → ScriptPlace → List Owed → Data → Option Members → List ScriptFault
object_faults_in chains place owed d None = fault_at place wrong.Object
object_faults_in chains place owed d (Some members) =
    unknown_faults place owed (names_of members) ++ members_faults chains place owed d

abbrev pub object_faults : List Data → ScriptPlace → List Owed → Data → List ScriptFault
object_faults chains place owed d = object_faults_in chains place owed d (as_object d)

-- ---- chains, steps, and all

-- the chain's name is that of a chain before it
abbrev pub name_twice_faults : List Data → ℕ → Data → List ScriptFault
name_twice_faults chains k d =
    if passes (is_known (take k chains)) (name_in d) then fault_at (at_member (place_of (part.Chain k)) member.Name) wrong.NameTwice else []

abbrev pub chain_faults : List Data → ℕ → Data → List ScriptFault
chain_faults chains k d = object_faults chains (place_of (part.Chain k)) chain_owes d ++ name_twice_faults chains k d

abbrev pub chains_faults : List Data → ℕ → List Data → List ScriptFault
chains_faults chains k [] = []
chains_faults chains k (d ∷ ds) = chain_faults chains k d ++ chains_faults chains (k + 1) ds

-- of a step that names no kind nothing else is judged
abbrev pub kindless_faults : List Data → ScriptPlace → Data → Option Members → List ScriptFault
kindless_faults chains place d None = fault_at place wrong.Object
kindless_faults chains place d (Some _) = member_faults chains place kind_owed d

abbrev pub step_faults_of : List Data → ScriptPlace → Data → Option StepKind → List ScriptFault
step_faults_of chains place d None = kindless_faults chains place d (as_object d)
step_faults_of chains place d (Some kind) = object_faults chains place (step_owes kind) d

abbrev pub step_faults : List Data → ℕ → Data → List ScriptFault
step_faults chains k d = step_faults_of chains (place_of (part.Step k)) d (kind_in d)

abbrev pub steps_faults : List Data → ℕ → List Data → List ScriptFault
steps_faults chains k [] = []
steps_faults chains k (d ∷ ds) = step_faults chains k d ++ steps_faults chains (k + 1) ds

-- what is wrong with the value of a script
abbrev pub script_faults : Data → List ScriptFault
script_faults d =
    object_faults (items_at (codes "chains") d) (place_of part.Script) script_owes d
    ++ chains_faults (items_at (codes "chains") d) 0 (items_at (codes "chains") d)
    ++ steps_faults (items_at (codes "chains") d) 0 (items_at (codes "steps") d)
