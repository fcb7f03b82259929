-- What is said of a JSON value may be said of its text, and what is told is never nothing.
use Rattle.std.proofs.Common.{◌≡◌, ◌<◌, ◌≤◌, [], ◌∷◌, ◌++◌, List, length, Some, None, Ok, Err, Vec, Global, true, false, eqb, eqb-true, vec_len, ap, arith, inl, inr, refl, subst, sym, ◌∙◌}
use Rattle.std.proofs.lemmas.Bool.{eqb-false}
use Rattle.std.proofs.lemmas.Option.{same_Some}
use Rattle.std.specs.Prelude.{IfOk, IsUtf8, OnOk, Result, ◌≢◌}
use Rattle.serde_json.specs.Data.{Data}
use Rattle.serde_json.specs.Read.{read}
use Rattle.ibc_ids.specs.Texts.{Text}
use Rattle.ibc_script.specs.ScriptValues.{IsScript, IsScriptText, ScriptContent, content_of}
use Rattle.ibc_script.specs.declared.script.Script.{Script}
use Rattle.ibc_lab.specs.declared.checking.Verdict.{Verdict}
use Rattle.ibc_lab.specs.declared.checking.Verdict.TheVariants as verdict
use Rattle.ibc_lab.specs.declared.fault.ScriptFault.{ScriptFault}
use Rattle.ibc_lab.specs.declared.fault.FaultKind.{FaultKind}
use Rattle.ibc_lab.specs.declared.fault.FaultKind.TheVariants as wrong
use Rattle.ibc_lab.specs.declared.place.ScriptPart.TheVariants as part
use Rattle.ibc_lab.specs.declared.place.ScriptPlace.{ScriptPlace}
use Rattle.ibc_lab.specs.Faults.{fault_at, script_faults}
use Rattle.ibc_lab.specs.Places.{place_of}
use Rattle.ibc_lab.specs.Verdicts.{IsVerdict, IsVerdictOf, at_least_one, content_faults}
use Rattle.ibc_lab.proofs.Allowed.{allowed_where_nothing}

-- ---- something is told, or nothing

no_faults : (faults : List ScriptFault) → length faults ≡ 0 → faults ≡ []
no_faults [] none = refl
no_faults (fault ∷ faults) none = absurd (omega (arith, none))

pub empty : (faults : Vec ScriptFault Global) → eqb (vec_len faults) 0 ≡ true → faults.items ≡ []
empty faults none = no_faults faults.items (sym faults.ok.0 ∙ eqb-true (vec_len faults) 0 none)

pub filled : (faults : Vec ScriptFault Global) → eqb (vec_len faults) 0 ≡ false → faults.items ≢ []
filled faults some = λ none. eqb-false (vec_len faults) 0 some (faults.ok.0 ∙ ap length none)

-- faults that are some stay, and to none the one is added that the text is no script
pub some_stay : (faults : List ScriptFault) → faults ≢ [] → faults ≡ at_least_one faults
some_stay [] some = absurd (some refl)
some_stay (fault ∷ faults) some = refl

pub one_added : {A E : Type 0} (faults more : List ScriptFault) (place : ScriptPlace) (r : Result A E) → place ≡ place_of part.Script → faults ≡ []
    → OnOk r (more ≡ faults ++ fault_at place wrong.NoScript) → OnOk r (more ≡ at_least_one faults)
one_added faults more place (Ok a) at none is =
    is ∙ (λ i. none i ++ fault_at (at i) wrong.NoScript) ∙ ap at_least_one (sym none)
one_added faults more place (Err e) at none is = is

not_empty : (fault : ScriptFault) (faults told : List ScriptFault) → told ≡ fault ∷ faults → told ≢ []
not_empty fault faults told is = λ none. more_than_none fault faults (sym is ∙ none)
  where
    more_than_none : (f : ScriptFault) (fs : List ScriptFault) → f ∷ fs ≡ [] → ⊥
    more_than_none f fs none = absurd cc

some_told : (faults told : List ScriptFault) → told ≡ at_least_one faults → told ≢ []
some_told [] told is = not_empty (record { place = place_of part.Script; wrong = wrong.NoScript }) [] told is
some_told (fault ∷ faults) told is = not_empty fault faults told is

one_told : (what : FaultKind) (told : List ScriptFault) → told ≡ fault_at (place_of part.Script) what → told ≢ []
one_told what told is = not_empty (record { place = place_of part.Script; wrong = what }) [] told is

-- ---- texts

-- the value that a text is, is the script that the text is
pub script_of_value : (text : Text) (d : Data) (content : ScriptContent) → read text ≡ Some d → IsScriptText text content → IsScript content d
script_of_value text d content is its =
    subst (λ (v : Data). IsScript content v) (same_Some its.2 d (sym its.3 ∙ is)) its.4

said_of_text : (text : Text) (d : Data) → length text ≤ 1048576 → IsUtf8 text → read text ≡ Some d → (v : Verdict) → IsVerdictOf d v → IsVerdict text v
said_of_text text d few utf8 is (verdict.Good script) h = ((few, utf8, d, is, h.0), (d, is, h))
said_of_text text d few utf8 is (verdict.Bad faults) h = (h.0, inr (inr (d, is, h.1)))

pub verdict_of_text : {E : Type 0} (text : Text) (d : Data) → length text ≤ 1048576 → IsUtf8 text → read text ≡ Some d → (r : Result Verdict E)
    → IfOk r (IsVerdictOf d) → IfOk r (IsVerdict text)
verdict_of_text text d few utf8 is (Ok v) h = said_of_text text d few utf8 is v h
verdict_of_text text d few utf8 is (Err e) h = h

pub verdict_too_long : (text : Text) (faults : Vec ScriptFault Global) → 1048576 < length text
    → faults.items ≡ fault_at (place_of part.Script) wrong.TooLong → IsVerdict text (verdict.Bad faults)
verdict_too_long text faults far is = (one_told wrong.TooLong faults.items is, inl (far, is))

pub verdict_no_json : (text : Text) (faults : Vec ScriptFault Global) → (IsUtf8 text → read text ≡ None)
    → faults.items ≡ fault_at (place_of part.Script) wrong.NoJson → IsVerdict text (verdict.Bad faults)
verdict_no_json text faults none is = (one_told wrong.NoJson faults.items is, inr (inl (none, is)))

-- ---- values

pub verdict_unread : (d : Data) (faults : Vec ScriptFault Global) → faults.items ≡ at_least_one (script_faults d)
    → IsVerdictOf d (verdict.Bad faults)
verdict_unread d faults is = (some_told (script_faults d) faults.items is, inl is)

-- a script that was read, by the faults that were found
pub verdict_good : (d : Data) (script : Script) (faults : Vec ScriptFault Global) → IsScript (content_of script) d
    → faults.items ≡ content_faults (content_of script) d → eqb (vec_len faults) 0 ≡ true → IsVerdictOf d (verdict.Good script)
verdict_good d script faults its is none =
    let nothing = sym is ∙ empty faults none in
    (its, nothing, allowed_where_nothing (content_of script) d its nothing)

pub verdict_bad : (d : Data) (script : Script) (faults : Vec ScriptFault Global) → IsScript (content_of script) d
    → faults.items ≡ content_faults (content_of script) d → eqb (vec_len faults) 0 ≡ false → IsVerdictOf d (verdict.Bad faults)
verdict_bad d script faults its is some = (filled faults some, inr (content_of script, its, is))
