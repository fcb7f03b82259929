-- What may be said of a text.
use Rattle.std.specs.Prelude.{◌≡◌, ◌≢◌, ◌<◌, ◌⊎◌, IsTrue, IsUtf8, List, [], ◌∷◌, ◌++◌, length, Some, None}
use Rattle.serde_json.specs.Data.{Data}
use Rattle.serde_json.specs.Read.{read}
use Rattle.serde_json.specs.View.{view}
use Rattle.serde_json.specs.declared.value.Value.{Value}
use Rattle.ibc_ids.specs.Texts.{Text}
use Rattle.ibc_machine.specs.chain.Genesis.{genesis_state, is_allowed}
use Rattle.ibc_machine.specs.declared.genesis.Genesis.{Genesis}
use Rattle.ibc_script.specs.ScriptValues.{IsScript, IsScriptText, ScriptContent, content_of}
use Rattle.ibc_lab.specs.declared.checking.Verdict.{Verdict}
use Rattle.ibc_lab.specs.declared.checking.Verdict.TheVariants as verdict
use Rattle.ibc_lab.specs.declared.fault.ScriptFault.{ScriptFault}
use Rattle.ibc_lab.specs.declared.fault.FaultKind.TheVariants as wrong
use Rattle.ibc_lab.specs.declared.place.ScriptPart.TheVariants as part
use Rattle.ibc_lab.specs.Faults.{fault_at, script_faults}
use Rattle.ibc_lab.specs.GenesisFaults.{genesis_faults}
use Rattle.ibc_lab.specs.Places.{place_of}

-- these faults, or, where there are none, that it is no script
abbrev pub at_least_one : List ScriptFault → List ScriptFault
at_least_one [] = fault_at (place_of part.Script) wrong.NoScript
at_least_one (f ∷ fs) = f ∷ fs

-- what is wrong with a value that is this script
abbrev pub content_faults : ScriptContent → Data → List ScriptFault
content_faults content d = script_faults d ++ genesis_faults content.genesis

-- what is wrong with a value and with a genesis
abbrev pub faults_with : Value → Genesis → List ScriptFault
faults_with value genesis = script_faults (view value) ++ genesis_faults (genesis_state genesis)

-- the value is this script, nothing is wrong with it, and its genesis is allowed
abbrev pub IsGoodScript : ScriptContent → Data → Type 0
IsGoodScript content d = IsScript content d × (content_faults content d ≡ []) × IsTrue (is_allowed content.genesis)

-- the faults of a value that wasn't read as a script, or of one that is this script
abbrev pub AreValueFaults : Data → List ScriptFault → Type 0
AreValueFaults d faults =
    (faults ≡ at_least_one (script_faults d)) ⊎ ((content : ScriptContent) × IsScript content d × (faults ≡ content_faults content d))

-- what may be said of a JSON value: it is this script, or it has faults
abbrev pub IsVerdictOf : Data → Verdict → Type 0
IsVerdictOf d (verdict.Good script) = IsGoodScript (content_of script) d
IsVerdictOf d (verdict.Bad faults) = (faults.items ≢ []) × AreValueFaults d faults.items

-- the faults of a text that is too long, that is no JSON, or that is a JSON value
abbrev pub AreFaultsOf : Text → List ScriptFault → Type 0
AreFaultsOf text faults =
    ((1048576 < length text) × (faults ≡ fault_at (place_of part.Script) wrong.TooLong))
    ⊎ (((IsUtf8 text → read text ≡ None) × (faults ≡ fault_at (place_of part.Script) wrong.NoJson))
    ⊎ ((d : Data) × (read text ≡ Some d) × AreValueFaults d faults))

-- what may be said of a text: it is this script, in which nothing is wrong, or it has faults
abbrev pub IsVerdict : Text → Verdict → Type 0
IsVerdict text (verdict.Good script) =
    IsScriptText text (content_of script) × ((d : Data) × (read text ≡ Some d) × IsGoodScript (content_of script) d)
IsVerdict text (verdict.Bad faults) = (faults.items ≢ []) × AreFaultsOf text faults.items
