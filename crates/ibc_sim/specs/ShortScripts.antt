-- Scripts that fail, as texts.
use Rattle.std.specs.Prelude.{◌≡◌, Bool, List, count_by, map, string_bytes}
use Rattle.ibc_ids.specs.Texts.{Text}
use Rattle.ibc_random_scripts.specs.ScriptTexts.{kept_steps, script_of}
use Rattle.ibc_sim.specs.declared.failed_script.FailedScript.{FailedScript}
use Rattle.ibc_sim.specs.declared.failed_script.ShortScript.{ShortScript}

-- with all of its steps
abbrev pub whole_text : FailedScript → Text
whole_text failed = script_of (string_bytes failed.head) (map string_bytes failed.steps.items)

-- it begins the same and has some of the steps, in their order; and it is told how many
abbrev pub IsShortened : FailedScript → ShortScript → Type 0
IsShortened failed short =
    (kept : List Bool)
    × (string_bytes short.text ≡ script_of (string_bytes failed.head) (kept_steps kept (map string_bytes failed.steps.items)))
    × (short.steps ≡ count_by (λ keeps. keeps) kept)
