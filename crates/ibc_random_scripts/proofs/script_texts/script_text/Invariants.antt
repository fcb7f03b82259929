-- The lines so far, with those of the steps that are left, are all lines.
use Rattle.std.proofs.Common.{◌≡◌, ◌++◌, true, drop, map, string_bytes}
use Rattle.ibc_random_scripts.specs.ScriptTexts.{kept_steps, step_lines}
use Rattle.ibc_random_scripts.proofs.script_texts.script_text.Given as goal

abbrev pub invariant-loop-place : goal.invariant-loop-place
invariant-loop-place l =
    string_bytes l.text ++ step_lines l.is_first (kept_steps (drop l.place l.kept) (map string_bytes (drop l.place l.steps)))
    ≡ l.fn.head ++ step_lines true (kept_steps l.kept (map string_bytes l.steps))
