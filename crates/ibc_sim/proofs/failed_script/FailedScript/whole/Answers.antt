-- Where all steps are kept, they are all written.
use Rattle.std.proofs.Common.{ℕ, List, Bool, true, map, replicate, string_bytes, sym, ap, ap₂, ◌∙◌}
use Rattle.ibc_ids.specs.Texts.{Text}
use Rattle.ibc_random_scripts.specs.ScriptTexts.{kept_steps, script_of}
use Rattle.ibc_random_scripts.proofs.ScriptLines.{all_are_kept}
use Rattle.ibc_sim.proofs.failed_script.FailedScript.whole.Goals as goal

pub returns-clause-text : goal.returns-clause-text
returns-clause-text c =
    let texts : List Text = map string_bytes c.as_slice-steps.result.now in
    let kept = c.as_slice.ensures.value ∙ c.in_ok-kept.ensures.all ∙ ap (λ (n : ℕ). replicate n true) (c.len-count.ensures ∙ sym c.as_slice-steps.ensures.len) in
    let all = ap (λ (k : List Bool). kept_steps k texts) kept ∙ all_are_kept string_bytes c.as_slice-steps.result.now in
    c.in_ok-text.ensures ∙ ap₂ script_of c.as_str.ensures.value (all ∙ ap (map string_bytes) c.as_slice-steps.ensures.value)
