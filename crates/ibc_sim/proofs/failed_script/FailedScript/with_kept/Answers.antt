-- The steps that are kept are written, and counted.
use Rattle.std.proofs.Common.{map, string_bytes, ap, ap₂, ◌∙◌}
use Rattle.ibc_random_scripts.specs.ScriptTexts.{kept_steps, script_of}
use Rattle.ibc_sim.proofs.failed_script.FailedScript.with_kept.Goals as goal

pub returns : goal.returns
returns c =
    let kept = c.args.kept.now in
    (kept, c.in_ok-text.ensures ∙ ap₂ script_of c.as_str.ensures.value (ap (λ l. kept_steps kept (map string_bytes l)) c.as_slice.ensures.value), c.kept_count-steps.ensures)
