-- The line's beginning, and then the step.
use Rattle.std.proofs.Common.{◌++◌, string_bytes, ap, ◌∙◌, append_assoc}
use Rattle.ibc_random_scripts.specs.ScriptTexts.{before_step}
use Rattle.ibc_random_scripts.proofs.ScriptLines.{added}
use Rattle.ibc_random_scripts.proofs.script_texts.add_step.Goals as goal

pub returns : goal.returns
returns c =
    let old = string_bytes c.args.text.now in
    let step = c.args.step.now in
    let between = c.in_ok-push_str.ensures.bytes ∙ ap (λ t. old ++ t) c.before_step-between.ensures in
    let all = ap (λ t. t ++ step) between ∙ append_assoc old (before_step c.args.is_first) step in
    added c.push_str-2.result _ step _ (string_bytes c.push_str-2.new.self) all c.push_str-2.ensures.bytes
