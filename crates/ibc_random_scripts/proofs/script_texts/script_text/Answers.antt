-- Step by step; then the end is written.
use Rattle.std.proofs.Common.{◌<◌, ◌+◌, [], ◌++◌, Bool, true, false, List, length, drop, map, string_bytes, ap, ap₂, ◌∙◌, append_assoc, arith, codes}
use Rattle.std.specs.Prelude.{if◌then◌else◌}
use Rattle.ibc_ids.specs.Texts.{Text}
use Rattle.ibc_random_scripts.specs.ScriptTexts.{kept_steps, step_lines, with_step}
use Rattle.ibc_random_scripts.proofs.ScriptLines.{lines_more, lines_all}
use Rattle.ibc_random_scripts.proofs.script_texts.script_text.Goals as goal

pub loop-place-init : goal.loop-place-init
loop-place-init c =
    ap (λ (text : Text). text ++ step_lines true (kept_steps c.args.kept.now (map string_bytes c.args.steps.now))) c.in_ok-text.ensures.ok

pub loop-place-preserved : goal.loop-place-preserved
loop-place-preserved c =
    let at = c.loop-place in
    let kept = c.args.kept.now in
    let steps = c.args.steps.now in
    let it = c.index-steps-place.result in
    let old : Text = string_bytes at.text in
    let left : List Text = kept_steps (drop (at.place + 1) kept) (map string_bytes (drop (at.place + 1) steps)) in
    let low : at.place < length steps = omega (arith, c.loop-place-test.true) in
    let text = c.in_ok-is_first.ensures.added
    ∙ ap₂ (λ (keeps : Bool) (step : Text). old ++ (if keeps then with_step at.is_first step else [])) c.is_kept-keeps.ensures c.as_str.ensures.value in
    let first = c.in_ok-is_first.ensures.first ∙ ap (λ (keeps : Bool). if keeps then false else at.is_first) c.is_kept-keeps.ensures in
    ap₂ (λ (text : Text) (first : Bool). text ++ step_lines first left) text first
    ∙ lines_more string_bytes at.is_first kept steps at.place it old low c.index-steps-place.is ∙ at.invariant

pub returns : goal.returns
returns c =
    let at = c.loop-place in
    let lines : Text = step_lines true (kept_steps c.args.kept.now (map string_bytes c.args.steps.now)) in
    let all = lines_all string_bytes at.is_first c.args.kept.now c.args.steps.now at.place (string_bytes at.text) (c.args.head.now ++ lines)
    (omega (arith, c.loop-place-test.false)) at.invariant in
    c.in_ok-push_str.ensures.bytes ∙ ap (λ (text : Text). text ++ codes "]}\n") all ∙ append_assoc c.args.head.now lines (codes "]}\n")
