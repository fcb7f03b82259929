-- What is added depends on whether the step is kept.
use Rattle.std.proofs.Common.{◌++◌, [], Bool, false, string_bytes, sym, ap, ◌∙◌, append-nil}
use Rattle.std.specs.Prelude.{if◌then◌else◌}
use Rattle.ibc_random_scripts.specs.ScriptTexts.{with_step}
use Rattle.ibc_random_scripts.proofs.script_texts.add_if.Goals as goal

pub returns-then-keeps-clause-first : goal.returns-then-keeps-clause-first
returns-then-keeps-clause-first c = ap (λ (keeps : Bool). if keeps then false else c.args.is_first) (sym c.if-keeps.true)

pub returns-then-keeps-clause-added : goal.returns-then-keeps-clause-added
returns-then-keeps-clause-added c =
    c.in_ok-add_step.ensures
    ∙ ap (λ (keeps : Bool). string_bytes c.args.text.now ++ (if keeps then with_step c.args.is_first c.args.step.now else [])) (sym c.if-keeps.true)

pub returns-clause-first : goal.returns-clause-first
returns-clause-first c = ap (λ (keeps : Bool). if keeps then false else c.args.is_first) (sym c.if-keeps.false)

pub returns-clause-added : goal.returns-clause-added
returns-clause-added c =
    sym (append-nil (string_bytes c.args.text.now))
    ∙ ap (λ (keeps : Bool). string_bytes c.args.text.now ++ (if keeps then with_step c.args.is_first c.args.step.now else [])) (sym c.if-keeps.false)
