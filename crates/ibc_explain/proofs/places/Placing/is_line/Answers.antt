-- The line is the text that is printed of the entry.
use Rattle.std.proofs.Common.{◌∙◌, ◌∷◌, ap, sym}
use Rattle.ibc_script.specs.EventKinds.{kind_name_of}
use Rattle.ibc_script.specs.declared.event_kind.EventKind.{EventKind}
use Rattle.ibc_script_cli.specs.Lines.{reply_words, spaced_words}
use Rattle.ibc_explain.proofs.places.Placing.is_line.Goals as goal

pub returns : goal.returns
returns c is =
    sym (c.is_same-is.ensures is) ∙ c.as_str.ensures.value ∙ c.in_ok-text.ensures.text
    ∙ ap (λ (k : EventKind). spaced_words (c.args.name.now ∷ kind_name_of k ∷ reply_words c.args.entry.now.reply)) c.event_kind.ensures
