use Rattle.std.proofs.Common.{◌+◌, sym, arith, length-drop}
use Rattle.std.proofs.lemmas.List.{take_rest}
use Rattle.ibc_ids.specs.Names.{is_slash}
use Rattle.ibc_ids.proofs.Splits.{part_and_rest}
use Rattle.ibc_ids.proofs.forms.split_at_slash.Goals as goal

pub returns-in-Some : goal.returns-in-Some
returns-in-Some c =
    let text = c.args.text.now in
    let at = c.in-Some.at in
    let found = part_and_rest is_slash text at (sym c.in-Some.ensures) in
    rw (take_rest text (at + 1)) (found.1, omega (arith, length-drop (at + 1) text, found.0))
