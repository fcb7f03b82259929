use Rattle.std.proofs.Common.{◌-◌, ◌%◌, length, refl, ◌∙◌}
use Rattle.std.proofs.lemmas.List.{take_rest}
use Rattle.ibc_lanes.proofs.Ends.{ended}
use Rattle.ibc_lanes.proofs.texts.padded_end.Goals as goal

pub returns : goal.returns
returns c =
    let text = c.args.text.now in
    ended text _ _ _ _ refl
    (c.copy_from_slice.ensures.after ∙ take_rest text (length text - length text % 64)) (c.copy_from_slice-2.ensures.after ∙ c.to_be_bytes.ensures)
