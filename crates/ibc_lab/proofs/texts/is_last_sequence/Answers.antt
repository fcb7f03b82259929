use Rattle.std.proofs.Common.{sym, ap, ◌∙◌}
use Rattle.std.specs.List.{slice_split}
use Rattle.ibc_ids.specs.Names.{is_slash}
use Rattle.ibc_ids.proofs.Splits.{some_part}
use Rattle.ibc_lab.specs.Texts.{is_last_sequence}
use Rattle.ibc_lab.proofs.Lists.{no_last}
use Rattle.ibc_lab.proofs.texts.is_last_sequence.Goals as goal

-- behind the slash stands another part
pub returns-in-Some : goal.returns-in-Some
returns-in-Some c =
    let parts = c.in-Some.field-0 in
    sym (ap is_last_sequence c.in-Some.ensures ∙ no_last parts.0.now (slice_split is_slash parts.1.now) (some_part parts.1.now))
