-- Whether there is one text tells how they stand in the line.
use Rattle.std.proofs.Common.{ap₂, ◌∙◌}
use Rattle.std.proofs.lemmas.Result.{IfOk-weaker}
use Rattle.ibc_node_lines.specs.Told.{answers_text}
use Rattle.ibc_node_lines.proofs.lines.told.Goals as goal

pub returns : goal.returns
returns c = IfOk-weaker c.in_line.result _ _ (λ text is. is ∙ ap₂ answers_text c.is_alone.ensures (c.as_str.ensures.value ∙ c.in_ok-list.ensures)) c.in_line.ensures
