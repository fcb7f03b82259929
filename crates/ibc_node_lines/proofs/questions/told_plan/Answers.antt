-- Message by message.
use Rattle.std.proofs.Common.{◌∙◌, map, string_bytes, ap}
use Rattle.std.specs.Prelude.{codes}
use Rattle.ibc_node_lines.specs.OtherLines.{named_list}
use Rattle.ibc_node_lines.specs.Told.{joined}
use Rattle.ibc_node_lines.proofs.questions.told_plan.Goals as goal

pub returns : goal.returns
returns c = c.in_ok-list.ensures ∙ ap (λ l. named_list (codes "plan") (joined l)) (ap (map string_bytes) c.as_slice.ensures.value ∙ c.in_ok-texts.ensures)
