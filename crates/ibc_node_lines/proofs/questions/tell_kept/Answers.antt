-- The texts are joined, and the node stays as it is.
use Rattle.std.proofs.Common.{◌∙◌, codes, map, string_bytes, ap}
use Rattle.ibc_node_lines.specs.OtherLines.{named_list}
use Rattle.ibc_node_lines.specs.Told.{joined}
use Rattle.ibc_node_lines.proofs.questions.tell_kept.Goals as goal

pub returns-clause-read : goal.returns-clause-read
returns-clause-read g c = c.in_ok-texts.ensures.read

pub returns-clause-kept : goal.returns-clause-kept
returns-clause-kept g c =
    let kept = c.in_ok-texts.ensures.kept in
    (kept.0, c.in_ok-list.ensures ∙ ap (λ l. named_list (codes "kept") (joined l)) (ap (map string_bytes) c.as_slice.ensures.value ∙ kept.1))
