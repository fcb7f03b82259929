-- The bytes stand behind the place.
use Rattle.std.proofs.Common.{ap, ◌∙◌}
use Rattle.std.proofs.lemmas.Result.{IfOk-weaker}
use Rattle.ibc_node_lines.specs.OtherLines.{bytes_text}
use Rattle.ibc_node_lines.proofs.answers.kept_in.Goals as goal

pub returns : goal.returns
returns c =
    IfOk-weaker c.with_bytes.result _ _
    (λ text is. is ∙ ap (λ t. bytes_text t c.args.event.now c.args.answer.now c.args.digest.now) (c.as_str.ensures.value ∙ c.in_ok-front.ensures)) c.with_bytes.ensures
