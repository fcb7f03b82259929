-- The event, the answer and the digest are told in hex.
use Rattle.std.proofs.Common.{ap, ◌∙◌}
use Rattle.std.proofs.lemmas.Result.{IfOk-weaker}
use Rattle.hex.specs.Hex.{encode_lower}
use Rattle.ibc_journal.specs.Entries.{item}
use Rattle.ibc_node_lines.specs.OtherLines.{kept_text}
use Rattle.ibc_node_lines.proofs.answers.kept.Goals as goal

pub returns : goal.returns
returns c =
    let it = item c.args.entry.now in
    let place = c.args.place in
    let event = c.as_str.ensures.value ∙ c.in_ok-event.ensures ∙ ap encode_lower c.as_slice.ensures.value in
    let answer = c.as_str-2.ensures.value ∙ c.in_ok-answer.ensures ∙ ap encode_lower c.as_slice-2.ensures.value in
    let digest = c.as_str-3.ensures.value ∙ c.in_ok-digest.ensures ∙ ap encode_lower c.as_slice-3.ensures.value in
    IfOk-weaker c.kept_in.result _ _
    (λ text is. is ∙ ap (λ t. kept_text place it t c.as_str-2.result.now c.as_str-3.result.now) event ∙ ap (λ t. kept_text place it (encode_lower it.event) t c.as_str-3.result.now) answer
    ∙ ap (λ t. kept_text place it (encode_lower it.event) (encode_lower it.answer) t) digest) c.kept_in.ensures
