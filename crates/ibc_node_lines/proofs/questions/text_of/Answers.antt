-- The bytes spell the message.
use Rattle.std.proofs.Common.{◌∙◌, List, ℕ, ap}
use Rattle.hex.specs.Hex.{encode_lower}
use Rattle.ibc_node_lines.specs.QuestionAnswers.{quoted_text}
use Rattle.ibc_node_lines.proofs.questions.text_of.Goals as goal

pub returns-in_ok-in_quotes-in-Ok : goal.returns-in_ok-in_quotes-in-Ok
returns-in_ok-in_quotes-in-Ok c = c.in_ok-in_quotes-in-Ok.ensures ∙ ap (λ (bytes : List ℕ). quoted_text (encode_lower bytes)) (c.as_slice.ensures.value ∙ c.in-Ok.ensures.ok.1)
