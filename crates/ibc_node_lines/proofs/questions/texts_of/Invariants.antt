use Rattle.std.proofs.Common.{◌≡◌, map, take, string_bytes}
use Rattle.ibc_node_lines.specs.QuestionAnswers.{message_text}
use Rattle.ibc_node_lines.proofs.questions.texts_of.Given as goal

abbrev pub invariant-loop-message : goal.invariant-loop-message
invariant-loop-message l = map string_bytes l.texts.items ≡ map message_text (take l.message-index l.messages)
