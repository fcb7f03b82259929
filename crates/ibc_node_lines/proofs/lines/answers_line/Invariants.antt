use Rattle.std.proofs.Common.{map, take, string_bytes}
use Rattle.std.specs.List.{AllZip}
use Rattle.ibc_node_lines.specs.Told.{IsAnswerText}
use Rattle.ibc_node_lines.proofs.lines.answers_line.Given as goal

abbrev pub invariant-loop-chain : goal.invariant-loop-chain
invariant-loop-chain l = AllZip IsAnswerText (take l.chain-index l.answers) (map string_bytes l.texts.items)
