use Rattle.std.proofs.Common.{take, string_bytes}
use Rattle.ibc_node_lines.specs.Told.{AreLinesText}
use Rattle.ibc_node_lines.proofs.lines.lines_text.Given as goal

abbrev pub invariant-loop-line : goal.invariant-loop-line
invariant-loop-line l = AreLinesText (take l.line-index l.lines) (string_bytes l.text)
