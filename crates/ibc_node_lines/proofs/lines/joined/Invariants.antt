use Rattle.std.proofs.Common.{◌≡◌, map, take, string_bytes}
use Rattle.ibc_node_lines.specs.Told.{joined}
use Rattle.ibc_node_lines.proofs.lines.joined.Given as goal

abbrev pub invariant-loop-next : goal.invariant-loop-next
invariant-loop-next l = string_bytes l.text ≡ joined (map string_bytes (take l.next-index l.texts))
