-- What is written, with what is left, is all.
use Rattle.std.proofs.Common.{◌≡◌, ◌++◌, length, drop, string_bytes}
use Rattle.std.specs.Prelude.{chars, flat_map}
use Rattle.ibc_drawing.specs.Escaped.{escaped_bytes}
use Rattle.ibc_drawing.proofs.escaped.write_escaped.Given as goal

abbrev pub invariant-loop-character : goal.invariant-loop-character
invariant-loop-character l =
    string_bytes l.out ++ flat_map escaped_bytes (drop (length l.yielded) (chars l.text)) ≡ string_bytes l.fn.out ++ flat_map escaped_bytes (chars l.text)
