use Rattle.std.proofs.Common.{◌≡◌, string_bytes, map, take}
use Rattle.ibc_script_cli.specs.Lines.{printed_byte}
use Rattle.ibc_script_cli.proofs.line.acknowledgement_text.Given as goal

abbrev pub invariant-loop-byte : goal.invariant-loop-byte
invariant-loop-byte l = string_bytes l.text ≡ map printed_byte (take l.byte-index l.bytes)
