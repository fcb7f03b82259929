use Rattle.std.proofs.Common.{◌≡◌, ◌++◌}
use Rattle.std.specs.Io.KnownBytes.{Appends}
use Rattle.ibc_ids.specs.Texts.{Text}
use Rattle.ibc_script_cli.proofs.streams.write_bytes.Given as goal

abbrev pub invariant-loop-turn : goal.invariant-loop-turn
invariant-loop-turn g l =
    (written : Text) × (l.bytes ≡ written ++ l.rest) × Appends (g.W.Write.contents l.fn.output) (g.W.Write.contents l.output) written
