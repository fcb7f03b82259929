use Rattle.std.proofs.Common.{map, drop}
use Rattle.ibc_script_cli.specs.Balances.{notes_of}
use Rattle.ibc_script_cli.specs.Runs.{note_lines}
use Rattle.ibc_script_cli.proofs.Writing.{Wrote}
use Rattle.ibc_script_cli.proofs.printing.print_notes.Given as goal

abbrev pub invariant-loop-channel : goal.invariant-loop-channel
invariant-loop-channel g l =
    Wrote (λ i. note_lines l.chain (map notes_of (drop i l.channels))) l.channel-index (g.W.Write.contents l.fn.output) (g.W.Write.contents l.output)
