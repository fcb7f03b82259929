use Rattle.std.proofs.Common.{◌≡◌, ◌+◌, drop}
use Rattle.ibc_script_cli.specs.Runs.{numbered_lines}
use Rattle.ibc_script_cli.proofs.Writing.{Wrote}
use Rattle.ibc_script_cli.proofs.printing.print_notes_over.Given as goal

abbrev pub invariant-loop-bytes : goal.invariant-loop-bytes
invariant-loop-bytes g l = record {
  counted : l.index ≡ l.bytes-index;
  wrote : Wrote (λ i. numbered_lines l.chain l.channel (i + 1) (drop i l.notes)) l.bytes-index (g.W.Write.contents l.fn.output) (g.W.Write.contents l.output);
}
