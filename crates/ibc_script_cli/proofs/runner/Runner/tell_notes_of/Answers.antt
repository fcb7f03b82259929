use Rattle.std.proofs.Common.{map, subst}
use Rattle.ibc_script_cli.proofs.Looks.{notes_told}
use Rattle.ibc_script_cli.proofs.Reaching.{not_begun}
use Rattle.ibc_script_cli.proofs.Writing.{nothing_more}
use Rattle.ibc_script_cli.specs.Runs.{WritesText, note_lines}
use Rattle.ibc_script_cli.specs.Balances.{notes_of}
use Rattle.ibc_script_cli.proofs.runner.Runner.tell_notes_of.Goals as goal

pub returns-in-Err-clause-ran : goal.returns-in-Err-clause-ran
returns-in-Err-clause-ran g c =
    not_begun g.C.Chains.known c.args.self.now.names.now (nothing_more (g.W.Write.contents c.args.output.now))

pub returns-in-Ok-clause-ran : goal.returns-in-Ok-clause-ran
returns-in-Ok-clause-ran g c =
    notes_told g.C.Chains.known c.args.self.now.names.now c.print_notes-printed.result c.args.chains.now (g.W.Write.contents c.args.output.now) (g.W.Write.contents c.print_notes-printed.new.output) c.args.on c.name-chain.result.now c.name-chain.ensures (map notes_of c.in-Ok.notes.items) c.in-Ok.ensures
    (subst (λ l. WritesText c.print_notes-printed.result (g.W.Write.contents c.args.output.now) (g.W.Write.contents c.print_notes-printed.new.output) (note_lines c.name-chain.result.now (map notes_of l))) c.as_slice.ensures.value c.print_notes-printed.ensures.written)
