use Rattle.std.proofs.Common.{length}
use Rattle.std.proofs.lemmas.Result.{err_from_is_err_and}
use Rattle.ibc_script_cli.specs.Program.{audited_balance_lines, audited_note_lines}
use Rattle.ibc_script_cli.proofs.Writing.{both_written, front_cut}
use Rattle.ibc_script_cli.proofs.program.print_audited.Goals as goal

pub returns-in_err-print_all_balances-clause-written : goal.returns-in_err-print_all_balances-clause-written
returns-in_err-print_all_balances-clause-written g c =
    let many = length c.args.names.now in
    let p = err_from_is_err_and c.from_residual.result c.from_residual.ensures.1 in
    rw p.1 (front_cut (g.W.Write.contents c.args.output.now) (g.W.Write.contents c.print_all_balances.new.output) (audited_balance_lines c.args.names.now c.args.audited.now 0 many)
    (audited_note_lines c.args.names.now c.args.audited.now 0 many) c.in_err-print_all_balances.ensures.written)

pub returns-clause-written : goal.returns-clause-written
returns-clause-written g c =
    let many = length c.args.names.now in
    both_written c.print_all_notes.result (g.W.Write.contents c.args.output.now) (g.W.Write.contents c.print_all_balances.new.output) (g.W.Write.contents c.print_all_notes.new.output)
    (audited_balance_lines c.args.names.now c.args.audited.now 0 many) (audited_note_lines c.args.names.now c.args.audited.now 0 many)
    c.in_ok-print_all_balances.ensures.written c.print_all_notes.ensures.written
