use Rattle.ibc_script_cli.specs.Program.{audit_text}
use Rattle.ibc_script_cli.proofs.Writing.{flushed}
use Rattle.ibc_script_cli.proofs.program.print_race.Goals as goal

pub returns-clause-written : goal.returns-clause-written
returns-clause-written g c =
    flushed c.print_audited.result c.flush_after.result (g.W.Write.contents c.args.output.now) (g.W.Write.contents c.print_audited.new.output) (g.W.Write.contents c.flush_after.new.output)
    (audit_text c.args.names.now c.args.audited.now) c.print_audited.ensures.written c.flush_after.ensures.same c.flush_after.ensures.ran
