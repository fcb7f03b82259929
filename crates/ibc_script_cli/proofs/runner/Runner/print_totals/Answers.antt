use Rattle.ibc_script_cli.proofs.Looks.{totals_told}
use Rattle.ibc_script_cli.proofs.runner.Runner.print_totals.Goals as goal

pub returns-clause-ran : goal.returns-clause-ran
returns-clause-ran g c =
    totals_told g.C.Chains.known c.args.self.now.names.now c.print.result c.args.chains.now (g.W.Write.contents c.args.output.now) (g.W.Write.contents c.print.new.output) c.args.on c.name.result.now c.name.ensures c.args.channel c.args.denom c.totals.result c.totals.ensures c.print.ensures.written
