use Rattle.std.proofs.Common.{Some, None}
use Rattle.ibc_script_cli.proofs.Looks.{root_told}
use Rattle.ibc_script_cli.proofs.runner.Runner.print_root.Goals as goal

pub returns-in-Some-clause-ran : goal.returns-in-Some-clause-ran
returns-in-Some-clause-ran g c =
    root_told g.C.Chains.known c.args.self.now.names.now c.print_root_of.result c.args.chains.now (g.W.Write.contents c.args.output.now) (g.W.Write.contents c.print_root_of.new.output) c.args.on c.name-chain.result.now c.name-chain.ensures c.args.height (Some c.in-Some.block) c.in-Some.ensures c.print_root_of.ensures.written

pub returns-in-None-clause-ran : goal.returns-in-None-clause-ran
returns-in-None-clause-ran g c =
    root_told g.C.Chains.known c.args.self.now.names.now c.print_root_of-in-None.result c.args.chains.now (g.W.Write.contents c.args.output.now) (g.W.Write.contents c.print_root_of-in-None.new.output) c.args.on c.name-chain.result.now c.name-chain.ensures c.args.height None c.in-None.ensures c.print_root_of-in-None.ensures.written
