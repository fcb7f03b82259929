use Rattle.std.proofs.Common.{map, subst}
use Rattle.ibc_script_cli.proofs.Looks.{balances_told}
use Rattle.ibc_script_cli.proofs.Reaching.{not_begun}
use Rattle.ibc_script_cli.proofs.Writing.{nothing_more}
use Rattle.ibc_script_cli.specs.Runs.{WritesText, balance_lines}
use Rattle.ibc_script_cli.specs.Balances.{holding_of}
use Rattle.ibc_script_cli.proofs.runner.Runner.tell_balances_of.Goals as goal

pub returns-in-Err-clause-ran : goal.returns-in-Err-clause-ran
returns-in-Err-clause-ran g c =
    not_begun g.C.Chains.known c.args.self.now.names.now (nothing_more (g.W.Write.contents c.args.output.now))

pub returns-in-Ok-clause-ran : goal.returns-in-Ok-clause-ran
returns-in-Ok-clause-ran g c =
    balances_told g.C.Chains.known c.args.self.now.names.now c.print_balances-printed.result c.args.chains.now (g.W.Write.contents c.args.output.now) (g.W.Write.contents c.print_balances-printed.new.output) c.args.on c.name-chain.result.now c.name-chain.ensures (map holding_of c.in-Ok.balances.items) c.in-Ok.ensures
    (subst (λ l. WritesText c.print_balances-printed.result (g.W.Write.contents c.args.output.now) (g.W.Write.contents c.print_balances-printed.new.output) (balance_lines c.name-chain.result.now (map holding_of l))) c.as_slice.ensures.value c.print_balances-printed.ensures.written)
