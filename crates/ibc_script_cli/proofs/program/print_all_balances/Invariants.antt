use Rattle.std.proofs.Common.{◌-◌, length}
use Rattle.ibc_script_cli.specs.Program.{audited_balance_lines}
use Rattle.ibc_script_cli.proofs.Writing.{Wrote}
use Rattle.ibc_script_cli.proofs.program.print_all_balances.Given as goal

abbrev pub invariant-loop-on : goal.invariant-loop-on
invariant-loop-on g l =
    Wrote (λ i. audited_balance_lines l.names l.audited i (length l.names - i)) l.on (g.W.Write.contents l.fn.output) (g.W.Write.contents l.output)
