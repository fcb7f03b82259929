use Rattle.std.proofs.Common.{map, drop}
use Rattle.ibc_script_cli.specs.Balances.{holding_of}
use Rattle.ibc_script_cli.specs.Runs.{balance_lines}
use Rattle.ibc_script_cli.proofs.Writing.{Wrote}
use Rattle.ibc_script_cli.proofs.printing.print_balances.Given as goal

abbrev pub invariant-loop-account : goal.invariant-loop-account
invariant-loop-account g l =
    Wrote (λ i. balance_lines l.chain (map holding_of (drop i l.balances))) l.account-index (g.W.Write.contents l.fn.output) (g.W.Write.contents l.output)
