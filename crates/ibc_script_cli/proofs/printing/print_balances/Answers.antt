use Rattle.std.proofs.Common.{◌∷◌, ◌∙◌, ◌+◌, ap, drop, map, sym}
use Rattle.std.proofs.lemmas.List.{drop_more}
use Rattle.std.proofs.lemmas.Result.{err_from_is_err_and}
use Rattle.ibc_script_cli.specs.Balances.{holding_of}
use Rattle.ibc_script_cli.specs.Runs.{balance_line, balance_lines}
use Rattle.ibc_script_cli.proofs.Writing.{wrote_more, wrote_part}
use Rattle.ibc_script_cli.proofs.printing.print_balances.Goals as goal

pub returns-in_err-print-clause-written : goal.returns-in_err-print-clause-written
returns-in_err-print-clause-written g c =
    let p = err_from_is_err_and c.from_residual.result c.from_residual.ensures.1 in rw p.1
    (wrote_part (λ i. balance_lines c.args.chain.now (map holding_of (drop i c.args.balances.now))) c.loop-account.account-index (balance_line c.args.chain.now (holding_of c.loop-account-item.result)) (g.W.Write.contents c.args.output.now) (g.W.Write.contents c.loop-account.output) (g.W.Write.contents c.print.new.output) (ap (λ l. balance_lines c.args.chain.now (map holding_of l)) (drop_more c.args.balances.now c.loop-account.account-index c.loop-account-item.result c.loop-account-test.true ∙ ap (λ x. x ∷ drop (c.loop-account.account-index + 1) c.args.balances.now) (sym c.loop-account-item.is))) c.loop-account.invariant c.in_err-print.ensures.written)

pub loop-account-preserved : goal.loop-account-preserved
loop-account-preserved g c =
    wrote_more (λ i. balance_lines c.args.chain.now (map holding_of (drop i c.args.balances.now))) c.loop-account.account-index (balance_line c.args.chain.now (holding_of c.loop-account-item.result)) (g.W.Write.contents c.args.output.now) (g.W.Write.contents c.loop-account.output) (g.W.Write.contents c.print.new.output) (ap (λ l. balance_lines c.args.chain.now (map holding_of l)) (drop_more c.args.balances.now c.loop-account.account-index c.loop-account-item.result c.loop-account-test.true ∙ ap (λ x. x ∷ drop (c.loop-account.account-index + 1) c.args.balances.now) (sym c.loop-account-item.is))) c.loop-account.invariant c.in_ok-print.ensures.written
