use Rattle.std.proofs.Common.{◌++◌, length, map}
use Rattle.ibc_script_cli.proofs.Reaching.{begins, finishes, goes_on, stops_on}
use Rattle.std.proofs.lemmas.Result.{err_from_is_err_and}
use Rattle.ibc_script_cli.specs.Runs.Act.{Take, TellBalances, TellNotes}
use Rattle.std.specs.List.{range_with_len}
use Rattle.ibc_script_cli.proofs.runner.Runner.run.Goals as goal

pub returns-in_err-take_each-clause-ran : goal.returns-in_err-take_each-clause-ran
returns-in_err-take_each-clause-ran g c =
    let p = err_from_is_err_and c.from_residual.result c.from_residual.ensures.1 in rw p.1 (stops_on g.C.Chains.known c.args.self.now.names.now (map Take c.args.steps.items) (map TellBalances (range_with_len 0 (length c.args.self.now.names.now)) ++ map TellNotes (range_with_len 0 (length c.args.self.now.names.now))) (begins g.C.Chains.known c.args.self.now.names.now) c.in_err-take_each.ensures.ran)

pub returns-in_err-tell_balances-clause-ran : goal.returns-in_err-tell_balances-clause-ran
returns-in_err-tell_balances-clause-ran g c =
    let p = err_from_is_err_and c.from_residual-in_err-tell_balances.result c.from_residual-in_err-tell_balances.ensures.1 in rw p.1
    (stops_on g.C.Chains.known c.args.self.now.names.now (map TellBalances (range_with_len 0 (length c.args.self.now.names.now))) (map TellNotes (range_with_len 0 (length c.args.self.now.names.now))) (goes_on g.C.Chains.known c.args.self.now.names.now (map Take c.args.steps.items) (map TellBalances (range_with_len 0 (length c.args.self.now.names.now)) ++ map TellNotes (range_with_len 0 (length c.args.self.now.names.now))) (begins g.C.Chains.known c.args.self.now.names.now) c.in_ok-take_each.ensures.ran) c.in_err-tell_balances.ensures.ran)

pub returns-clause-ran : goal.returns-clause-ran
returns-clause-ran g c =
    finishes g.C.Chains.known c.args.self.now.names.now (map TellNotes (range_with_len 0 (length c.args.self.now.names.now))) c.tell_notes.result c.take_each.new.chains (g.W.Write.contents c.tell_notes.new.output)
    (goes_on g.C.Chains.known c.args.self.now.names.now (map TellBalances (range_with_len 0 (length c.args.self.now.names.now))) (map TellNotes (range_with_len 0 (length c.args.self.now.names.now))) (goes_on g.C.Chains.known c.args.self.now.names.now (map Take c.args.steps.items) (map TellBalances (range_with_len 0 (length c.args.self.now.names.now)) ++ map TellNotes (range_with_len 0 (length c.args.self.now.names.now))) (begins g.C.Chains.known c.args.self.now.names.now) c.in_ok-take_each.ensures.ran) c.in_ok-tell_balances.ensures.ran) c.tell_notes.ensures.ran
