use Rattle.std.proofs.Common.{None, Ok, Err}
use Rattle.std.proofs.lemmas.Result.{err_from_is_err_and}
use Rattle.ibc_script.specs.declared.fault.Fault.{Fault}
use Rattle.ibc_script_cli.proofs.Turns.{block_step}
use Rattle.ibc_script_cli.proofs.runner.Runner.end.Goals as goal

pub returns-clause-ran : goal.returns-clause-ran
returns-clause-ran g c =
    block_step g.C.Chains.known c.args.self.now.names.now {E = Fault} c.args.on None c.args.chains.now (Ok c.in_ok-end_and_tell.field-0) c.end_and_tell.new.chains (g.W.Write.contents c.args.output.now) (g.W.Write.contents c.end_and_tell.new.output) c.in_ok-end_and_tell.ensures.told

pub returns-in_err-end_and_tell-clause-ran : goal.returns-in_err-end_and_tell-clause-ran
returns-in_err-end_and_tell-clause-ran g c =
    let p = err_from_is_err_and c.from_residual.result c.from_residual.ensures.1 in rw p.1
    (block_step g.C.Chains.known c.args.self.now.names.now {E = Fault} c.args.on None c.args.chains.now (Err c.in_err-end_and_tell.field-0.0) c.end_and_tell.new.chains (g.W.Write.contents c.args.output.now) (g.W.Write.contents c.end_and_tell.new.output) c.in_err-end_and_tell.ensures.told)
