use Rattle.std.proofs.Common.{◌≡◌, Err, ap}
use Rattle.std.proofs.lemmas.Result.{err_from_is_err_and}
use Rattle.serde_json.specs.View.{view}
use Rattle.ibc_script.specs.declared.fault.Fault.TheVariants.{BadScript}
use Rattle.ibc_script.proofs.StepWords.{as_conn_ack}
use Rattle.ibc_script.proofs.reading.step_reader.StepReader.conn_open_ack.Goals as goal

pub returns-in_err-has_only-clause-bad : goal.returns-in_err-has_only-clause-bad
returns-in_err-has_only-clause-bad c bad d is =
    let p = err_from_is_err_and c.from_residual.result c.from_residual.ensures.1 in
    let fault : c.in_err-has_only.field-0.0 ≡ BadScript = (let a = p.1 in let b = p.2 in cc) in
    c.in_err-has_only.ensures.bad (ap Err fault) (as_conn_ack c.args.self.now.names.now (view c.args.self.now.object.now) d is).3.1.0

pub returns-in_err-origin-clause-bad : goal.returns-in_err-origin-clause-bad
returns-in_err-origin-clause-bad c bad d is =
    let p = err_from_is_err_and c.from_residual-in_err-origin.result c.from_residual-in_err-origin.ensures.1 in
    let fault : c.in_err-origin.field-0.0 ≡ BadScript = (let a = p.1 in let b = p.2 in cc) in
    let t = as_conn_ack c.args.self.now.names.now (view c.args.self.now.object.now) d is in
    c.in_err-origin.ensures.bad (ap Err fault) t.2 t.3.1.1.1.1
