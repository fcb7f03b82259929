use Rattle.std.proofs.Common.{◌≡◌, Err, ap}
use Rattle.std.proofs.lemmas.Result.{err_from_is_err_and}
use Rattle.serde_json.specs.View.{view}
use Rattle.ibc_script.specs.declared.fault.Fault.TheVariants.{BadScript}
use Rattle.ibc_script.proofs.StepWords.{as_chan_confirm}
use Rattle.ibc_script.proofs.reading.step_reader.StepReader.chan_open_confirm.Goals as goal

pub returns-in_err-has_only-clause-bad : goal.returns-in_err-has_only-clause-bad
returns-in_err-has_only-clause-bad c bad d is =
    let p = err_from_is_err_and c.from_residual.result c.from_residual.ensures.1 in
    let fault : c.in_err-has_only.field-0.0 ≡ BadScript = (let a = p.1 in let b = p.2 in cc) in
    c.in_err-has_only.ensures.bad (ap Err fault) (as_chan_confirm c.args.self.now.names.now (view c.args.self.now.object.now) d is).3.1.0

pub returns-in_err-from-clause-bad : goal.returns-in_err-from-clause-bad
returns-in_err-from-clause-bad c bad d is =
    let p = err_from_is_err_and c.from_residual-in_err-from.result c.from_residual-in_err-from.ensures.1 in
    let fault : c.in_err-from.field-0.0 ≡ BadScript = (let a = p.1 in let b = p.2 in cc) in
    let t = as_chan_confirm c.args.self.now.names.now (view c.args.self.now.object.now) d is in
    c.in_err-from.ensures.bad (ap Err fault) t.2 t.3.1.1.1.1

pub returns-in_err-port-clause-bad : goal.returns-in_err-port-clause-bad
returns-in_err-port-clause-bad c bad d is =
    let p = err_from_is_err_and c.from_residual-in_err-port.result c.from_residual-in_err-port.ensures.1 in
    let fault : c.in_err-port.field-0.0 ≡ BadScript = (let a = p.1 in let b = p.2 in cc) in
    let t = as_chan_confirm c.args.self.now.names.now (view c.args.self.now.object.now) d is in
    c.in_err-port.ensures.bad (ap Err fault) (t.0, t.1) (t.3.1.1.0, (t.3.1.1.1.0, tt))
