use Rattle.std.proofs.Common.{◌≡◌, Err, ap}
use Rattle.std.proofs.lemmas.Result.{err_from_is_err_and}
use Rattle.serde_json.specs.View.{view}
use Rattle.ibc_script.specs.declared.fault.Fault.TheVariants.{BadScript}
use Rattle.ibc_script.proofs.StepWords.{as_relay}
use Rattle.ibc_script.proofs.reading.step_reader.StepReader.relay.Goals as goal

pub returns-in_err-has_only-clause-bad : goal.returns-in_err-has_only-clause-bad
returns-in_err-has_only-clause-bad c bad s is =
    let p = err_from_is_err_and c.from_residual.result c.from_residual.ensures.1 in
    let fault : c.in_err-has_only.field-0.0 ≡ BadScript = (let a = p.1 in let b = p.2 in cc) in
    let t = as_relay c.args.self.now.names.now (view c.args.self.now.object.now) c.requires s is in
    c.in_err-has_only.ensures.bad (ap Err fault) t.3.0

pub returns-in_err-first-clause-bad : goal.returns-in_err-first-clause-bad
returns-in_err-first-clause-bad c bad s is =
    let p = err_from_is_err_and c.from_residual-in_err-first.result c.from_residual-in_err-first.ensures.1 in
    let fault : c.in_err-first.field-0.0 ≡ BadScript = (let a = p.1 in let b = p.2 in cc) in
    let t = as_relay c.args.self.now.names.now (view c.args.self.now.object.now) c.requires s is in
    c.in_err-first.ensures.bad (ap Err fault) (t.0, t.1) t.3.1.1.0

pub returns-in_err-turns-clause-bad : goal.returns-in_err-turns-clause-bad
returns-in_err-turns-clause-bad c bad s is =
    let p = err_from_is_err_and c.from_residual-in_err-turns.result c.from_residual-in_err-turns.ensures.1 in
    let fault : c.in_err-turns.field-0.0 ≡ BadScript = (let a = p.1 in let b = p.2 in cc) in
    let t = as_relay c.args.self.now.names.now (view c.args.self.now.object.now) c.requires s is in
    c.in_err-turns.ensures.bad (ap Err fault) t.2 t.3.1.1.1.0
