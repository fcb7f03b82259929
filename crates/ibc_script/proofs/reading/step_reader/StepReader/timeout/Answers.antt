use Rattle.std.proofs.Common.{◌≡◌, Err, ap}
use Rattle.std.proofs.lemmas.Result.{err_from_is_err_and}
use Rattle.serde_json.specs.View.{view}
use Rattle.ibc_script.specs.declared.fault.Fault.TheVariants.{BadScript}
use Rattle.ibc_script.proofs.StepWords.{as_timeout}
use Rattle.ibc_script.proofs.reading.step_reader.StepReader.timeout.Goals as goal

pub returns-in_err-packet-clause-bad : goal.returns-in_err-packet-clause-bad
returns-in_err-packet-clause-bad c bad d is =
    let p = err_from_is_err_and c.from_residual.result c.from_residual.ensures.1 in
    let fault : c.in_err-packet.field-0.0 ≡ BadScript = (let a = p.1 in let b = p.2 in cc) in
    let t = as_timeout c.args.self.now.names.now (view c.args.self.now.object.now) d is in
    c.in_err-packet.ensures.bad (ap Err fault) (t.0, t.1) t.2.1
