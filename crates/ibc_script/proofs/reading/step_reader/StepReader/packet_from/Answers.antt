use Rattle.std.proofs.Common.{◌≡◌, Err, ap}
use Rattle.std.proofs.lemmas.Result.{err_from_is_err_and}
use Rattle.ibc_script.specs.declared.fault.Fault.TheVariants.{BadScript}
use Rattle.ibc_script.proofs.reading.step_reader.StepReader.packet_from.Goals as goal

pub returns-in_err-from-clause-bad : goal.returns-in_err-from-clause-bad
returns-in_err-from-clause-bad c bad read is =
    let p = err_from_is_err_and c.from_residual-in_err-from.result c.from_residual-in_err-from.ensures.1 in
    let fault : c.in_err-from.field-0.0 ≡ BadScript = (let a = p.1 in let b = p.2 in cc) in
    c.in_err-from.ensures.bad (ap Err fault) read.1 is.1.1

pub returns-in_err-packet-clause-bad : goal.returns-in_err-packet-clause-bad
returns-in_err-packet-clause-bad c bad read is =
    let p = err_from_is_err_and c.from_residual-in_err-packet.result c.from_residual-in_err-packet.ensures.1 in
    let fault : c.in_err-packet.field-0.0 ≡ BadScript = (let a = p.1 in let b = p.2 in cc) in
    c.in_err-packet.ensures.bad (ap Err fault) read.0 is.1.0
