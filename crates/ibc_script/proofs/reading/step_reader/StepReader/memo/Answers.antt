use Rattle.std.proofs.Common.{◌≡◌, Err, ap}
use Rattle.std.proofs.lemmas.Result.{err_from_is_err_and}
use Rattle.ibc_script.specs.declared.fault.Fault.TheVariants.{BadScript}
use Rattle.ibc_script.proofs.reading.step_reader.StepReader.memo.Goals as goal

pub returns-in_err-text_or_empty-clause-bad : goal.returns-in_err-text_or_empty-clause-bad
returns-in_err-text_or_empty-clause-bad c bad memo is =
    let p = err_from_is_err_and c.from_residual.result c.from_residual.ensures.1 in
    let fault : c.in_err-text_or_empty.field-0.0 ≡ BadScript = (let a = p.1 in let b = p.2 in cc) in
    c.in_err-text_or_empty.ensures.bad (ap Err fault) memo is.0
