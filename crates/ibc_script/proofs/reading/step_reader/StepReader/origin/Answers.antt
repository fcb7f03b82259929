use Rattle.std.proofs.Common.{◌≡◌, Err, ap}
use Rattle.std.proofs.lemmas.Result.{err_from_is_err_and}
use Rattle.ibc_script.specs.declared.fault.Fault.TheVariants.{BadScript}
use Rattle.ibc_script.proofs.reading.step_reader.StepReader.origin.Goals as goal

pub returns-in_err-chain-clause-bad : goal.returns-in_err-chain-clause-bad
returns-in_err-chain-clause-bad c bad from is =
    let p = err_from_is_err_and c.from_residual.result c.from_residual.ensures.1 in
    let fault : c.in_err-chain.field-0.0 ≡ BadScript = (let a = p.1 in let b = p.2 in cc) in
    c.in_err-chain.ensures.bad (ap Err fault) from.chain is.0
