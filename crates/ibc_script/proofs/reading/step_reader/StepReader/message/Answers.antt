use Rattle.std.proofs.Common.{◌≡◌, Err, ap}
use Rattle.std.proofs.lemmas.Result.{err_from_is_err_and}
use Rattle.serde_json.specs.View.{view}
use Rattle.ibc_script.specs.declared.fault.Fault.TheVariants.{BadScript}
use Rattle.ibc_script.proofs.StepWords.{as_message}
use Rattle.ibc_script.proofs.reading.step_reader.StepReader.message.Goals as goal

pub returns-in_err-chain-clause-bad : goal.returns-in_err-chain-clause-bad
returns-in_err-chain-clause-bad c bad on d is =
    let p = err_from_is_err_and c.from_residual.result c.from_residual.ensures.1 in
    let fault : c.in_err-chain.field-0.0 ≡ BadScript = (let a = p.1 in let b = p.2 in cc) in
    c.in_err-chain.ensures.bad (ap Err fault) on is.1.1.0

pub returns-in_err-draft-clause-bad : goal.returns-in_err-draft-clause-bad
returns-in_err-draft-clause-bad c bad on d is =
    let p = err_from_is_err_and c.from_residual-in_err-draft.result c.from_residual-in_err-draft.ensures.1 in
    let fault : c.in_err-draft.field-0.0 ≡ BadScript = (let a = p.1 in let b = p.2 in cc) in
    c.in_err-draft.ensures.bad (ap Err fault) d
    (as_message c.args.self.now.names.now (view c.args.self.now.object.now) c.args.kind.now c.requires on d is)
