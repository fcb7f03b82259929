use Rattle.std.proofs.Common.{◌≡◌, Err, None, Some, ap, inl, inr}
use Rattle.std.proofs.lemmas.Result.{err_from_is_err_and}
use Rattle.ibc_script.specs.declared.fault.Fault.TheVariants.{BadScript}
use Rattle.ibc_script.proofs.reading.read_window.Goals as goal

pub returns-in_err-window-clause-bad : goal.returns-in_err-window-clause-bad
returns-in_err-window-clause-bad c bad window is =
    let p = err_from_is_err_and c.from_residual.result c.from_residual.ensures.1 in
    let fault : c.in_err-window.field-0.0 ≡ BadScript = (let a = p.1 in let b = p.2 in cc) in
    elim is [
      | inl number ↦ c.in_err-window.ensures.bad (ap Err fault) (Some window) number
      | inr usual ↦ c.in_err-window.ensures.bad (ap Err fault) None usual.0
    ]
