use Rattle.std.proofs.Common.{arith}
use Rattle.ibc_ics23_form.proofs.ReadForms.{not_read}
use Rattle.ibc_ics23_form.proofs.reading.proof_of_form.Goals as goal

pub returns-in-Err-clause-bad : goal.returns-in-Err-clause-bad
returns-in-Err-clause-bad c = λ is. not_read c.args.form.now c.in-Err.refusal (omega arith) c.in-Err.ensures (cc)
