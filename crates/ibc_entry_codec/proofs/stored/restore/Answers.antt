use Rattle.std.proofs.Common.{◌≡◌, Err, sym, ap, subst}
use Rattle.std.proofs.lemmas.Result.{err_from_is_err_and}
use Rattle.ibc_ids.specs.declared.refusal.Refusal.TheVariants.{BadMessage}
use Rattle.ibc_wire.specs.Fields.{Spells}
use Rattle.ibc_entry_codec.specs.Answers.{answer_fields}
use Rattle.ibc_entry_codec.specs.Stored.{answer_to}
use Rattle.ibc_entry_codec.proofs.stored.restore.Goals as goal

pub returns-in_err-answer-clause-bad : goal.returns-in_err-answer-clause-bad
returns-in_err-answer-clause-bad c bad entry stores =
    let p = err_from_is_err_and c.from_residual.result c.from_residual.ensures.1 in
    let is : c.in_err-answer.field-0.0 ≡ BadMessage = (let a = p.1 in let b = p.2 in cc) in
    c.in_err-answer.ensures.bad (ap Err is) (answer_to entry) (subst (Spells (answer_fields (answer_to entry))) (sym c.as_slice.ensures) stores.answer)
