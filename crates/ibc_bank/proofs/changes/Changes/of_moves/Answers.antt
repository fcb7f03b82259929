-- One move more is made in the changes, or is refused and ends all.
use Rattle.std.proofs.Common.{◌∙◌, add-one}
use Rattle.std.proofs.lemmas.Result.{err_from_is_err_and}
use Rattle.ibc_bank.specs.BankModel.{state_of}
use Rattle.ibc_bank.proofs.MoveSequences.{at_place, refused_there}
use Rattle.ibc_bank.proofs.changes.Changes.of_moves.Goals as goal

pub returns-in_err-apply-clause-refused : goal.returns-in_err-apply-clause-refused
returns-in_err-apply-clause-refused c =
    let place = at_place c.args.moves.now c.loop-step.step-index c.step-item.result c.loop-step-test.true c.step-item.is (state_of c.args.books.now) _ c.loop-step.invariant.done in
    let p = err_from_is_err_and c.from_residual.result c.from_residual.ensures.1 in
    rw (p.1, p.2) (refused_there place c.in_err-apply.field-0.0 c.in_err-apply.ensures.err)

pub loop-step-preserved : goal.loop-step-preserved
loop-step-preserved c =
    let place = at_place c.args.moves.now c.loop-step.step-index c.step-item.result c.loop-step-test.true c.step-item.is (state_of c.args.books.now) _ c.loop-step.invariant.done in
    record {
      done = rw add-one (place.more ∙ c.in_ok-apply.ensures.ok);
      balanced = c.in_ok-apply.ensures.balanced;
    }
