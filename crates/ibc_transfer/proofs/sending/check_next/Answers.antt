-- A move that can't be made is refused before a number that is full.
use Rattle.std.proofs.Common.{sym, ap, ◌∙◌}
use Rattle.std.proofs.lemmas.Result.{err_from_is_err_and}
use Rattle.ibc_machine.specs.ics24.Evidence.{require_number}
use Rattle.ibc_bank.specs.Moves.{after_moves}
use Rattle.ibc_transfer.proofs.Sends.{poor_first, full_next}
use Rattle.ibc_transfer.proofs.sending.check_next.Goals as goal

pub returns-in_err-check-in-Err-clause-err : goal.returns-in_err-check-in-Err-clause-err
returns-in_err-check-in-Err-clause-err c =
    let p = err_from_is_err_and c.from_residual.result c.from_residual.ensures.1 in
    rw (p.1, p.2) (poor_first (after_moves c.args.moves.now c.args.bank.now) (require_number c.args.mine.now.next_send) c.in_err-check-in-Err.ensures.refused)

pub returns-in_ok-check-in-Err-clause-err : goal.returns-in_ok-check-in-Err-clause-err
returns-in_ok-check-in-Err-clause-err c =
    full_next (after_moves c.args.moves.now c.args.bank.now) (require_number c.args.mine.now.next_send) c.in_ok-check-in-Err.ensures.ok
    (sym (c.in-Err.ensures.checked ∙ ap require_number c.next_send.ensures))
