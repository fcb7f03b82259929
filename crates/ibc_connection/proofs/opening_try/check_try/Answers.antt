-- Each check of the code is the definition's, behind those before it.
use Rattle.std.proofs.Common.{sym, inl}
use Rattle.ibc_machine.proofs.PassedChecks.{pass, fail}
use Rattle.ibc_records.proofs.Judging.{failed, passed, stops, ends}
use Rattle.ibc_connection.proofs.Handshake.{refused, try_begun}
use Rattle.ibc_connection.proofs.opening_try.check_try.Goals as goal

pub returns-in_err-may_try-clause-judged : goal.returns-in_err-may_try-clause-judged
returns-in_err-may_try-clause-judged c = λ chains seen state knows. refused _ c.from_residual.result c.from_residual.ensures.1 (inl (fail _ (sym (c.in_err-may_try.ensures.checked chains)) (try_begun c.args.records.now c.args.chain chains seen state c.args.message.now c.args.proofs.now c.requires)))

pub returns-in_err-check_begun-clause-judged : goal.returns-in_err-check_begun-clause-judged
returns-in_err-check_begun-clause-judged c = λ chains seen state knows.
    refused _ c.from_residual-in_err-check_begun.result c.from_residual-in_err-check_begun.ensures.1 (stops _ (failed (c.in_err-check_begun.ensures seen state _ knows c.requires.0)) (pass (sym (c.in_ok-may_try.ensures.checked chains)) (try_begun c.args.records.now c.args.chain chains seen state c.args.message.now c.args.proofs.now c.requires)))

pub returns-clause-judged : goal.returns-clause-judged
returns-clause-judged c = λ chains seen state knows.
    ends _ _ c.check_client_state.result (c.check_client_state.ensures seen state _ knows c.requires.1) (pass (passed (c.in_ok-check_begun.ensures seen state _ knows c.requires.0)) (pass (sym (c.in_ok-may_try.ensures.checked chains)) (try_begun c.args.records.now c.args.chain chains seen state c.args.message.now c.args.proofs.now c.requires)))
