-- Each check of the code is the definition's, behind those before it.
use Rattle.std.proofs.Common.{sym, inl}
use Rattle.ibc_machine.proofs.PassedChecks.{pass, fail}
use Rattle.ibc_records.proofs.Judging.{failed, passed, stops, ends}
use Rattle.ibc_connection.proofs.Handshake.{refused, ack_found}
use Rattle.ibc_connection.proofs.opening_ack.check_ack.Goals as goal

pub returns-in_err-may_ack : goal.returns-in_err-may_ack
returns-in_err-may_ack c = λ chains seen state knows. refused _ c.from_residual.result c.from_residual.ensures.1 (inl (fail _ (sym (c.in_err-may_ack.ensures.checked chains)) (ack_found c.args.records.now c.args.chain chains seen state c.args.message.now c.args.proofs.now c.requires.read _ c.requires.found)))

pub returns-in_err-check_answered : goal.returns-in_err-check_answered
returns-in_err-check_answered c = λ chains seen state knows.
    refused _ c.from_residual-in_err-check_answered.result c.from_residual-in_err-check_answered.ensures.1 (stops _ (failed (c.in_err-check_answered.ensures seen state _ knows c.requires.read.0)) (pass (sym (c.in_ok-may_ack.ensures.checked chains)) (ack_found c.args.records.now c.args.chain chains seen state c.args.message.now c.args.proofs.now c.requires.read _ c.requires.found)))

pub returns : goal.returns
returns c = λ chains seen state knows.
    ends _ _ c.check_client_state.result (c.check_client_state.ensures seen state _ knows c.requires.read.1) (pass (passed (c.in_ok-check_answered.ensures seen state _ knows c.requires.read.0)) (pass (sym (c.in_ok-may_ack.ensures.checked chains)) (ack_found c.args.records.now c.args.chain chains seen state c.args.message.now c.args.proofs.now c.requires.read _ c.requires.found)))
