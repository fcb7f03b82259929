-- Each check of the code is the definition's, behind those before it.
use Rattle.std.proofs.Common.{sym, inl}
use Rattle.ibc_machine.specs.ics04.Packets.{not_received}
use Rattle.ibc_machine.proofs.PassedChecks.{pass, fail}
use Rattle.ibc_records.proofs.Judging.{stops, stops_at}
use Rattle.ibc_records.proofs.PacketChecks.{timeout_begun, timeout_found}
use Rattle.ibc_records.proofs.TakenPackets.{refused, not_shown, was_shown, timed_out_over}
use Rattle.ibc_records.proofs.timing_out.judge_timeout.Goals as goal

pub returns-in_err-mine-clause-judged : goal.returns-in_err-mine-clause-judged
returns-in_err-mine-clause-judged c = λ chain chains seen state knowledge.
    refused _ c.from_residual.result c.from_residual.ensures.1 (stops_at _ c.in_err-mine.ensures.err (timeout_begun c.args.records.now chain chains seen state c.args.message.now _ c.requires.form c.requires.reads))

pub returns-in_err-check_pending-clause-judged : goal.returns-in_err-check_pending-clause-judged
returns-in_err-check_pending-clause-judged c = λ chain chains seen state knowledge.
    refused _ c.from_residual-in_err-check_pending.result c.from_residual-in_err-check_pending.ensures.1 (inl (fail _ (sym c.in_err-check_pending.ensures) (timeout_found c.args.records.now chain chains seen state c.args.message.now _ c.requires.form c.requires.reads _ c.in_ok-mine.ensures.ok)))

pub returns-in_err-connection-clause-judged : goal.returns-in_err-connection-clause-judged
returns-in_err-connection-clause-judged c = λ chain chains seen state knowledge.
    refused _ c.from_residual-in_err-connection.result c.from_residual-in_err-connection.ensures.1 (inl (fail _ c.in_err-connection.ensures.failed (pass (sym c.in_ok-check_pending.ensures) (timeout_found c.args.records.now chain chains seen state c.args.message.now _ c.requires.form c.requires.reads _ c.in_ok-mine.ensures.ok))))

pub returns-in_err-check_timed_out-clause-judged : goal.returns-in_err-check_timed_out-clause-judged
returns-in_err-check_timed_out-clause-judged c = λ chain chains seen state knowledge.
    refused _ c.from_residual-in_err-check_timed_out.result c.from_residual-in_err-check_timed_out.ensures.1 (inl (fail _ (timed_out_over c.args.records.now seen state _ _ c.in_ok-connection.ensures.there knowledge c.args.message.now.height c.args.message.now.packet _ c.in_err-check_timed_out.ensures) (pass c.in_ok-connection.ensures.passed (pass (sym c.in_ok-check_pending.ensures) (timeout_found c.args.records.now chain chains seen state c.args.message.now _ c.requires.form c.requires.reads _ c.in_ok-mine.ensures.ok)))))

pub returns-in_err-check_waiting-clause-judged : goal.returns-in_err-check_waiting-clause-judged
returns-in_err-check_waiting-clause-judged c = λ chain chains seen state knowledge.
    refused _ c.from_residual-in_err-check_waiting.result c.from_residual-in_err-check_waiting.ensures.1 (inl (fail _ (sym c.in_err-check_waiting.ensures) (pass (timed_out_over c.args.records.now seen state _ _ c.in_ok-connection.ensures.there knowledge c.args.message.now.height c.args.message.now.packet _ c.in_ok-check_timed_out.ensures) (pass c.in_ok-connection.ensures.passed (pass (sym c.in_ok-check_pending.ensures) (timeout_found c.args.records.now chain chains seen state c.args.message.now _ c.requires.form c.requires.reads _ c.in_ok-mine.ensures.ok))))))

pub returns-in_err-check_not_received-clause-judged : goal.returns-in_err-check_not_received-clause-judged
returns-in_err-check_not_received-clause-judged c = λ chain chains seen state knowledge.
    refused _ c.from_residual-in_err-check_not_received.result c.from_residual-in_err-check_not_received.ensures.1 (stops _ (not_shown c.args.records.now seen state _ _ c.in_ok-connection.ensures.there knowledge c.args.message.now.height (not_received c.in_ok-mine.mine.now c.args.message.now.packet c.args.message.now.next_recv) _ _ c.requires.reads c.in_err-check_not_received.ensures) (pass (sym c.in_ok-check_waiting.ensures) (pass (timed_out_over c.args.records.now seen state _ _ c.in_ok-connection.ensures.there knowledge c.args.message.now.height c.args.message.now.packet _ c.in_ok-check_timed_out.ensures) (pass c.in_ok-connection.ensures.passed (pass (sym c.in_ok-check_pending.ensures) (timeout_found c.args.records.now chain chains seen state c.args.message.now _ c.requires.form c.requires.reads _ c.in_ok-mine.ensures.ok))))))

pub returns-clause-judged : goal.returns-clause-judged
returns-clause-judged c = λ chain chains seen state knowledge.
    pass (was_shown c.args.records.now seen state _ _ c.in_ok-connection.ensures.there knowledge c.args.message.now.height (not_received c.in_ok-mine.mine.now c.args.message.now.packet c.args.message.now.next_recv) _ _ c.requires.reads c.in_ok-check_not_received.ensures) (pass (sym c.in_ok-check_waiting.ensures) (pass (timed_out_over c.args.records.now seen state _ _ c.in_ok-connection.ensures.there knowledge c.args.message.now.height c.args.message.now.packet _ c.in_ok-check_timed_out.ensures) (pass c.in_ok-connection.ensures.passed (pass (sym c.in_ok-check_pending.ensures) (timeout_found c.args.records.now chain chains seen state c.args.message.now _ c.requires.form c.requires.reads _ c.in_ok-mine.ensures.ok)))))
