-- Each check of the code is the definition's, behind those before it.
use Rattle.std.proofs.Common.{sym, inl}
use Rattle.ibc_machine.specs.ics04.Packets.{was_sent}
use Rattle.ibc_machine.proofs.PassedChecks.{pass, fail}
use Rattle.ibc_records.proofs.Judging.{stops, stops_at}
use Rattle.ibc_records.proofs.PacketChecks.{recv_begun, recv_found}
use Rattle.ibc_records.proofs.TakenPackets.{refused, not_shown, was_shown}
use Rattle.ibc_records.proofs.receiving.judge_recv.Goals as goal

pub returns-in_err-mine-clause-judged : goal.returns-in_err-mine-clause-judged
returns-in_err-mine-clause-judged c = λ chain chains seen state knowledge.
    refused _ c.from_residual.result c.from_residual.ensures.1 (stops_at _ c.in_err-mine.ensures.err (recv_begun c.args.records.now chain chains seen state c.args.message.now _ c.requires.form c.requires.reads))

pub returns-in_err-check_receivable-clause-judged : goal.returns-in_err-check_receivable-clause-judged
returns-in_err-check_receivable-clause-judged c = λ chain chains seen state knowledge.
    refused _ c.from_residual-in_err-check_receivable.result c.from_residual-in_err-check_receivable.ensures.1 (inl (fail _ (sym (c.in_err-check_receivable.ensures.checked chain chains)) (recv_found c.args.records.now chain chains seen state c.args.message.now _ c.requires.form c.requires.reads _ c.in_ok-mine.ensures.ok)))

pub returns-in_err-connection-clause-judged : goal.returns-in_err-connection-clause-judged
returns-in_err-connection-clause-judged c = λ chain chains seen state knowledge.
    refused _ c.from_residual-in_err-connection.result c.from_residual-in_err-connection.ensures.1 (inl (fail _ c.in_err-connection.ensures.failed (pass (sym (c.in_ok-check_receivable.ensures.checked chain chains)) (recv_found c.args.records.now chain chains seen state c.args.message.now _ c.requires.form c.requires.reads _ c.in_ok-mine.ensures.ok))))

pub returns-in_err-check_sent-clause-judged : goal.returns-in_err-check_sent-clause-judged
returns-in_err-check_sent-clause-judged c = λ chain chains seen state knowledge.
    refused _ c.from_residual-in_err-check_sent.result c.from_residual-in_err-check_sent.ensures.1 (stops _ (not_shown c.args.records.now seen state _ _ c.in_ok-connection.ensures.there knowledge c.args.message.now.height (was_sent c.args.message.now.packet) _ _ c.requires.reads c.in_err-check_sent.ensures) (pass c.in_ok-connection.ensures.passed (pass (sym (c.in_ok-check_receivable.ensures.checked chain chains)) (recv_found c.args.records.now chain chains seen state c.args.message.now _ c.requires.form c.requires.reads _ c.in_ok-mine.ensures.ok))))

pub returns-clause-judged : goal.returns-clause-judged
returns-clause-judged c = λ chain chains seen state knowledge.
    pass (was_shown c.args.records.now seen state _ _ c.in_ok-connection.ensures.there knowledge c.args.message.now.height (was_sent c.args.message.now.packet) _ _ c.requires.reads c.in_ok-check_sent.ensures) (pass c.in_ok-connection.ensures.passed (pass (sym (c.in_ok-check_receivable.ensures.checked chain chains)) (recv_found c.args.records.now chain chains seen state c.args.message.now _ c.requires.form c.requires.reads _ c.in_ok-mine.ensures.ok)))
