-- Each check of the code is the definition's, behind those before it.
use Rattle.std.proofs.Common.{◌≡◌, Some, refl, sym, subst, inl, inr}
use Rattle.std.specs.Prelude.{IfOk}
use Rattle.ibc_ids.specs.Texts.{Text}
use Rattle.ibc_wire.specs.declared.records.ChannelState.TheVariants.{Open}
use Rattle.ibc_wire.specs.declared.records.ChannelEnd.{ChannelEnd}
use Rattle.ibc_machine.proofs.PassedChecks.{pass, fail}
use Rattle.ibc_records.proofs.Judging.{failed, passed, stops, stops_at, made}
use Rattle.ibc_channel.specs.ChannelHandshake.{after_ack}
use Rattle.ibc_channel.proofs.Handshake.{refused, ack_begun, ack_found}
use Rattle.ibc_channel.proofs.opening_ack.judge_ack.Goals as goal

pub returns-in_err-mine-clause-judged : goal.returns-in_err-mine-clause-judged
returns-in_err-mine-clause-judged c = λ chain chains seen state knows. refused _ c.from_residual.result c.from_residual.ensures.1 (stops_at _ c.in_err-mine.ensures.err (ack_begun c.args.records.now chain chains seen state c.args.message.now _ c.requires))

pub returns-in_err-check_state-clause-judged : goal.returns-in_err-check_state-clause-judged
returns-in_err-check_state-clause-judged c = λ chain chains seen state knows. refused _ c.from_residual-in_err-check_state.result c.from_residual-in_err-check_state.ensures.1 (inl (fail _ (sym c.in_err-check_state.ensures) (ack_found c.args.records.now chain chains seen state c.args.message.now _ c.requires _ c.in_ok-mine.ensures.ok)))

pub returns-in_err-check_open-clause-judged : goal.returns-in_err-check_open-clause-judged
returns-in_err-check_open-clause-judged c = λ chain chains seen state knows.
    refused _ c.from_residual-in_err-check_open.result c.from_residual-in_err-check_open.ensures.1 (inl (fail _ (sym c.in_err-check_open.ensures) (pass (sym c.in_ok-check_state.ensures) (ack_found c.args.records.now chain chains seen state c.args.message.now _ c.requires _ c.in_ok-mine.ensures.ok))))

pub returns-in_err-connection-clause-judged : goal.returns-in_err-connection-clause-judged
returns-in_err-connection-clause-judged c = λ chain chains seen state knows.
    refused _ c.from_residual-in_err-connection.result c.from_residual-in_err-connection.ensures.1
    (inl (fail _ c.in_err-connection.ensures.failed (pass (sym c.in_ok-check_open.ensures) (pass (sym c.in_ok-check_state.ensures) (ack_found c.args.records.now chain chains seen state c.args.message.now _ c.requires _ c.in_ok-mine.ensures.ok)))))

pub returns-in_err-check_answered-clause-judged : goal.returns-in_err-check_answered-clause-judged
returns-in_err-check_answered-clause-judged c = λ chain chains seen state knows.
    refused _ c.from_residual-in_err-check_answered.result c.from_residual-in_err-check_answered.ensures.1
    (stops _ (failed (c.in_err-check_answered.ensures seen state c.args.message.now.proof knows c.requires)) (pass c.in_ok-connection.ensures.passed (pass (sym c.in_ok-check_open.ensures) (pass (sym c.in_ok-check_state.ensures) (ack_found c.args.records.now chain chains seen state c.args.message.now _ c.requires _ c.in_ok-mine.ensures.ok)))))

pub returns-in_err-clone-clause-judged : goal.returns-in_err-clone-clause-judged
returns-in_err-clone-clause-judged c = λ chain chains seen state knows. refused _ c.from_residual-in_err-clone.result c.from_residual-in_err-clone.ensures.1 (inr refl)

pub returns-clause-judged : goal.returns-clause-judged
returns-clause-judged c = λ chain chains seen state knows.
    made _ _ (after_ack c.args.message.now c.in_ok-mine.mine.now) c.new_end.result
    (pass (passed (c.in_ok-check_answered.ensures seen state c.args.message.now.proof knows c.requires)) (pass c.in_ok-connection.ensures.passed (pass (sym c.in_ok-check_open.ensures) (pass (sym c.in_ok-check_state.ensures) (ack_found c.args.records.now chain chains seen state c.args.message.now _ c.requires _ c.in_ok-mine.ensures.ok)))))
    (subst (λ (peer : Text). IfOk c.new_end.result (λ (end : ChannelEnd). end ≡ record c.in_ok-mine.mine.now { state = Open; peer_channel = Some peer })) c.in_ok-clone.ensures.cases c.new_end.ensures.ok)
    c.new_end.ensures.err
