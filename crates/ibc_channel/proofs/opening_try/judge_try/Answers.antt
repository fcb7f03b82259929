-- Each check of the code is the definition's, behind those before it.
use Rattle.std.proofs.Common.{Ok, Err, refl, sym, ap, ◌∙◌, inl, inr}
use Rattle.ibc_wire.specs.declared.records.ChannelEnd.{ChannelEnd}
use Rattle.ibc_machine.specs.chain.Records.{connection_at}
use Rattle.ibc_machine.proofs.PassedChecks.{pass, fail}
use Rattle.ibc_records.specs.RecordsModel.{core_of}
use Rattle.ibc_records.proofs.Judging.{failed, passed, stops}
use Rattle.ibc_channel.specs.ChannelHandshake.{new_end}
use Rattle.ibc_channel.proofs.Handshake.{refused, port_there, port_gone, made_try, shown_try, try_begun}
use Rattle.ibc_channel.proofs.opening_try.judge_try.Goals as goal

pub returns-in_default-clause-judged : goal.returns-in_default-clause-judged
returns-in_default-clause-judged g c = λ chain chains seen state knows. inl (fail _ (port_gone c.in_default.is) (try_begun c.args.records.now chain chains seen state _ _ c.args.message.now _ c.requires))

pub returns-in_err-check_connection-clause-judged : goal.returns-in_err-check_connection-clause-judged
returns-in_err-check_connection-clause-judged g c = λ chain chains seen state knows.
    refused _ c.from_residual.result c.from_residual.ensures.1
    (inl (fail _ (sym c.in_err-check_connection.ensures) (pass (port_there c.in-Some.is) (try_begun c.args.records.now chain chains seen state _ _ c.args.message.now _ c.requires))))

pub returns-in_err-check_open-clause-judged : goal.returns-in_err-check_open-clause-judged
returns-in_err-check_open-clause-judged g c = λ chain chains seen state knows.
    refused _ c.from_residual-in_err-check_open.result c.from_residual-in_err-check_open.ensures.1
    (inl (fail _ (sym c.in_err-check_open.ensures) (pass (sym c.in_ok-check_connection.ensures) (pass (port_there c.in-Some.is) (try_begun c.args.records.now chain chains seen state _ _ c.args.message.now _ c.requires)))))

pub returns-in_err-on_open-clause-judged : goal.returns-in_err-on_open-clause-judged
returns-in_err-on_open-clause-judged g c = λ chain chains seen state knows.
    refused _ c.from_residual-in_err-on_open.result c.from_residual-in_err-on_open.ensures.1
    (inl (fail _ (sym c.in_err-on_open.ensures) (pass (sym c.in_ok-check_open.ensures) (pass (sym c.in_ok-check_connection.ensures) (pass (port_there c.in-Some.is) (try_begun c.args.records.now chain chains seen state _ _ c.args.message.now _ c.requires))))))

pub returns-in_err-check_number-clause-judged : goal.returns-in_err-check_number-clause-judged
returns-in_err-check_number-clause-judged g c = λ chain chains seen state knows.
    refused _ c.from_residual-in_err-check_number.result c.from_residual-in_err-check_number.ensures.1
    (inl (fail _ (sym c.in_err-check_number.ensures.checked) (pass (sym c.in_ok-on_open.ensures) (pass (sym c.in_ok-check_open.ensures) (pass (sym c.in_ok-check_connection.ensures) (pass (port_there c.in-Some.is) (try_begun c.args.records.now chain chains seen state _ _ c.args.message.now _ c.requires)))))))

pub returns-in_err-connection-clause-judged : goal.returns-in_err-connection-clause-judged
returns-in_err-connection-clause-judged g c = λ chain chains seen state knows.
    refused _ c.from_residual-in_err-connection.result c.from_residual-in_err-connection.ensures.1
    (inl (fail _ c.in_err-connection.ensures.failed (pass (sym c.in_ok-check_number.ensures.checked) (pass (sym c.in_ok-on_open.ensures) (pass (sym c.in_ok-check_open.ensures) (pass (sym c.in_ok-check_connection.ensures) (pass (port_there c.in-Some.is) (try_begun c.args.records.now chain chains seen state _ _ c.args.message.now _ c.requires))))))))

pub returns-in_err-clone-clause-judged : goal.returns-in_err-clone-clause-judged
returns-in_err-clone-clause-judged g c = λ chain chains seen state knows. refused _ c.from_residual-in_err-clone.result c.from_residual-in_err-clone.ensures.1 (inr refl)

pub returns-in_err-mine-clause-judged : goal.returns-in_err-mine-clause-judged
returns-in_err-mine-clause-judged g c = λ chain chains seen state knows. refused _ c.from_residual-in_err-mine.result c.from_residual-in_err-mine.ensures.1 (inr c.in_err-mine.ensures.err)

pub check_begun-requires-clause-there : goal.check_begun-requires-clause-there
check_begun-requires-clause-there g c =
    ap (λ (end : ChannelEnd). connection_at (core_of c.args.records.now) end.connection) (made_try c.args.message.now c.in_ok-mine.ensures.ok c.in_ok-clone.ensures.cases) ∙ c.in_ok-connection.ensures.there

pub returns-in-Ok-clause-judged : goal.returns-in-Ok-clause-judged
returns-in-Ok-clause-judged g c =
    let mine = made_try c.args.message.now c.in_ok-mine.ensures.ok c.in_ok-clone.ensures.cases in
    let shown = shown_try c.args.records.now c.args.message.now c.args.proof.now (Ok tt) mine c.in-Ok.ensures in
    λ chain chains seen state knows.
    pass (passed (shown seen state c.args.message.now.proof knows c.requires))
    (pass c.in_ok-connection.ensures.passed (pass (sym c.in_ok-check_number.ensures.checked) (pass (sym c.in_ok-on_open.ensures) (pass (sym c.in_ok-check_open.ensures) (pass (sym c.in_ok-check_connection.ensures) (pass (port_there c.in-Some.is) (try_begun c.args.records.now chain chains seen state _ _ c.args.message.now _ c.requires)))))))
    ∙ ap (λ (end : ChannelEnd). Ok (new_end c.args.message.now.port end (core_of c.args.records.now))) (sym mine)

pub returns-in-Err-clause-judged : goal.returns-in-Err-clause-judged
returns-in-Err-clause-judged g c =
    let mine = made_try c.args.message.now c.in_ok-mine.ensures.ok c.in_ok-clone.ensures.cases in
    let shown = shown_try c.args.records.now c.args.message.now c.args.proof.now (Err c.in-Err.refusal) mine c.in-Err.ensures in
    λ chain chains seen state knows.
    stops _ (failed (shown seen state c.args.message.now.proof knows c.requires))
    (pass c.in_ok-connection.ensures.passed (pass (sym c.in_ok-check_number.ensures.checked) (pass (sym c.in_ok-on_open.ensures) (pass (sym c.in_ok-check_open.ensures) (pass (sym c.in_ok-check_connection.ensures) (pass (port_there c.in-Some.is) (try_begun c.args.records.now chain chains seen state _ _ c.args.message.now _ c.requires)))))))
