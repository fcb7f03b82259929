-- Each check of the code is the definition's, behind those before it.
use Rattle.std.proofs.Common.{Some, Ok, sym, ap, ◌∙◌, inl}
use Rattle.ibc_ids.specs.declared.refusal.Refusal.TheVariants.{WrongState}
use Rattle.ibc_wire.specs.declared.records.ConnectionState.TheVariants.{Open}
use Rattle.ibc_machine.specs.declared.reply.Effect.TheVariants as effect
use Rattle.ibc_machine.specs.chain.Records.{with_connection}
use Rattle.ibc_machine.specs.chain.Checks.{expect}
use Rattle.ibc_machine.specs.ics03.Connections.{connection_end}
use Rattle.ibc_machine.proofs.PassedChecks.{pass, fail, miss}
use Rattle.ibc_records.specs.RecordsModel.{core_of}
use Rattle.ibc_records.proofs.Judging.{failed, passed, stops}
use Rattle.ibc_connection.proofs.Handshake.{refused, confirm_gone, confirm_found, confirm_named}
use Rattle.ibc_connection.proofs.opening_confirm.judge_confirm.Goals as goal

pub returns-in_default : goal.returns-in_default
returns-in_default c = λ chain chains seen state knows. inl (confirm_gone c.args.records.now chain chains seen state c.args.message.now _ c.requires c.in_default.ensures)

pub returns-in_err-check_state : goal.returns-in_err-check_state
returns-in_err-check_state c = λ chain chains seen state knows. refused _ c.from_residual.result c.from_residual.ensures.1 (inl (fail _ (sym c.in_err-check_state.ensures) (confirm_found c.args.records.now chain chains seen state c.args.message.now _ c.requires _ c.in-Some.ensures)))

pub returns-in_default-peer_connection : goal.returns-in_default-peer_connection
returns-in_default-peer_connection c = λ chain chains seen state knows.
    inl (miss _ (ap (λ o. expect o WrongState) c.in_default-peer_connection.is) (pass (sym c.in_ok-check_state.ensures) (confirm_found c.args.records.now chain chains seen state c.args.message.now _ c.requires _ c.in-Some.ensures)))

pub returns-in_err-check_known : goal.returns-in_err-check_known
returns-in_err-check_known c = λ chain chains seen state knows.
    refused _ c.from_residual-in_err-check_known.result c.from_residual-in_err-check_known.ensures.1
    (inl (fail _ (sym c.in_err-check_known.ensures) (confirm_named c.args.records.now chain chains seen state c.args.message.now _ c.requires _ _ c.in-Some.ensures (sym c.in_ok-check_state.ensures) c.in-Some-peer_connection.is)))

pub returns-in_err-check_opened : goal.returns-in_err-check_opened
returns-in_err-check_opened c = λ chain chains seen state knows.
    refused _ c.from_residual-in_err-check_opened.result c.from_residual-in_err-check_opened.ensures.1
    (stops _ (failed (c.in_err-check_opened.ensures seen state _ knows c.requires)) (pass (sym c.in_ok-check_known.ensures) (confirm_named c.args.records.now chain chains seen state c.args.message.now _ c.requires _ _ c.in-Some.ensures (sym c.in_ok-check_state.ensures) c.in-Some-peer_connection.is)))

pub returns : goal.returns
returns c = λ chain chains seen state knows.
    pass (passed (c.in_ok-check_opened.ensures seen state _ knows c.requires)) (pass (sym c.in_ok-check_known.ensures) (confirm_named c.args.records.now chain chains seen state c.args.message.now _ c.requires _ _ c.in-Some.ensures (sym c.in_ok-check_state.ensures) c.in-Some-peer_connection.is))
    ∙ (λ i. Ok (effect.None, with_connection c.args.message.now.connection (connection_end Open ((sym c.in_ok-clone.ensures.cases) i) ((sym c.in_ok-clone-2.ensures.cases) i) ((c.in-Some-peer_connection.is ∙ ap Some (sym c.in_ok-clone-3.ensures.cases)) i)) (core_of c.args.records.now)))
