use Rattle.ibc_ledger.proofs.Common.{refl, sym, ap, ◌∙◌, Ok, Err, nth_connection, handle}
use Rattle.ibc_machine.specs.declared.reply.Effect.TheVariants as effect
use Rattle.ibc_ledger.proofs.Answered.{core_answered, no_memory, passed_on}
use Rattle.ibc_ledger.proofs.host_state.HostState.conn_open_try.Goals as goal

pub returns-in_err-name : goal.returns-in_err-name
returns-in_err-name c = no_memory _ _ c.requires _ (passed_on c.from_residual.ensures.1) c.in_err-name.ensures.memory

pub returns-in_err-id : goal.returns-in_err-id
unfolding handle
returns-in_err-id c = core_answered _ _ c.requires tt effect.Connection _ refl _ (Err c.in_err-id.field-0.0) (c.in_err-id.ensures.answer c.args.self.now.chains) (λ _. refl) _ (passed_on c.from_residual-in_err-id.ensures.1)

pub returns : goal.returns
unfolding handle
returns c =
    core_answered _ _ c.requires tt effect.Connection _ refl _ (Ok c.in_ok-id.id) (c.in_ok-id.ensures.answer c.args.self.now.chains) (λ _. refl) _
    (ap (λ name. Ok (record { told = effect.Connection c.in_ok-id.id; kept = effect.Connection name })) (c.in_ok-name.ensures.ok ∙ ap nth_connection c.next_connection.ensures ∙ sym c.in_ok-id.ensures.named))
