use Rattle.ibc_ledger.proofs.Common.{refl, sym, ap, ◌∙◌, Ok, Err, None, nth_client, proof_evidence, handle, create_client, host_with, core_of}
use Rattle.ibc_records.proofs.TakenUpdates.{created_taken}
use Rattle.ibc_machine.specs.declared.reply.Effect.TheVariants as effect
use Rattle.ibc_ledger.proofs.Answered.{core_answered, no_memory, passed_on}
use Rattle.ibc_ledger.proofs.host_state.HostState.create_client.Goals as goal

pub returns-in_err-name : goal.returns-in_err-name
returns-in_err-name c = no_memory _ _ c.requires _ (passed_on c.from_residual.ensures.1) c.in_err-name.ensures.memory

pub returns-in_err-id : goal.returns-in_err-id
unfolding handle
returns-in_err-id c =
    let host = host_with c.args.self.now.number c.args.self.now.chains c.args.self.now.records in
    core_answered _ _ c.requires tt effect.Client _ refl _ (Err c.in_err-id.field-0.0)
    (λ seen state knows. created_taken (create_client c.args.message.now (proof_evidence seen None state) host (core_of c.args.self.now.records)) c.args.message.now c.args.self.now.records c.create.new.records (Err c.in_err-id.field-0.0)
    (c.in_err-id.ensures.answer (proof_evidence seen None state) host.height host.time)) (λ _. refl) _ (passed_on c.from_residual-in_err-id.ensures.1)

pub returns : goal.returns
unfolding handle
returns c =
    let host = host_with c.args.self.now.number c.args.self.now.chains c.args.self.now.records in
    core_answered _ _ c.requires tt effect.Client _ refl _ (Ok c.in_ok-id.id)
    (λ seen state knows. created_taken (create_client c.args.message.now (proof_evidence seen None state) host (core_of c.args.self.now.records)) c.args.message.now c.args.self.now.records c.create.new.records (Ok c.in_ok-id.id)
    (c.in_ok-id.ensures.answer (proof_evidence seen None state) host.height host.time)) (λ _. refl) _
    (ap (λ name. Ok (record { told = effect.Client c.in_ok-id.id; kept = effect.Client name })) (c.in_ok-name.ensures.ok ∙ ap nth_client c.next_client.ensures ∙ sym c.in_ok-id.ensures.named))
