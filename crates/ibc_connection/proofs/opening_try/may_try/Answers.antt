-- The client is there, and each check behind it is the definition's.
use Rattle.std.proofs.Common.{Err, refl, sym, ap, ◌∙◌}
use Rattle.std.proofs.lemmas.Result.{err_from_is_err_and}
use Rattle.ibc_ids.specs.declared.refusal.Refusal.TheVariants.{WrongSelfClient}
use Rattle.ibc_machine.specs.chain.Checks.{require}
use Rattle.ibc_machine.proofs.PassedChecks.{pass, fail}
use Rattle.ibc_records.specs.RecordsModel.{core_of}
use Rattle.ibc_connection.proofs.Handshake.{no_client, behind_client}
use Rattle.ibc_connection.proofs.opening_try.may_try.Goals as goal

pub returns-in_err-check_client-clause-checked : goal.returns-in_err-check_client-clause-checked
returns-in_err-check_client-clause-checked c =
    let p = err_from_is_err_and c.from_residual.result c.from_residual.ensures.1 in
    λ chains. p.1 ∙ ap Err p.2 ∙ no_client (core_of c.args.records.now) c.args.message.now.client _ c.in_err-check_client.ensures

pub returns-then-not-names_host-clause-checked : goal.returns-then-not-names_host-clause-checked
returns-then-not-names_host-clause-checked c = λ chains.
    behind_client (core_of c.args.records.now) c.args.message.now.client _ c.in_ok-check_client.ensures
    (sym (fail _ (ap (λ b. require b WrongSelfClient) (sym c.if-not-names_host.ensures)) refl))

pub returns-in_err-check_number-clause-checked : goal.returns-in_err-check_number-clause-checked
returns-in_err-check_number-clause-checked c =
    let p = err_from_is_err_and c.from_residual-in_err-check_number.result c.from_residual-in_err-check_number.ensures.1 in
    λ chains. p.1 ∙ ap Err p.2
    ∙ behind_client (core_of c.args.records.now) c.args.message.now.client _ c.in_ok-check_client.ensures
    (sym (fail _ (sym c.in_err-check_number.ensures.checked) (pass (ap (λ b. require b WrongSelfClient) (sym c.if-not-names_host.ensures)) refl)))

pub returns-in_err-check_known-clause-checked : goal.returns-in_err-check_known-clause-checked
returns-in_err-check_known-clause-checked c =
    let p = err_from_is_err_and c.from_residual-in_err-check_known.result c.from_residual-in_err-check_known.ensures.1 in
    λ chains. p.1 ∙ ap Err p.2
    ∙ behind_client (core_of c.args.records.now) c.args.message.now.client _ c.in_ok-check_client.ensures
    (c.in_err-check_known.ensures ∙ sym (pass (sym c.in_ok-check_number.ensures.checked) (pass (ap (λ b. require b WrongSelfClient) (sym c.if-not-names_host.ensures)) refl)))

pub returns-clause-checked : goal.returns-clause-checked
returns-clause-checked c = λ chains.
    behind_client (core_of c.args.records.now) c.args.message.now.client _ c.in_ok-check_client.ensures
    (c.in_ok-check_known.ensures ∙ sym (pass (sym c.in_ok-check_number.ensures.checked) (pass (ap (λ b. require b WrongSelfClient) (sym c.if-not-names_host.ensures)) refl)))
