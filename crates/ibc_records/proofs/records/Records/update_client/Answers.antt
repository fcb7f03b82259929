-- The store is again the image of the core, in which the client knows a height more.
use Rattle.std.proofs.Common.{◌≡◌, max, ap, ◌∙◌, sym, subst}
use Rattle.std.specs.Prelude.{IfSome}
use Rattle.ibc_ids.specs.Texts.{text_cmp}
use Rattle.ibc_ids.specs.Maps.{with}
use Rattle.ibc_machine.specs.ics24.Values.{ClientIs, value_bytes}
use Rattle.ibc_records.specs.ClientModels.{with_height}
use Rattle.ibc_records.specs.RecordsModel.{RecordsModel, UpdatesClient}
use Rattle.ibc_records.specs.RecordsFields.{records_model}
use Rattle.ibc_records.proofs.UpdatedClients.{updated_from, is_there, is_not_there}
use Rattle.ibc_records.proofs.records.Records.update_client.Goals as goal

pub returns-in-None-clause-known : goal.returns-in-None-clause-known
returns-in-None-clause-known c = λ some. absurd (is_not_there _ c.args.self.now c.args.id.now c.in-None.ensures c.self.view_is some)

pub returns-in_err-value-clause-unknown : goal.returns-in_err-value-clause-unknown
returns-in_err-value-clause-unknown c = λ none. absurd (is_there _ c.args.self.now c.args.id.now _ c.in-Some.ensures c.self.view_is none)

pub returns-in_err-path-clause-unknown : goal.returns-in_err-path-clause-unknown
returns-in_err-path-clause-unknown c = λ none. absurd (is_there _ c.args.self.now c.args.id.now _ c.in-Some.ensures c.self.view_is none)

pub returns-in_err-reserve-clause-unknown : goal.returns-in_err-reserve-clause-unknown
returns-in_err-reserve-clause-unknown c = λ none. absurd (is_there _ c.args.self.now c.args.id.now _ c.in-Some.ensures c.self.view_is none)

pub invariant_of-self-2 : goal.invariant_of-self-2
invariant_of-self-2 c =
    (updated_from (records_model c.self.inside)
    c.args.id.now c.args.height c.args.known c.in-Some.client.now c.learn.new.clients.pairs c.reserve.new.self c.set_reserved.new.store c.self.invariant c.client_path.ensures.named (sym c.in-Some.ensures)
    (subst (λ o. IfSome o (λ client. c.learn.new.clients.pairs ≡ with text_cmp c.args.id.now (with_height c.args.height c.args.known client) c.self.inside.clients.pairs)) (sym c.in-Some.ensures) c.in_ok-learn.ensures.ok)
    c.in_ok-path.ensures.ok (c.in_ok-value.ensures.ok ∙ ap (λ latest. value_bytes (ClientIs (record { chain = c.state-state.result.chain; latest = latest }))) c.max-latest.ensures ∙ ap (λ state. value_bytes (ClientIs (record { chain = state.chain; latest = max state.latest c.args.height }))) c.state-state.ensures)
    c.in_ok-reserve.ensures.same c.set_reserved.ensures.set).0

pub returns-clause-ok : goal.returns-clause-ok
returns-clause-ok c =
    subst (λ (old : RecordsModel). UpdatesClient old c.args.id.now c.args.height c.args.known (record (records_model c.self.inside) { clients = c.learn.new.clients.pairs; store = c.set_reserved.new.store })) c.self.view_is
    (updated_from (records_model c.self.inside)
    c.args.id.now c.args.height c.args.known c.in-Some.client.now c.learn.new.clients.pairs c.reserve.new.self c.set_reserved.new.store c.self.invariant c.client_path.ensures.named (sym c.in-Some.ensures)
    (subst (λ o. IfSome o (λ client. c.learn.new.clients.pairs ≡ with text_cmp c.args.id.now (with_height c.args.height c.args.known client) c.self.inside.clients.pairs)) (sym c.in-Some.ensures) c.in_ok-learn.ensures.ok)
    c.in_ok-path.ensures.ok (c.in_ok-value.ensures.ok ∙ ap (λ latest. value_bytes (ClientIs (record { chain = c.state-state.result.chain; latest = latest }))) c.max-latest.ensures ∙ ap (λ state. value_bytes (ClientIs (record { chain = state.chain; latest = max state.latest c.args.height }))) c.state-state.ensures)
    c.in_ok-reserve.ensures.same c.set_reserved.ensures.set).1
