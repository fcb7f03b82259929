-- The store is again the image of the core, which has the new client.
use Rattle.std.proofs.Common.{◌+◌, ap, ◌∙◌, subst}
use Rattle.ibc_ids.specs.Texts.{text_cmp}
use Rattle.ibc_ids.specs.Maps.{with}
use Rattle.ibc_machine.specs.ics24.Values.{ClientIs, value_bytes}
use Rattle.ibc_records.specs.RecordsModel.{RecordsModel, AddsClient}
use Rattle.ibc_records.specs.RecordsFields.{records_model}
use Rattle.ibc_records.proofs.NewClients.{added}
use Rattle.ibc_records.proofs.records.Records.add_client.Goals as goal

pub invariant_of-self-2 : goal.invariant_of-self-2
invariant_of-self-2 c =
    (added (records_model c.self.inside)
    c.args.id c.args.chain c.insert.new.map.pairs c.reserve.new.self c.set_reserved.new.store c.set_reserved-2.new.store c.self.invariant c.client_path.ensures.named
    (c.in_ok-insert.ensures.ok ∙ ap (λ client. with text_cmp c.args.id client c.self.inside.clients.pairs) c.new-client.ensures)
    c.in_ok-path.ensures.ok (c.in_ok-value.ensures.ok ∙ ap (λ state. value_bytes (ClientIs state)) (c.state.ensures ∙ ap (λ client. client.state) c.new-client.ensures))
    c.in_ok-number_path.ensures.path c.in_ok-number_path.ensures.number c.in_ok-reserve.ensures.same c.set_reserved.ensures.set c.set_reserved-2.ensures.set).0

pub returns-clause-ok : goal.returns-clause-ok
returns-clause-ok c =
    subst (λ (old : RecordsModel). AddsClient old c.args.id c.args.chain (record (records_model c.self.inside) { clients = c.insert.new.map.pairs; next_client = c.self.inside.next_client + 1; store = c.set_reserved-2.new.store })) c.self.view_is
    (added (records_model c.self.inside)
    c.args.id c.args.chain c.insert.new.map.pairs c.reserve.new.self c.set_reserved.new.store c.set_reserved-2.new.store c.self.invariant c.client_path.ensures.named
    (c.in_ok-insert.ensures.ok ∙ ap (λ client. with text_cmp c.args.id client c.self.inside.clients.pairs) c.new-client.ensures)
    c.in_ok-path.ensures.ok (c.in_ok-value.ensures.ok ∙ ap (λ state. value_bytes (ClientIs state)) (c.state.ensures ∙ ap (λ client. client.state) c.new-client.ensures))
    c.in_ok-number_path.ensures.path c.in_ok-number_path.ensures.number c.in_ok-reserve.ensures.same c.set_reserved.ensures.set c.set_reserved-2.ensures.set).1
