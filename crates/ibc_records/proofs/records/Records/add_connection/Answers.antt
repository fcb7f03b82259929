-- The store is again the image of the core, which has the new end of a connection.
use Rattle.std.proofs.Common.{◌+◌, subst}
use Rattle.ibc_records.specs.RecordsModel.{RecordsModel, AddsConnection}
use Rattle.ibc_records.specs.RecordsFields.{records_model}
use Rattle.ibc_records.proofs.Connections.{adds}
use Rattle.ibc_records.proofs.records.Records.add_connection.Goals as goal

pub invariant_of-self-2 : goal.invariant_of-self-2
invariant_of-self-2 c =
    let old : RecordsModel = records_model c.self.inside in
    (adds old c.args.id c.args.end c.insert.new.map.pairs c.in_ok-insert.ensures.ok c.self.invariant c.connection_path.ensures.named
    c.reserve.new.self c.set_reserved.new.store c.set_reserved-2.new.store c.in_ok-path.ensures.ok c.in_ok-value.ensures.ok
    c.in_ok-number_path.ensures.path c.in_ok-number_path.ensures.number c.in_ok-reserve.ensures.same c.set_reserved.ensures.set c.set_reserved-2.ensures.set).0

pub returns-clause-ok : goal.returns-clause-ok
returns-clause-ok c =
    let old : RecordsModel = records_model c.self.inside in
    subst (λ (before : RecordsModel). AddsConnection before c.args.id c.args.end (record old { connections = c.insert.new.map.pairs; next_connection = c.self.inside.next_connection + 1; store = c.set_reserved-2.new.store })) c.self.view_is
    (adds old c.args.id c.args.end c.insert.new.map.pairs c.in_ok-insert.ensures.ok c.self.invariant c.connection_path.ensures.named
    c.reserve.new.self c.set_reserved.new.store c.set_reserved-2.new.store c.in_ok-path.ensures.ok c.in_ok-value.ensures.ok
    c.in_ok-number_path.ensures.path c.in_ok-number_path.ensures.number c.in_ok-reserve.ensures.same c.set_reserved.ensures.set c.set_reserved-2.ensures.set).1
