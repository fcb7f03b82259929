-- The store is again the image of the core, in which the connection has the new end.
use Rattle.std.proofs.Common.{subst}
use Rattle.ibc_records.specs.RecordsModel.{RecordsModel, SetsConnection}
use Rattle.ibc_records.specs.RecordsFields.{records_model}
use Rattle.ibc_records.proofs.Connections.{sets}
use Rattle.ibc_records.proofs.records.Records.set_connection.Goals as goal

pub invariant_of-self-2 : goal.invariant_of-self-2
invariant_of-self-2 c =
    let old : RecordsModel = records_model c.self.inside in
    (sets old c.args.id c.args.end c.insert.new.map.pairs c.in_ok-insert.ensures.ok c.self.invariant c.connection_path.ensures.named
    c.reserve.new.self c.set_reserved.new.store c.in_ok-path.ensures.ok c.in_ok-value.ensures.ok c.in_ok-reserve.ensures.same c.set_reserved.ensures.set).0

pub returns-clause-ok : goal.returns-clause-ok
returns-clause-ok c =
    let old : RecordsModel = records_model c.self.inside in
    subst (λ (before : RecordsModel). SetsConnection before c.args.id c.args.end (record old { connections = c.insert.new.map.pairs; store = c.set_reserved.new.store })) c.self.view_is
    (sets old c.args.id c.args.end c.insert.new.map.pairs c.in_ok-insert.ensures.ok c.self.invariant c.connection_path.ensures.named
    c.reserve.new.self c.set_reserved.new.store c.in_ok-path.ensures.ok c.in_ok-value.ensures.ok c.in_ok-reserve.ensures.same c.set_reserved.ensures.set).1
