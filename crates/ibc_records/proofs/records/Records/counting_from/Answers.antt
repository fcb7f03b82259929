-- The three counters are the image of the core.
use Rattle.std.proofs.Common.{ap}
use Rattle.ibc_records.proofs.NewRecords.{new_held_records}
use Rattle.ibc_records.proofs.records.Records.counting_from.Goals as goal

pub invariant_of-result : goal.invariant_of-result
invariant_of-result c =
    (new_held_records (c.no_clients.result.pairs, c.no_connections.result.pairs, c.no_channels.result.pairs, record { core = c.in_ok-last.last.value; time = 0 }) c.args.window c.args.time c.args.next c.new-store.result c.reserve.new.self c.set_reserved.new.store c.set_reserved-2.new.store c.set_reserved-3.new.store
    c.no_clients.ensures c.no_connections.ensures c.no_channels.ensures (ap (λ core. record { core = core; time = 0 }) c.in_ok-last.ensures) c.new-store.ensures.pairs c.new-store.ensures.time c.new-store.ensures.window c.new-store.ensures.gone c.new-store.ensures.kept c.new-store.ensures.hashed
    c.in_ok-reserve.ensures.same c.set_reserved.ensures.set c.set_reserved-2.ensures.set c.set_reserved-3.ensures.set
    c.in_ok-path.ensures.path c.in_ok-path-2.ensures.path c.in_ok-path-3.ensures.path
    c.in_ok-path.ensures.number c.in_ok-path-2.ensures.number c.in_ok-path-3.ensures.number).0

pub returns-clause-ok : goal.returns-clause-ok
returns-clause-ok c =
    (new_held_records (c.no_clients.result.pairs, c.no_connections.result.pairs, c.no_channels.result.pairs, record { core = c.in_ok-last.last.value; time = 0 }) c.args.window c.args.time c.args.next c.new-store.result c.reserve.new.self c.set_reserved.new.store c.set_reserved-2.new.store c.set_reserved-3.new.store
    c.no_clients.ensures c.no_connections.ensures c.no_channels.ensures (ap (λ core. record { core = core; time = 0 }) c.in_ok-last.ensures) c.new-store.ensures.pairs c.new-store.ensures.time c.new-store.ensures.window c.new-store.ensures.gone c.new-store.ensures.kept c.new-store.ensures.hashed
    c.in_ok-reserve.ensures.same c.set_reserved.ensures.set c.set_reserved-2.ensures.set c.set_reserved-3.ensures.set
    c.in_ok-path.ensures.path c.in_ok-path-2.ensures.path c.in_ok-path-3.ensures.path
    c.in_ok-path.ensures.number c.in_ok-path-2.ensures.number c.in_ok-path-3.ensures.number).1
