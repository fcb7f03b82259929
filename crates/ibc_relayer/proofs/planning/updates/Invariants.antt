-- The updates so far, and those of the clients that the iterator has left, are all.
use Rattle.std.proofs.Common.{◌≡◌, ◌++◌, map, filter}
use Rattle.ibc_machine.specs.ics18.Relay.{update_of}
use Rattle.ibc_records.specs.RecordsModel.{abstract_client_entry}
use Rattle.ibc_relayer.specs.UsedClients.{is_to_update}
use Rattle.ibc_relayer.proofs.planning.updates.Given as goal

abbrev pub invariant-loop-id : goal.invariant-loop-id
invariant-loop-id l =
    l.updates.items ++ map (update_of l.a) (filter (is_to_update l.a l.used.entries) (map abstract_client_entry l.id-iterator)) ≡ map (update_of l.a) (filter (is_to_update l.a l.used.entries) l.b.core.clients)
