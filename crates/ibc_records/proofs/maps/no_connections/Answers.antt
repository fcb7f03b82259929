-- Names are told apart by their texts.
use Rattle.ibc_machine.proofs.FiniteMaps.{by_text}
use Rattle.ibc_records.proofs.maps.no_connections.Goals as goal

pub new-requires-clause-order : goal.new-requires-clause-order
new-requires-clause-order c = by_text.exact
