-- Ports and identifiers are told apart by their texts.
use Rattle.ibc_machine.proofs.FiniteMaps.{by_pair}
use Rattle.ibc_records.proofs.maps.no_channels.Goals as goal

pub new-requires-clause-order : goal.new-requires-clause-order
new-requires-clause-order c = by_pair.exact
