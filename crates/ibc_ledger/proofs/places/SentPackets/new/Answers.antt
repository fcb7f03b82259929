-- Packets are told apart by their ends and sequences.
use Rattle.ibc_ledger.proofs.SentPlaces.{by_sent_name}
use Rattle.ibc_ledger.proofs.places.SentPackets.new.Goals as goal

pub new-requires-clause-order : goal.new-requires-clause-order
new-requires-clause-order c = by_sent_name.exact
