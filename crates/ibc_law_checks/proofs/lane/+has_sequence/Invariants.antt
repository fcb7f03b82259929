use Rattle.std.proofs.Common.{length}
use Rattle.ibc_law_checks.proofs.lane.+has_sequence.Given as goal

abbrev pub decreases-has_sequence : goal.decreases-has_sequence
decreases-has_sequence l = length l.packets.now
