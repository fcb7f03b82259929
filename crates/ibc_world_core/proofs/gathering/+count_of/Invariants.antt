use Rattle.std.proofs.Common.{length}
use Rattle.ibc_world_core.proofs.gathering.+count_of.Given as goal

abbrev pub decreases-count_of : goal.decreases-count_of
decreases-count_of l = length l.ledgers.now
