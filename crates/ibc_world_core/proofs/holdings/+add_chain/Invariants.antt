use Rattle.std.proofs.Common.{length}
use Rattle.ibc_world_core.proofs.holdings.+add_chain.Given as goal

abbrev pub decreases-add_chain : goal.decreases-add_chain
decreases-add_chain l = length l.ledgers.now
