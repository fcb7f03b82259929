use Rattle.std.proofs.Common.{length}
use Rattle.ibc_merkle.proofs.writing.+add_operations.Given as goal

abbrev pub decreases-add_operations : goal.decreases-add_operations
decreases-add_operations l = length l.entries.now
