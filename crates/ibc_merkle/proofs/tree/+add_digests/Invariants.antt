use Rattle.std.proofs.Common.{length}
use Rattle.ibc_merkle.proofs.tree.+add_digests.Given as goal

abbrev pub decreases-add_digests : goal.decreases-add_digests
decreases-add_digests l = length l.entries.now
