use Rattle.std.proofs.Common.{length}
use Rattle.ibc_merkle.proofs.tree.+tree_root_of.Given as goal

abbrev pub decreases-tree_root_of : goal.decreases-tree_root_of
decreases-tree_root_of l = length l.entries.now
