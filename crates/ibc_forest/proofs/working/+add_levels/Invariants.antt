use Rattle.std.proofs.Common.{length}
use Rattle.ibc_forest.proofs.working.+add_levels.Given as goal

abbrev pub decreases-add_levels : goal.decreases-add_levels
decreases-add_levels l = length l.row.items
