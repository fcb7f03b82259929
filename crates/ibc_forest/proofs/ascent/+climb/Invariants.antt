use Rattle.std.proofs.Common.{length}
use Rattle.ibc_forest.proofs.ascent.+climb.Given as goal

abbrev pub decreases-climb : goal.decreases-climb
decreases-climb l = length l.rows.now
