use Rattle.std.proofs.Common.{length}
use Rattle.ibc_wire.proofs.token.+is_rising.Given as goal

abbrev pub decreases-is_rising : goal.decreases-is_rising
decreases-is_rising l = length l.tokens.now
