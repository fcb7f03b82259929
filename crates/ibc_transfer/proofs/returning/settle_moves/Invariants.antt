-- The moves so far stand before those of the tokens that are left.
use Rattle.std.proofs.Common.{◌≡◌, ◌++◌, drop}
use Rattle.ibc_transfer.specs.TokenRefunds.{settle_moves}
use Rattle.ibc_transfer.proofs.returning.settle_moves.Given as goal

abbrev pub invariant-loop-token : goal.invariant-loop-token
invariant-loop-token l = settle_moves l.channel l.tokens ≡ l.moves.items ++ settle_moves l.channel (drop l.token-index l.tokens)
