-- The moves so far are those of the tokens before the place.
use Rattle.std.proofs.Common.{◌≡◌, map, take}
use Rattle.ibc_transfer.specs.BankCallbacks.{refund_move}
use Rattle.ibc_transfer.proofs.returning.refund_moves.Given as goal

abbrev pub invariant-loop-token : goal.invariant-loop-token
invariant-loop-token l = l.moves.items ≡ map (refund_move l.channel l.user) (take l.token-index l.tokens)
