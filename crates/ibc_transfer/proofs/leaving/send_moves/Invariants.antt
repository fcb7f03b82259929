-- The moves so far are those of the tokens before the place.
use Rattle.std.proofs.Common.{◌≡◌, map, take}
use Rattle.ibc_transfer.specs.BankTransfers.{send_move}
use Rattle.ibc_transfer.proofs.leaving.send_moves.Given as goal

abbrev pub invariant-loop-token : goal.invariant-loop-token
invariant-loop-token l = l.moves.items ≡ map (send_move l.channel l.user) (take l.token-index l.tokens)
