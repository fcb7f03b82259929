-- The moves so far stand before those of the tokens that are left.
use Rattle.std.proofs.Common.{◌≡◌, drop}
use Rattle.ibc_transfer.specs.TokenArrival.{receive_moves}
use Rattle.ibc_transfer.proofs.Receiving.{behind}
use Rattle.ibc_transfer.proofs.arriving.receive_moves.Given as goal

abbrev pub invariant-loop-token : goal.invariant-loop-token
invariant-loop-token l =
    receive_moves l.packet l.user l.tokens ≡ behind l.moves.items (receive_moves l.packet l.user (drop l.token-index l.tokens))
