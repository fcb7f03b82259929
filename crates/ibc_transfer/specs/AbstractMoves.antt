-- Moves of tokens in plain.
use Rattle.std.specs.Prelude.{◌≡◌, List, Option, Result, Ok, Err, option_map}
use Rattle.std.specs.Global.{Vec}
use Rattle.ibc_ids.specs.Texts.{Text}
use Rattle.ibc_wire.specs.declared.packet.Packet.{Packet}
use Rattle.ibc_wire.specs.declared.token.Token.{Token}
use Rattle.ibc_bank.specs.declared.moves.Move.{Move}
use Rattle.ibc_transfer.specs.declared.acks.Failure.{Failure}
use Rattle.ibc_transfer.specs.TokenArrival.{receive_moves}

abbrev pub abstract_moves : Vec Move → List Move
abstract_moves moves = moves.items

abbrev pub abstract_arrival : Result (Vec Move) Failure → Result (List Move) Failure
abstract_arrival (Ok moves) = Ok moves.items
abstract_arrival (Err why) = Err why

-- the moves that bring a packet's tokens to a user, or none where one can't be named here
abbrev pub BringsTokens : Packet → Text → List Token → Option (Vec Move) → Type 0
BringsTokens p user tokens moves = option_map abstract_moves moves ≡ receive_moves p user tokens
