-- The moves that bring the tokens of a packet that came, and the acknowledgement that tells of them (ICS 20,
-- "onRecvPacket").
use Rattle.std.specs.Prelude.{◌≡◌, List, [], ◌∷◌, codes, Option, Some, None, Result, Ok, Err, IsTrue, MatchOption, if◌then◌else◌}
use Rattle.std.specs.Option.{option_map, option_and_then}
use Rattle.ibc_ids.specs.Texts.{Text}
use Rattle.ibc_ids.specs.Names.{is_user, came_over}
use Rattle.ibc_wire.specs.declared.packet.Packet.{Packet}
use Rattle.ibc_wire.specs.declared.token.Token.{Token}
use Rattle.ibc_machine.specs.chain.Checks.{Checked}
use Rattle.ibc_machine.specs.ics20.TokenData.{Data, data_of, success, error}
use Rattle.ibc_machine.specs.ics20.Transfers.{without_hop, with_hop}
use Rattle.ibc_bank.specs.Moves.{BankState, after_moves}
use Rattle.ibc_bank.specs.declared.moves.Move.{Move}
use Rattle.ibc_bank.specs.declared.moves.Move.TheVariants as move
use Rattle.ibc_transfer.specs.declared.acks.Failure.{Failure}
use Rattle.ibc_transfer.specs.declared.acks.Failure.TheVariants as failure

-- minted with one hop more, where that isn't too long
abbrev pub mint_move : Packet → Text → Token → Option Move
mint_move p user token = option_map (λ (hopped : Token). move.Mint user hopped.denom hopped.amount) (with_hop p token)

-- home out of the escrow where it came from here, or else minted
abbrev pub receive_move : Packet → Text → Token → Option Move
receive_move p user token =
    if came_over p.source_port p.source_channel token.denom
    then Some (move.Release p.destination_channel user (without_hop p token).denom token.amount)
    else mint_move p user token

abbrev pub receive_moves : Packet → Text → List Token → Option (List Move)
receive_moves p user [] = Some []
receive_moves p user (token ∷ tokens) =
    option_and_then (λ (first : Move). option_map (λ (moves : List Move). first ∷ moves) (receive_moves p user tokens))
    (receive_move p user token)

-- the user of the receiver's name, or none where no user can have it
abbrev pub IsUserNamed : Text → Option Text → Type 0
IsUserNamed receiver user = MatchOption user (¬ IsTrue (is_user receiver)) (λ name. (name ≡ receiver) × IsTrue (is_user receiver))

-- ---- what a packet brings

abbrev pub within_limits : Option (List Move) → Result (List Move) Failure
within_limits (Some moves) = Ok moves
within_limits None = Err failure.OverLimit

abbrev pub arrival_of : Packet → Option Data → Result (List Move) Failure
arrival_of p None = Err failure.BadData
arrival_of p (Some d) =
    if is_user d.receiver then within_limits (receive_moves p d.receiver d.tokens) else Err failure.BadReceiver

-- the moves of the packet's tokens, or why there are none
abbrev pub arrival_moves : Text → Packet → Result (List Move) Failure
arrival_moves version p = arrival_of p (data_of version p.payload)

-- ---- acknowledgements

abbrev pub failure_ack : Failure → Text
failure_ack failure.BadData = error (codes "bad data")
failure_ack failure.BadReceiver = error (codes "bad receiver")
failure_ack failure.OverLimit = error (codes "over limit")

-- a success with what was moved, or an error, and all as before
abbrev pub arrival_result : BankState → Checked BankState → Text × BankState
arrival_result bank (Ok after) = (success, after)
arrival_result bank (Err refusal) = (failure_ack failure.OverLimit, bank)

-- the moves were made, or none, and this is the acknowledgement
abbrev pub TakesMoves : BankState → List Move → Text → BankState → Type 0
TakesMoves bank moves ack after = (ack, after) ≡ arrival_result bank (after_moves moves bank)

abbrev pub after_arrival : BankState → Result (List Move) Failure → Text × BankState
after_arrival bank (Ok moves) = arrival_result bank (after_moves moves bank)
after_arrival bank (Err why) = (failure_ack why, bank)
