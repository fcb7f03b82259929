-- The moves of a packet's tokens once the packet is settled (ICS 20, "onAcknowledgePacket" and "refundTokens").
use Rattle.std.specs.Prelude.{◌≡◌, Bool, List, [], ◌∷◌, map, Option, Some, None, if◌then◌else◌}
use Rattle.ibc_ids.specs.Texts.{Text, same_text}
use Rattle.ibc_wire.specs.declared.packet.Packet.{Packet}
use Rattle.ibc_wire.specs.declared.token.Token.{Token}
use Rattle.ibc_machine.specs.ics20.TokenData.{Data, data_of, success}
use Rattle.ibc_machine.specs.ics20.Transfers.{transfer_port, came_over}
use Rattle.ibc_bank.specs.declared.moves.Move.{Move}
use Rattle.ibc_bank.specs.declared.moves.Move.TheVariants as move
use Rattle.ibc_transfer.specs.BankCallbacks.{refund_move}

-- whether a denomination came over the channel, and so goes back over it
abbrev pub IsGoingBack : Text → Text → Bool → Type 0
IsGoingBack channel denom came = came ≡ came_over transfer_port channel denom

-- back to the sender
abbrev pub refunds_of : Text → Option Data → List Move
refunds_of channel None = []
refunds_of channel (Some d) = map (refund_move channel d.sender) d.tokens

abbrev pub refund_moves : Text → Packet → List Move
refund_moves version p = refunds_of p.source_channel (data_of version p.payload)

-- what went back over the channel isn't refunded any more
abbrev pub settle_moves : Text → List Token → List Move
settle_moves channel [] = []
settle_moves channel (token ∷ tokens) =
    if came_over transfer_port channel token.denom
    then move.Settle token.denom token.amount ∷ settle_moves channel tokens
    else settle_moves channel tokens

abbrev pub settlements_of : Text → Option Data → List Move
settlements_of channel None = []
settlements_of channel (Some d) = settle_moves channel d.tokens

abbrev pub settlement_moves : Text → Packet → List Move
settlement_moves version p = settlements_of p.source_channel (data_of version p.payload)

-- the peer acknowledged the packet: what isn't a success is refunded
abbrev pub moves_after_ack : Text → Packet → Text → List Move
moves_after_ack version p ack = if same_text ack success then settlement_moves version p else refund_moves version p
