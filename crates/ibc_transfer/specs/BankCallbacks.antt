-- What the application of port `transfer` does with packets, by the moves of a bank, which knows what is burnt in flight beside
-- the balances (ICS 20, "onRecvPacket", "onAcknowledgePacket", "refundTokens").
use Rattle.std.specs.Prelude.{List, [], ◌∷◌, map, Option, Some, None, Ok, if◌then◌else◌}
use Rattle.ibc_ids.specs.Texts.{Text, same_text}
use Rattle.ibc_wire.specs.declared.packet.Packet.{Packet}
use Rattle.ibc_wire.specs.declared.token.Token.{Token}
use Rattle.ibc_machine.specs.chain.Checks.{Checked}
use Rattle.ibc_machine.specs.ics20.TokenData.{Data, data_of, success}
use Rattle.ibc_machine.specs.ics20.Transfers.{transfer_port, came_over, receive_transfer}
use Rattle.ibc_bank.specs.Moves.{BankState, burnt_of, with_balances, after_settlement, after_moves}
use Rattle.ibc_bank.specs.declared.moves.Move.{Move}
use Rattle.ibc_bank.specs.declared.moves.Move.TheVariants as move
use Rattle.ibc_bank.specs.declared.moves.Source.TheVariants as source

-- the acknowledgement, and the bank after it
abbrev pub bank_receives : BankState → Text → Packet → Text × BankState
bank_receives bank version p =
    let (ack, balances) = receive_transfer (burnt_of bank) bank.balances version p in
    (ack, with_balances bank balances)

-- ---- refunds

-- back to the sender: minted again where it was burnt, or else out of the escrow
abbrev pub refund_move : Text → Text → Token → Move
refund_move channel user token =
    if came_over transfer_port channel token.denom then move.Refund user source.Burnt token.denom token.amount
    else move.Refund user (source.Escrow channel) token.denom token.amount

abbrev pub bank_refunds : BankState → Packet → Option Data → Checked BankState
bank_refunds bank p None = Ok bank
bank_refunds bank p (Some d) = after_moves (map (refund_move p.source_channel d.sender) d.tokens) bank

-- the peer will not receive the packet
unfoldable pub bank_times_out : BankState → Text → Packet → Checked BankState
bank_times_out bank version p = bank_refunds bank p (data_of version p.payload)

-- ---- settlements

-- what was burnt of each token that went back isn't refunded any more
abbrev pub settle_tokens : Text → List Token → BankState → BankState
settle_tokens channel [] bank = bank
settle_tokens channel (token ∷ tokens) bank =
    settle_tokens channel tokens (if came_over transfer_port channel token.denom then after_settlement token bank else bank)

abbrev pub bank_settles : BankState → Packet → Option Data → BankState
bank_settles bank p None = bank
bank_settles bank p (Some d) = settle_tokens p.source_channel d.tokens bank

-- the peer acknowledged the packet: what isn't a success is refunded
unfoldable pub bank_acknowledged : BankState → Text → Packet → Text → Checked BankState
bank_acknowledged bank version p ack =
    if same_text ack success then Ok (bank_settles bank p (data_of version p.payload)) else bank_times_out bank version p
