-- The moves of a packet's tokens once it is settled do what the application says.
use Rattle.std.proofs.Common.{◌≡◌, Bool, true, false, cond, refl, List, [], ◌∷◌, Option, Some, None, Ok}
use Rattle.ibc_ids.specs.Texts.{Text, same_text}
use Rattle.ibc_wire.specs.declared.packet.Packet.{Packet}
use Rattle.ibc_wire.specs.declared.token.Token.{Token}
use Rattle.ibc_machine.specs.chain.Checks.{go_on}
use Rattle.ibc_machine.specs.ics20.TokenData.{Data, data_of, success}
use Rattle.ibc_machine.specs.ics20.Transfers.{transfer_port, came_over}
use Rattle.ibc_bank.specs.Moves.{BankState, after_settlement, after_moves}
use Rattle.ibc_bank.specs.declared.moves.Move.TheVariants as move
use Rattle.ibc_transfer.specs.BankCallbacks.{settle_tokens, bank_settles, bank_refunds, bank_times_out, bank_acknowledged}
use Rattle.ibc_transfer.specs.TokenRefunds.{refunds_of, refund_moves, settle_moves, settlements_of, settlement_moves, moves_after_ack}

refunded_by_moves : (bank : BankState) (p : Packet) (o : Option Data) → bank_refunds bank p o ≡ after_moves (refunds_of p.source_channel o) bank
refunded_by_moves bank p None = refl
refunded_by_moves bank p (Some d) = refl

pub timed_out_by_moves : (bank : BankState) (version : Text) (p : Packet) → bank_times_out bank version p ≡ after_moves (refund_moves version p) bank
unfolding bank_times_out
timed_out_by_moves bank version p = refunded_by_moves bank p (data_of version p.payload)

-- ---- settlements

tokens_settled : (channel : Text) (tokens : List Token) (bank : BankState) → Ok (settle_tokens channel tokens bank) ≡ after_moves (settle_moves channel tokens) bank
unfolding go_on
tokens_settled channel [] bank = refl
tokens_settled channel (token ∷ tokens) bank = by (came_over transfer_port channel token.denom) (tokens_settled channel tokens)
  where
    by : (came : Bool) → ((bank : BankState) → Ok (settle_tokens channel tokens bank) ≡ after_moves (settle_moves channel tokens) bank)
        → Ok (settle_tokens channel tokens (cond came (after_settlement token bank) bank))
        ≡ after_moves (cond came (move.Settle token.denom token.amount ∷ settle_moves channel tokens) (settle_moves channel tokens)) bank
    by true others = others (after_settlement token bank)
    by false others = others bank

settled_by_moves : (bank : BankState) (p : Packet) (o : Option Data) → Ok (bank_settles bank p o) ≡ after_moves (settlements_of p.source_channel o) bank
settled_by_moves bank p None = refl
settled_by_moves bank p (Some d) = tokens_settled p.source_channel d.tokens bank

pub acknowledged_by_moves : (bank : BankState) (version : Text) (p : Packet) (ack : Text) → bank_acknowledged bank version p ack ≡ after_moves (moves_after_ack version p ack) bank
unfolding bank_acknowledged
acknowledged_by_moves bank version p ack = by (same_text ack success)
  where
    by : (taken : Bool) → cond taken (Ok (bank_settles bank p (data_of version p.payload))) (bank_times_out bank version p)
        ≡ after_moves (cond taken (settlement_moves version p) (refund_moves version p)) bank
    by true = settled_by_moves bank p (data_of version p.payload)
    by false = timed_out_by_moves bank version p
