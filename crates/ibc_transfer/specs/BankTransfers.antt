-- The two messages of port `transfer`, by the moves of a bank (ICS 20, "sendFungibleTokens").
use Rattle.std.specs.Prelude.{◌==◌, ◌&&◌, not, List, map, Ok, if◌then◌else◌}
use Rattle.std.specs.List.{list_any}
use Rattle.ibc_ids.specs.Texts.{Text, same_text}
use Rattle.ibc_ids.specs.declared.refusal.Refusal.TheVariants.{BadMessage, WrongVersion, TooLarge}
use Rattle.ibc_wire.specs.Tokens.{is_rising, is_short}
use Rattle.ibc_wire.specs.declared.token.Token.{Token}
use Rattle.ibc_wire.specs.declared.messages.Transfer.{Transfer}
use Rattle.ibc_wire.specs.declared.messages.TransferMany.{TransferMany}
use Rattle.ibc_machine.specs.declared.reply.Effect.{Effect}
use Rattle.ibc_machine.specs.chain.Records.{Core, Channel, Commitment}
use Rattle.ibc_machine.specs.chain.Checks.{require, ◌>>=◌, ◌>>◌}
use Rattle.ibc_machine.specs.ics24.Evidence.{Handler, require_number}
use Rattle.ibc_machine.specs.ics04.Packets.{has_size, sending_end, require_timeouts, with_sent}
use Rattle.ibc_machine.specs.ics20.TokenData.{Data, one_token, several_tokens}
use Rattle.ibc_machine.specs.ics20.Transfers.{transfer_port, came_over, transfer_commitment, transfer_data, transfer_many_data, is_zero}
use Rattle.ibc_bank.specs.Moves.{BankState, after_moves}
use Rattle.ibc_bank.specs.declared.moves.Move.{Move}
use Rattle.ibc_bank.specs.declared.moves.Move.TheVariants as move

-- into the escrow of the channel, or burnt where it came over it
abbrev pub send_move : Text → Text → Token → Move
send_move channel user token =
    if came_over transfer_port channel token.denom then move.Burn user token.denom token.amount
    else move.Escrow user channel token.denom token.amount

abbrev pub send_moves : Text → Data → List Move
send_moves channel d = map (send_move channel d.sender) d.tokens

-- the tokens left the sender, and the packet is committed to
abbrev pub with_bank_sent : Text → Channel → Commitment → Core → BankState → Effect × Core × BankState
with_bank_sent channel mine c core bank =
    let (effect, next) = with_sent transfer_port channel mine c core in
    (effect, next, bank)

-- the checks that both messages end with, and the effect
unfoldable pub bank_sends : Text → Channel → Data → Commitment → Handler BankState
bank_sends channel mine d c evidence host core bank = do
  require_timeouts evidence core mine c
  after ← after_moves (send_moves channel d) bank
  require_number mine.next_send
  Ok (with_bank_sent channel mine c core after)

unfoldable pub bank_transfer : Transfer → Handler BankState
bank_transfer m evidence host core bank = do
  let d = transfer_data m
  let c = transfer_commitment one_token d m.timeout_height m.timeout_time
  mine ← sending_end core transfer_port m.channel
  require (same_text mine.end.version one_token) WrongVersion
  require (not (m.amount == 0)) TooLarge
  bank_sends m.channel mine d c evidence host core bank

unfoldable pub bank_transfer_many : TransferMany → Handler BankState
bank_transfer_many m evidence host core bank = do
  let d = transfer_many_data m
  let c = transfer_commitment several_tokens d m.timeout_height m.timeout_time
  require (is_short m.tokens && is_rising m.tokens) BadMessage
  mine ← sending_end core transfer_port m.channel
  require (same_text mine.end.version several_tokens) WrongVersion
  require (not (list_any is_zero m.tokens) && has_size c.payload) TooLarge
  bank_sends m.channel mine d c evidence host core bank
