-- Transfers of tokens (ICS 20): the application of port `transfer`, and its two messages.
use Rattle.std.specs.Prelude.{ℕ, Bool, ◌==◌, ◌&&◌, not, nat_le, codes, List, [], ◌∷◌, ◌++◌, length, drop, Option, Some, None, Ok, Err, ⊤, if◌then◌else◌}
use Rattle.std.specs.List.{list_any, sum_by}
use Rattle.std.specs.Option.{option_and_then}
use Rattle.ibc_ids.specs.Texts.{Text, same_text}
use Rattle.ibc_ids.specs.Names.{is_user, hop}
pub use Rattle.ibc_ids.specs.Names.{came_over}
use Rattle.ibc_ids.specs.declared.refusal.Refusal.TheVariants.{BadMessage, WrongOrder, WrongVersion, TooLarge, Poor, CloseRefused}
use Rattle.ibc_wire.specs.Tokens.{is_rising, is_short}
use Rattle.ibc_wire.specs.declared.records.Order.{Order}
use Rattle.ibc_wire.specs.declared.records.Order.TheVariants.{Unordered}
use Rattle.ibc_wire.specs.declared.packet.Packet.{Packet}
use Rattle.ibc_wire.specs.declared.token.Token.{Token}
use Rattle.ibc_wire.specs.declared.messages.Transfer.{Transfer}
use Rattle.ibc_wire.specs.declared.messages.TransferMany.{TransferMany}
use Rattle.ibc_machine.specs.declared.reply.Effect.{Effect}
use Rattle.ibc_machine.specs.chain.Records.{Core, Channel, Commitment}
use Rattle.ibc_machine.specs.ics24.Values.{same_order}
use Rattle.ibc_machine.specs.chain.Checks.{Checked, require, expect, ◌>>=◌, ◌>>◌}
use Rattle.ibc_machine.specs.ics24.Evidence.{Handler, require_number}
use Rattle.ibc_machine.specs.ics04.Packets.{has_size, sending_end, require_timeouts, with_sent}
use Rattle.ibc_machine.specs.ics20.TokenData.{Data, one_token, several_tokens, data_text, data_of, tokens_of, amount_of, success, error}
use Rattle.ibc_machine.specs.ics20.Bank.{Balances, give, into_escrow, out_of_escrow, pay, mint}

abbrev pub transfer_port : Text
transfer_port = codes "transfer"

-- ---- opening and closing

-- UNORDERED, and one of the two versions (ICS 20, "onChanOpenInit" and "onChanOpenTry")
abbrev pub opens_for_transfers : Order → Text → Checked ⊤
opens_for_transfers order version = do
  require (same_order order Unordered) WrongOrder
  require (list_any (same_text version) (one_token ∷ several_tokens ∷ [])) WrongVersion
  Ok tt

-- a channel of transfers isn't closed (ICS 20, "onChanCloseInit")
abbrev pub closes_for_transfers : Checked ⊤
closes_for_transfers = Err CloseRefused

-- ---- what was burnt

abbrev pub burnt_over : Text → (Text × Text) × Channel → ℕ
burnt_over denom entry =
    if same_text entry.0.0 transfer_port && came_over entry.0.0 entry.0.1 denom
    then sum_by (λ sent. amount_of denom (tokens_of entry.1.end.version sent.1)) entry.1.commitments
    else 0

-- what was burnt of a denomination to go back over its channel, and may still be refunded
abbrev pub burnt_amount : Core → Text → ℕ
burnt_amount core denom = sum_by (burnt_over denom) core.channels

-- ---- a list of tokens is moved whole or not at all

abbrev pub each_token : (Token → Balances → Option Balances) → List Token → Balances → Option Balances
each_token move [] balances = Some balances
each_token move (token ∷ tokens) balances = option_and_then (each_token move tokens) (move token balances)

-- into the escrow of the channel, or burnt where it came over it
abbrev pub send_token : Text → Text → Token → Balances → Option Balances
send_token channel user token balances =
    if came_over transfer_port channel token.denom then pay user token balances
    else into_escrow channel user token balances

-- back to the sender: minted again where it was burnt, or else out of the escrow
abbrev pub refund_token : Text → Text → Token → Balances → Option Balances
refund_token channel user token balances =
    if came_over transfer_port channel token.denom then Some (give user token balances)
    else out_of_escrow channel user token balances

-- the token without the hop that the packet's source put before it
abbrev pub without_hop : Packet → Token → Token
without_hop p token =
    record token { denom = drop (length (hop p.source_port p.source_channel)) token.denom }

-- the token with the hop of the packet's destination before it, where the trace isn't too long
abbrev pub with_hop : Packet → Token → Option Token
with_hop p token =
    let longer = hop p.destination_port p.destination_channel ++ token.denom in
    if nat_le (length longer) 256 then Some (record token { denom = longer }) else None

-- home out of the escrow where it came from here, or else minted with one hop more
abbrev pub receive_token : (Text → ℕ) → Packet → Text → Token → Balances → Option Balances
receive_token in_flight p user token balances =
    if came_over p.source_port p.source_channel token.denom
    then out_of_escrow p.destination_channel user (without_hop p token) balances
    else option_and_then (λ hopped. mint (in_flight hopped.denom) user hopped balances) (with_hop p token)

-- ---- what the application does with a packet

-- the acknowledgement, and the balances after it; an error changes none
abbrev pub receive_result : Balances → Option Balances → Text × Balances
receive_result before (Some after) = (success, after)
receive_result before None = (error (codes "over limit"), before)

abbrev pub receive_data : (Text → ℕ) → Packet → Balances → Option Data → Text × Balances
receive_data in_flight p balances None = (error (codes "bad data"), balances)
receive_data in_flight p balances (Some d) =
    if is_user d.receiver
    then receive_result balances (each_token (receive_token in_flight p d.receiver) d.tokens balances)
    else (error (codes "bad receiver"), balances)

-- ICS 20, "onRecvPacket"; so much of each denomination was burnt in flight
unfoldable pub receive_transfer : (Text → ℕ) → Balances → Text → Packet → Text × Balances
receive_transfer in_flight balances version p = receive_data in_flight p balances (data_of version p.payload)

abbrev pub refund_data : Packet → Balances → Option Data → Option Balances
refund_data p balances None = Some balances
refund_data p balances (Some d) = each_token (refund_token p.source_channel d.sender) d.tokens balances

-- ICS 20, "refundTokens", at a timeout
unfoldable pub refund_transfer : Balances → Text → Packet → Checked Balances
refund_transfer balances version p = expect (refund_data p balances (data_of version p.payload)) Poor

-- ICS 20, "onAcknowledgePacket": what isn't a success is refunded
unfoldable pub acknowledge_transfer : Balances → Text → Packet → Text → Checked Balances
acknowledge_transfer balances version p ack =
    if same_text ack success then Ok balances else refund_transfer balances version p

-- ---- sending (ICS 20, "sendFungibleTokens")

abbrev pub transfer_commitment : Text → Data → ℕ → ℕ → Commitment
transfer_commitment version d height time =
    record { payload = data_text version d; timeout_height = height; timeout_time = time }

-- the tokens leave the sender, and the packet is committed to
abbrev pub with_tokens_sent : Text → Channel → Commitment → Core → Balances → Effect × Core × Balances
with_tokens_sent channel mine c core balances =
    let (effect, after) = with_sent transfer_port channel mine c core in (effect, after, balances)

-- the checks that both messages end with, and the effect
unfoldable pub send_tokens : Text → Channel → Data → Commitment → Handler Balances
send_tokens channel mine d c evidence host core balances = do
  require_timeouts evidence core mine c
  left ← expect (each_token (send_token channel d.sender) d.tokens balances) Poor
  require_number mine.next_send
  Ok (with_tokens_sent channel mine c core left)

-- what the messages say
abbrev pub transfer_data : Transfer → Data
transfer_data m =
    let token : Token = record { denom = m.denom; amount = m.amount } in
    record { tokens = token ∷ []; memo = m.memo; receiver = m.receiver; sender = m.user }

abbrev pub transfer_many_data : TransferMany → Data
transfer_many_data m =
    record { tokens = m.tokens; memo = m.memo; receiver = m.receiver; sender = m.user }

unfoldable pub transfer : Transfer → Handler Balances
transfer m evidence host core balances = do
  let d = transfer_data m
  let c = transfer_commitment one_token d m.timeout_height m.timeout_time
  mine ← sending_end core transfer_port m.channel
  require (same_text mine.end.version one_token) WrongVersion
  require (not (m.amount == 0)) TooLarge
  send_tokens m.channel mine d c evidence host core balances

abbrev pub is_zero : Token → Bool
is_zero token = token.amount == 0

unfoldable pub transfer_many : TransferMany → Handler Balances
transfer_many m evidence host core balances = do
  let d = transfer_many_data m
  let c = transfer_commitment several_tokens d m.timeout_height m.timeout_time
  require (is_short m.tokens && is_rising m.tokens) BadMessage
  mine ← sending_end core transfer_port m.channel
  require (same_text mine.end.version several_tokens) WrongVersion
  require (not (list_any is_zero m.tokens) && has_size c.payload) TooLarge
  send_tokens m.channel mine d c evidence host core balances
