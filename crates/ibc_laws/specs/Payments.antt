-- Who is paid (ICS 20, "onRecvPacket" and "refundTokens"): what is received goes to the receiver that the packet's
-- data names, and a refund to the sender that it names, in the amount and denomination that data and channel give.
use Rattle.std.specs.Prelude.{◌≡◌, ℕ, ◌+◌, ◌==◌, ◌&&◌, not, Bool, List, length, drop, ◌++◌, Option, IsTrue, if◌then◌else◌}
use Rattle.std.specs.List.{sum_by}
use Rattle.std.specs.Option.{option_map_or, option_and_then}
use Rattle.ibc_ids.specs.Texts.{Text, same_text}
use Rattle.ibc_ids.specs.Names.{is_user, hop, came_over}
use Rattle.ibc_wire.specs.declared.token.Token.{Token}
use Rattle.ibc_wire.specs.declared.packet.Packet.{Packet}
use Rattle.ibc_wire.specs.declared.messages.Message.TheVariants as message
use Rattle.ibc_machine.specs.declared.event.Event.TheVariants as event
use Rattle.ibc_machine.specs.declared.reply.Effect.TheVariants as effect
use Rattle.ibc_machine.specs.declared.reply.Reply.TheVariants as reply
use Rattle.ibc_machine.specs.chain.Records.{Channel}
use Rattle.ibc_machine.specs.ics20.TokenData.{Data, data_of, success}
use Rattle.ibc_machine.specs.ics20.Transfers.{transfer_port}
use Rattle.ibc_machine.specs.chain.Genesis.{GenesisState, start}
use Rattle.ibc_machine.specs.chain.Machine.{World}
use Rattle.ibc_machine.specs.promises.Histories.{Happened}
use Rattle.ibc_machine.specs.promises.Peers.{end_at}
use Rattle.ibc_machine.specs.promises.Laws.{IsPast}
use Rattle.ibc_laws.specs.Moments.{IsMoment}
use Rattle.ibc_laws.specs.Tokens.{transfer_end, own_sending, amount_paid_by, balance_at}

-- ---- what a packet of tokens says, to an end of port `transfer`

abbrev pub data_at : World → ℕ → Text → Text → Option Data
data_at world chain channel payload = option_and_then (λ (mine : Channel). data_of mine.end.version payload)
    (end_at world (transfer_end chain channel))

-- ---- a receive: the receiver gets each token, without the hop of the packet's source where it has come back over
-- it, or else with the hop of the packet's destination before it

abbrev pub denom_on_arrival : Packet → Text → Text
denom_on_arrival p denom =
    if came_over p.source_port p.source_channel denom then drop (length (hop p.source_port p.source_channel)) denom
    else hop p.destination_port p.destination_channel ++ denom

abbrev pub amount_on_arrival : Packet → Text → List Token → ℕ
amount_on_arrival p denom tokens =
    sum_by (λ (token : Token). if same_text (denom_on_arrival p token.denom) denom then token.amount else 0) tokens

abbrev pub own_receiving : Bool → Packet → Text → List Token → ℕ
own_receiving is_own p denom tokens = if is_own then amount_on_arrival p denom tokens else 0

-- what the user gets of the denomination on the chain by an accepted receive; one that is acknowledged by an error
-- pays nobody
abbrev pub amount_received_by : World → ℕ → Text → Text → Happened → ℕ
amount_received_by world chain user denom (event.Message k (message.RecvPacket m), reply.Ok (effect.Ack ack)) =
    if (k == chain) && same_text m.packet.destination_port transfer_port && same_text ack success
    then option_map_or (λ (d : Data). own_receiving (same_text d.receiver user) m.packet denom d.tokens)
    (data_at world chain m.packet.destination_channel m.packet.payload) 0
    else 0
amount_received_by world chain user denom _ = 0

-- ---- a refund: the sender gets back what the packet took along

abbrev pub amount_refunded_of : World → ℕ → Text → Text → Packet → ℕ
amount_refunded_of world chain user denom p =
    option_map_or (λ (d : Data). own_sending (same_text d.sender user) denom d.tokens)
    (data_at world chain p.source_channel p.payload) 0

-- an error was acknowledged, or the packet timed out
abbrev pub amount_refunded_to : World → ℕ → Text → Text → Happened → ℕ
amount_refunded_to world chain user denom (event.Message k (message.AckPacket m), reply.Ok given) =
    if (k == chain) && same_text m.packet.source_port transfer_port && not (same_text m.ack success)
    then amount_refunded_of world chain user denom m.packet else 0
amount_refunded_to world chain user denom (event.Message k (message.Timeout m), reply.Ok given) =
    if (k == chain) && same_text m.packet.source_port transfer_port
    then amount_refunded_of world chain user denom m.packet else 0
amount_refunded_to world chain user denom (event.Message k (message.TimeoutOnClose m), reply.Ok given) =
    if (k == chain) && same_text m.packet.source_port transfer_port
    then amount_refunded_of world chain user denom m.packet else 0
amount_refunded_to world chain user denom _ = 0

-- ---- who is paid: in each step a user's balance changes by just what the user receives, gets back and sends

abbrev pub WhoIsPaid : Type 0
WhoIsPaid =
    (genesis : GenesisState) (happened : List Happened) (world : World) (before : List Happened) (h : Happened)
    (old new : World) (chain : ℕ) (user denom : Text) → IsMoment genesis happened world before h old new
    → IsTrue (is_user user)
    → balance_at new chain user denom + amount_paid_by chain user denom h
    ≡ balance_at old chain user denom + amount_received_by old chain user denom h + amount_refunded_to old chain user denom h

-- so it is what the genesis gave, with all that the user received and got back, less all that the user sent

abbrev pub EachBalance : Type 0
EachBalance =
    (genesis : GenesisState) (happened : List Happened) (world : World) (chain : ℕ) (user denom : Text)
    → IsPast genesis happened world → IsTrue (is_user user)
    → balance_at world chain user denom + sum_by (amount_paid_by chain user denom) happened
    ≡ balance_at (start genesis) chain user denom + sum_by (amount_received_by world chain user denom) happened
    + sum_by (amount_refunded_to world chain user denom) happened
