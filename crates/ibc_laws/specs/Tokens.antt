-- Laws of tokens (ICS 20, "Correctness": total supply, and that no token moves but by its holder's will).
use Rattle.std.specs.Prelude.{◌≡◌, ◌≤◌, ◌⊎◌, ℕ, ◌+◌, ◌==◌, ◌&&◌, Bool, List, Some, IsTrue, if◌then◌else◌}
use Rattle.std.specs.List.{Contains}
use Rattle.ibc_ids.specs.Texts.{Text, same_text}
use Rattle.ibc_ids.specs.Names.{is_user, is_base_denom}
use Rattle.ibc_wire.specs.declared.token.Token.{Token}
use Rattle.ibc_wire.specs.declared.packet.Packet.{Packet}
use Rattle.ibc_wire.specs.declared.messages.RecvPacket.{RecvPacket}
use Rattle.ibc_wire.specs.declared.messages.Message.TheVariants as message
use Rattle.ibc_machine.specs.declared.event.Event.TheVariants as event
use Rattle.ibc_machine.specs.declared.reply.Effect.{Effect}
use Rattle.ibc_machine.specs.declared.reply.Reply.TheVariants as reply
use Rattle.ibc_machine.specs.chain.Records.{Channel}
use Rattle.ibc_machine.specs.ics20.TokenData.{Data, data_of, amount_of}
use Rattle.ibc_machine.specs.ics20.Bank.{balance, supply}
use Rattle.ibc_machine.specs.ics20.Transfers.{transfer_port, transfer_data, transfer_many_data}
use Rattle.ibc_machine.specs.chain.Genesis.{GenesisState, start}
use Rattle.ibc_machine.specs.chain.Machine.{World}
use Rattle.ibc_machine.specs.promises.Histories.{Happened, End}
use Rattle.ibc_machine.specs.promises.Peers.{end_at, are_peers}
use Rattle.ibc_machine.specs.promises.Totals.{balances_of, denom_with_hop, escrow_balance}
use Rattle.ibc_machine.specs.promises.Laws.{IsPast, IsEscrowed}
use Rattle.ibc_laws.specs.Moments.{IsMoment}

-- ---- a base denomination is only at home, and its supply there, escrows included, stays what the genesis gave

abbrev pub supply_at : World → ℕ → Text → ℕ
supply_at world chain denom = supply (balances_of world chain) denom

abbrev pub SupplyStays : Type 0
SupplyStays =
    (genesis : GenesisState) (happened : List Happened) (world : World) (chain : ℕ) (denom : Text)
    → IsPast genesis happened world → IsTrue (is_base_denom denom)
    → supply_at world chain denom ≡ supply_at (start genesis) chain denom

-- ---- no voucher without escrow: whatever else a chain holds came over one of its channels, and the escrow of that
-- channel's peer holds as much of what it is there

abbrev pub transfer_end : ℕ → Text → End
transfer_end chain channel = record { chain = chain; port = transfer_port; channel = channel }

pub record IsBacked (world : World) (chain : ℕ) (denom : Text) : Type 0 where
  pub channel : Text
  pub there : Text
  pub came : denom ≡ denom_with_hop (transfer_end chain channel) there
  pub peer : End
  pub are_peers : IsTrue (are_peers world peer (transfer_end chain channel))
  pub held : supply_at world chain denom ≤ escrow_balance world peer there

abbrev pub NoVoucherWithoutEscrow : Type 0
NoVoucherWithoutEscrow =
    (genesis : GenesisState) (happened : List Happened) (world : World) (chain : ℕ) (denom : Text)
    → IsPast genesis happened world → 1 ≤ supply_at world chain denom
    → IsTrue (is_base_denom denom) ⊎ IsBacked world chain denom

-- ---- who pays: a user's balance falls only by an accepted transfer of that user, and by no more than it sends

abbrev pub own_sending : Bool → Text → List Token → ℕ
own_sending is_own denom tokens = if is_own then amount_of denom tokens else 0

-- what an accepted transfer of the user sends of the denomination from the chain
abbrev pub amount_paid_by : ℕ → Text → Text → Happened → ℕ
amount_paid_by chain user denom (event.Message k (message.Transfer m), reply.Ok given) =
    own_sending ((k == chain) && same_text m.user user) denom (transfer_data m).tokens
amount_paid_by chain user denom (event.Message k (message.TransferMany m), reply.Ok given) =
    own_sending ((k == chain) && same_text m.user user) denom (transfer_many_data m).tokens
amount_paid_by chain user denom _ = 0

abbrev pub balance_at : World → ℕ → Text → Text → ℕ
balance_at world chain user denom = balance (balances_of world chain) user denom

abbrev pub WhoPays : Type 0
WhoPays =
    (genesis : GenesisState) (happened : List Happened) (world : World) (before : List Happened) (h : Happened)
    (old new : World) (chain : ℕ) (user denom : Text) → IsMoment genesis happened world before h old new
    → IsTrue (is_user user)
    → balance_at old chain user denom ≤ balance_at new chain user denom + amount_paid_by chain user denom h

-- ---- no escrow held too little at any receive of the past

-- a token that a packet brings to an end of port `transfer`
abbrev pub BringsTo : World → ℕ → Packet → Token → Type 0
BringsTo world chain p token =
    (p.destination_port ≡ transfer_port) × (mine : Channel)
    × (end_at world (transfer_end chain p.destination_channel) ≡ Some mine) × (d : Data)
    × (data_of mine.end.version p.payload ≡ Some d) × Contains d.tokens token

abbrev pub WasNeverShort : Type 0
WasNeverShort =
    (genesis : GenesisState) (happened : List Happened) (world : World) (before : List Happened) (chain : ℕ)
    (m : RecvPacket) (given : Effect) (old new : World) (token : Token)
    → IsMoment genesis happened world before (event.Message chain (message.RecvPacket m), reply.Ok given) old new
    → BringsTo old chain m.packet token → IsEscrowed old chain m.packet token
