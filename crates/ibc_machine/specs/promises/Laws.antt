-- The laws of every run of the machine from an allowed genesis (ICS 4, "Desired Properties": exactly-once
-- delivery, ordering, channel exclusivity; ICS 20, "Correctness": fungibility and total supply).
use Rattle.std.specs.Prelude.{◌≡◌, ◌≤◌, ℕ, ◌+◌, Bool, true, false, List, ◌++◌, IsTrue, Some, map, nat_eq}
use Rattle.std.specs.List.{Contains, IsDistinct, list_all}
use Rattle.ibc_ids.specs.Texts.{Text}
use Rattle.ibc_ids.specs.declared.refusal.Refusal.TheVariants.{Poor}
use Rattle.ibc_wire.specs.declared.token.Token.{Token}
use Rattle.ibc_wire.specs.declared.packet.Packet.{Packet}
use Rattle.ibc_wire.specs.declared.messages.RecvPacket.{RecvPacket}
use Rattle.ibc_wire.specs.declared.messages.Message.TheVariants as message
use Rattle.ibc_machine.specs.declared.event.Event.{Event}
use Rattle.ibc_machine.specs.declared.event.Event.TheVariants as event
use Rattle.ibc_machine.specs.declared.reply.Effect.{Effect}
use Rattle.ibc_machine.specs.declared.reply.Reply.TheVariants as reply
use Rattle.ibc_machine.specs.chain.Records.{Channel}
use Rattle.ibc_machine.specs.ics04.Channels.{is_established}
use Rattle.ibc_machine.specs.ics04.Packets.{is_ordered}
use Rattle.ibc_machine.specs.ics20.TokenData.{Data, data_of}
use Rattle.ibc_machine.specs.ics20.Bank.{balance, escrow}
use Rattle.ibc_machine.specs.ics20.Transfers.{transfer_port, came_over, without_hop}
use Rattle.ibc_machine.specs.chain.Genesis.{GenesisState, start, is_allowed}
use Rattle.ibc_machine.specs.chain.Machine.{World, Step, IsRun}
use Rattle.ibc_machine.specs.ledger.Ledgers.{is_typed}
use Rattle.ibc_machine.specs.promises.Histories.{Happened, End, sent_packets, received_packets, acknowledged_packets, timed_out_packets, sequences}
use Rattle.ibc_machine.specs.promises.Peers.{end_at, are_peers}
use Rattle.ibc_machine.specs.promises.Totals.{flight, vouchers, escrow_balance, denom_with_hop, balances_of}

-- What happened since an allowed genesis, and the world after it. Each event is what its type promises.
pub record IsPast (genesis : GenesisState) (happened : List Happened) (world : World) : Type 0 where
  pub allowed : IsTrue (is_allowed genesis)
  pub typed : list_all (λ (h : Happened). is_typed h.0) happened ≡ true
  pub run : IsRun genesis (start genesis) (map (λ (h : Happened). h.0) happened)
      (map (λ (h : Happened). h.1) happened) world

-- ---- 1. an end that is OPEN or CLOSED has exactly one peer, and none has two

pub record HasOnePeer (world : World) : Type 0 where
  pub one : (e : End) (mine : Channel) → end_at world e ≡ Some mine → IsTrue (is_established mine) → (f : End)
      × IsTrue (are_peers world e f)
  pub no_two : (e f g : End) → IsTrue (are_peers world e f) → IsTrue (are_peers world e g) → f ≡ g

abbrev pub OnePeer : Type 0
OnePeer =
    (genesis : GenesisState) (happened : List Happened) (world : World) → IsPast genesis happened world
    → HasOnePeer world

-- a law of every two peers, in what happened and the world after it
abbrev pub OfPeers : (List Happened → World → End → End → Type 0) → Type 0
OfPeers Law =
    (genesis : GenesisState) (happened : List Happened) (world : World) (e f : End) → IsPast genesis happened world
    → IsTrue (are_peers world e f) → Law happened world e f

-- ---- 2. no packet is both received and timed out; each is received at most once, and acknowledged or
-- timed out at most once in all; one that was acknowledged was received

pub record IsExactlyOnce (happened : List Happened) (e f : End) : Type 0 where
  pub not_both : (n : ℕ) → Contains (sequences (timed_out_packets e happened)) n
      → ¬ (Contains (sequences (received_packets f happened)) n)
  pub received_once : IsDistinct nat_eq (sequences (received_packets f happened))
  pub settled_once : IsDistinct nat_eq (sequences (acknowledged_packets e happened) ++ sequences (timed_out_packets e happened))
  pub acknowledged_received : (n : ℕ) → Contains (sequences (acknowledged_packets e happened)) n
      → Contains (sequences (received_packets f happened)) n

abbrev pub ExactlyOnce : Type 0
ExactlyOnce = OfPeers (λ happened world e f. IsExactlyOnce happened e f)

-- ---- 3. on an ordered channel what was received is a beginning of what was sent, equal in every field

abbrev pub IsBeginning : List Packet → List Packet → Type 0
IsBeginning front all = (rest : List Packet) × (front ++ rest ≡ all)

abbrev pub InOrder : Type 0
InOrder = OfPeers (λ happened world e f.
    (mine : Channel) → end_at world e ≡ Some mine → IsTrue (is_ordered mine)
    → IsBeginning (received_packets f happened) (sent_packets e mine happened))

-- ---- 4. the escrow of a channel equals the vouchers present and under way, of each denomination that
-- doesn't begin with the channel's own hop

abbrev pub Conserved : Type 0
Conserved = OfPeers (λ happened world e f.
    (denom : Text) → e.port ≡ transfer_port → came_over e.port e.channel denom ≡ false
    → escrow_balance world e denom ≡ vouchers world f denom + flight world e f denom + flight world f e (denom_with_hop f denom))

-- an acknowledgement or a timeout of a packet
abbrev pub settles : Event → Bool
settles (event.Message k (message.AckPacket m)) = true
settles (event.Message k (message.Timeout m)) = true
settles (event.Message k (message.TimeoutOnClose m)) = true
settles _ = false

-- so no refund is refused since an escrow holds too little; it may be refused for other reasons
abbrev pub NeverPoor : Type 0
NeverPoor =
    (genesis : GenesisState) (happened : List Happened) (world : World) (event : Event) → IsPast genesis happened world
    → IsTrue (settles event) → ¬ (Contains happened (event, reply.No Poor))

-- the escrow of the packet's destination holds a token that comes home over it
abbrev pub IsEscrowed : World → ℕ → Packet → Token → Type 0
IsEscrowed world chain p token = came_over p.source_port p.source_channel token.denom ≡ true
    → token.amount ≤ balance (balances_of world chain) (escrow p.destination_channel) (without_hop p token).denom

-- and no escrow holds too little at a receive: before a transfer is received, the escrow of its destination
-- holds each of its tokens that comes home
abbrev pub NeverShort : Type 0
NeverShort =
    (genesis : GenesisState) (happened : List Happened) (world after : World) (chain : ℕ) (m : RecvPacket)
    (given : Effect) (mine : Channel) (d : Data) (token : Token) → IsPast genesis happened world
    → IsTrue (is_typed (event.Message chain (message.RecvPacket m)))
    → Step genesis world (event.Message chain (message.RecvPacket m)) (reply.Ok given) after
    → m.packet.destination_port ≡ transfer_port
    → end_at world (record { chain = chain; port = transfer_port; channel = m.packet.destination_channel }) ≡ Some mine
    → data_of mine.end.version m.packet.payload ≡ Some d → Contains d.tokens token
    → IsEscrowed world chain m.packet token

-- the four laws, and what follows from the fourth
pub record Laws : Type 0 where
  pub one_peer : OnePeer
  pub exactly_once : ExactlyOnce
  pub in_order : InOrder
  pub conserved : Conserved
  pub never_poor : NeverPoor
  pub never_short : NeverShort
