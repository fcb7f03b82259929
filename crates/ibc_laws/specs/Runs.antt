-- The laws, said of a run of any machine: of its steps, which are worlds before and after what happened, and of the world
-- at its end. And that a run is refused by one of them alone.
use Rattle.std.specs.Prelude.{◌≡◌, ◌≤◌, ◌⊎◌, ⊤, ℕ, ◌+◌, false, List, [], ◌∷◌, map, Some, IsTrue}
use Rattle.std.specs.List.{Contains, list_all, sum_by}
use Rattle.ibc_ids.specs.Texts.{Text}
use Rattle.ibc_ids.specs.Names.{is_user, is_base_denom}
use Rattle.ibc_ids.specs.declared.refusal.Refusal.TheVariants.{Poor}
use Rattle.ibc_wire.specs.declared.packet.Packet.{Packet}
use Rattle.ibc_wire.specs.declared.token.Token.{Token}
use Rattle.ibc_wire.specs.declared.messages.Message.TheVariants as message
use Rattle.ibc_machine.specs.declared.event.Event.{Event}
use Rattle.ibc_machine.specs.declared.event.Event.TheVariants as event
use Rattle.ibc_machine.specs.declared.reply.Reply.{Reply}
use Rattle.ibc_machine.specs.declared.reply.Reply.TheVariants as reply
use Rattle.ibc_machine.specs.chain.Records.{Channel}
use Rattle.ibc_machine.specs.ics04.Packets.{is_ordered}
use Rattle.ibc_machine.specs.ics20.Transfers.{transfer_port, came_over}
use Rattle.ibc_machine.specs.chain.Notes.{note_port}
use Rattle.ibc_machine.specs.chain.Genesis.{GenesisState, start, is_allowed}
use Rattle.ibc_machine.specs.chain.Machine.{World}
use Rattle.ibc_machine.specs.ledger.Ledgers.{is_typed}
use Rattle.ibc_machine.specs.promises.Histories.{Happened, End, sent_packets, received_packets, ack_written}
use Rattle.ibc_machine.specs.promises.Peers.{end_at, are_peers}
use Rattle.ibc_machine.specs.promises.Totals.{escrow_balance, vouchers, flight, denom_with_hop}
use Rattle.ibc_machine.specs.promises.Laws.{IsPast, HasOnePeer, IsExactlyOnce, IsBeginning, IsEscrowed, settles}
use Rattle.ibc_laws.specs.Moments.{IsMoment}
use Rattle.ibc_laws.specs.Packets.{taken_acks}
use Rattle.ibc_laws.specs.Ends.{SettlesWhatWasSent, ReceivesInTime, AcknowledgesInOrder, SilencesClosed, TakesOfPeers, Agree}
use Rattle.ibc_laws.specs.Tokens.{IsBacked, BringsTo, supply_at, balance_at, amount_paid_by}
use Rattle.ibc_laws.specs.Payments.{amount_received_by, amount_refunded_to}
use Rattle.ibc_laws.specs.StoredNotes.{IsFront, notes_at, note_end, payloads}

-- ---- machines, and what happens where one is asked events in turn

-- the reply to an event, and the world after it
abbrev pub Machine : Type 0
Machine = World → Event → Reply × World

abbrev pub world_by : Machine → World → List Event → World
world_by machine world [] = world
world_by machine world (e ∷ events) = world_by machine (machine world e).1 events

-- a step: the world before it, what happened, and the world after it
abbrev pub WorldStep : Type 0
WorldStep = World × Happened × World

abbrev pub steps_by : Machine → World → List Event → List WorldStep
steps_by machine world [] = []
steps_by machine world (e ∷ events) =
    let (given, after) = machine world e in (world, (e, given), after) ∷ steps_by machine after events

abbrev pub all_of : List WorldStep → List Happened
all_of steps = map (λ (step : WorldStep). step.1) steps

-- of a machine that is told its genesis
abbrev pub steps_of : (GenesisState → Machine) → GenesisState → List Event → List WorldStep
steps_of machine genesis events = steps_by (machine genesis) (start genesis) events

abbrev pub world_of : (GenesisState → Machine) → GenesisState → List Event → World
world_of machine genesis events = world_by (machine genesis) (start genesis) events

-- ---- the four laws, with what follows from the fourth

-- a receive finds in escrow what it brings home
abbrev pub FindsEnough : World → Happened → Type 0
FindsEnough old (event.Message k (message.RecvPacket m), reply.Ok given) =
    (token : Token) → BringsTo old k m.packet token → IsEscrowed old k m.packet token
FindsEnough old _ = ⊤

pub record FirstLaws (steps : List WorldStep) (world : World) : Type 0 where
  pub one_peer : HasOnePeer world
  pub exactly_once : (e f : End) → IsTrue (are_peers world e f) → IsExactlyOnce (all_of steps) e f
  pub in_order : (e f : End) (mine : Channel) → IsTrue (are_peers world e f) → end_at world e ≡ Some mine
      → IsTrue (is_ordered mine) → IsBeginning (received_packets f (all_of steps)) (sent_packets e mine (all_of steps))
  pub conserved : (e f : End) (denom : Text) → IsTrue (are_peers world e f) → e.port ≡ transfer_port
      → came_over e.port e.channel denom ≡ false
      → escrow_balance world e denom ≡ vouchers world f denom + flight world e f denom + flight world f e (denom_with_hop f denom)
  pub never_poor : (event : Event) → IsTrue (settles event) → ¬ (Contains (all_of steps) (event, reply.No Poor))
  pub never_short : (step : WorldStep) → Contains steps step → FindsEnough step.0 step.1

-- ---- the further laws, each with what goes with it

-- the supply at home stays, and no voucher is without escrow
pub record KeepsSupplies (genesis : GenesisState) (world : World) : Type 0 where
  pub stays : (chain : ℕ) (denom : Text) → IsTrue (is_base_denom denom)
      → supply_at world chain denom ≡ supply_at (start genesis) chain denom
  pub backed : (chain : ℕ) (denom : Text) → 1 ≤ supply_at world chain denom
      → IsTrue (is_base_denom denom) ⊎ IsBacked world chain denom

-- a user's balance falls only by what the user sends
abbrev pub OnlySendersPay : List WorldStep → Type 0
OnlySendersPay steps =
    (step : WorldStep) (chain : ℕ) (user denom : Text) → Contains steps step → IsTrue (is_user user)
    → balance_at step.0 chain user denom ≤ balance_at step.2 chain user denom + amount_paid_by chain user denom step.1

-- and changes only so, and by what names the user
pub record PaysAsNamed (genesis : GenesisState) (steps : List WorldStep) (world : World) : Type 0 where
  pub who_pays : OnlySendersPay steps
  pub who_is_paid : (step : WorldStep) (chain : ℕ) (user denom : Text) → Contains steps step → IsTrue (is_user user)
      → balance_at step.2 chain user denom + amount_paid_by chain user denom step.1
      ≡ balance_at step.0 chain user denom + amount_received_by step.0 chain user denom step.1
      + amount_refunded_to step.0 chain user denom step.1
  pub each_balance : (chain : ℕ) (user denom : Text) → IsTrue (is_user user)
      → balance_at world chain user denom + sum_by (amount_paid_by chain user denom) (all_of steps)
      ≡ balance_at (start genesis) chain user denom + sum_by (amount_received_by world chain user denom) (all_of steps)
      + sum_by (amount_refunded_to world chain user denom) (all_of steps)

-- the notes that are kept are those that came, and those that were sent, and stay
pub record KeepsNotes (steps : List WorldStep) (world : World) : Type 0 where
  pub are_received : (chain : ℕ) (channel : Text)
      → notes_at world chain channel ≡ payloads (received_packets (note_end chain channel) (all_of steps))
  pub stay : (step : WorldStep) (chain : ℕ) (channel : Text) → Contains steps step
      → IsFront (notes_at step.0 chain channel) (notes_at step.2 chain channel)
  pub were_sent : (e f : End) (mine : Channel) → IsTrue (are_peers world e f) → f.port ≡ note_port
      → end_at world e ≡ Some mine
      → IsFront (notes_at world f.chain f.channel) (payloads (sent_packets e mine (all_of steps)))

-- by name
pub data FurtherLaw : Type 0 where
  ReceivedAsSent : FurtherLaw
  TakenAsWritten : FurtherLaw
  SettledAsSent : FurtherLaw
  ReceivedInTime : FurtherLaw
  AcknowledgedInOrder : FurtherLaw
  ClosedIsSilent : FurtherLaw
  TakenOfPeer : FurtherLaw
  PeersAgree : FurtherLaw
  Supplies : FurtherLaw
  Payments : FurtherLaw
  Notes : FurtherLaw

abbrev pub HoldsOf : FurtherLaw → GenesisState → List WorldStep → World → Type 0
HoldsOf ReceivedAsSent genesis steps world =
    (e f : End) (mine : Channel) (p : Packet) → IsTrue (are_peers world e f) → end_at world e ≡ Some mine
    → Contains (received_packets f (all_of steps)) p → Contains (sent_packets e mine (all_of steps)) p
HoldsOf TakenAsWritten genesis steps world =
    (e f : End) (p : Packet) (ack : Text) → IsTrue (are_peers world e f)
    → Contains (taken_acks e (all_of steps)) (p, ack) → ack_written f (all_of steps) p.sequence ≡ Some ack
HoldsOf SettledAsSent genesis steps world = SettlesWhatWasSent (all_of steps) world
HoldsOf ReceivedInTime genesis steps world =
    (step : WorldStep) → Contains steps step → ReceivesInTime step.0 step.1
HoldsOf AcknowledgedInOrder genesis steps world = AcknowledgesInOrder (all_of steps) world
HoldsOf ClosedIsSilent genesis steps world =
    (step : WorldStep) → Contains steps step → SilencesClosed step.0 step.1 step.2
HoldsOf TakenOfPeer genesis steps world = TakesOfPeers (all_of steps) world
HoldsOf PeersAgree genesis steps world =
    (e f : End) (mine theirs : Channel) → IsTrue (are_peers world e f) → end_at world e ≡ Some mine
    → end_at world f ≡ Some theirs → Agree mine theirs
HoldsOf Supplies genesis steps world = KeepsSupplies genesis world
HoldsOf Payments genesis steps world = PaysAsNamed genesis steps world
HoldsOf Notes genesis steps world = KeepsNotes steps world

-- ---- of the machine itself

-- the worlds before and after each event of a past
pub record AreMoments (genesis : GenesisState) (happened : List Happened) (world : World) (steps : List WorldStep) : Type 0 where
  pub all : all_of steps ≡ happened
  pub each : (step : WorldStep) → Contains steps step
      → (before : List Happened) × IsMoment genesis happened world before step.1 step.0 step.2

-- every past has such steps
abbrev pub EachPastHasSteps : Type 0
EachPastHasSteps =
    (genesis : GenesisState) (happened : List Happened) (world : World) → IsPast genesis happened world
    → (steps : List WorldStep) × AreMoments genesis happened world steps

-- all of the further laws hold of every run of it
abbrev pub HoldOfTheMachine : Type 0
HoldOfTheMachine =
    (law : FurtherLaw) (genesis : GenesisState) (happened : List Happened) (world : World) (steps : List WorldStep)
    → IsPast genesis happened world → AreMoments genesis happened world steps → HoldsOf law genesis steps world

-- ---- refused by one law alone

-- The machine has a run of typed events, from an allowed genesis. The four laws hold of it, with what follows from the
-- fourth. This law fails, and here is how. Every other further law holds.
pub record IsRefusedByAlone (law : FurtherLaw) (machine : GenesisState → Machine)
    (Fails : GenesisState → List WorldStep → World → Type 0) : Type 0 where
  pub genesis : GenesisState
  pub allowed : IsTrue (is_allowed genesis)
  pub events : List Event
  pub typed : IsTrue (list_all is_typed events)
  pub first_laws : FirstLaws (steps_of machine genesis events) (world_of machine genesis events)
  pub fails : ¬ (HoldsOf law genesis (steps_of machine genesis events) (world_of machine genesis events))
  pub so : Fails genesis (steps_of machine genesis events) (world_of machine genesis events)
  pub others : (other : FurtherLaw) → ¬ (other ≡ law)
      → HoldsOf other genesis (steps_of machine genesis events) (world_of machine genesis events)
