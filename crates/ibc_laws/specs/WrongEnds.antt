-- Machines that are wrong in one place, for the laws of ends: each takes an end for what it isn't.
use Rattle.std.specs.Prelude.{◌≡◌, Bool, true, false, not, List, [], ◌∷◌, Option, Some, None, IsTrue}
use Rattle.std.specs.List.{Contains}
use Rattle.ibc_wire.specs.declared.packet.Packet.{Packet}
use Rattle.ibc_wire.specs.declared.records.ChannelState.TheVariants.{Open, Closed}
use Rattle.ibc_wire.specs.declared.messages.Message.TheVariants as message
use Rattle.ibc_machine.specs.declared.event.Event.{Event}
use Rattle.ibc_machine.specs.declared.event.Event.TheVariants as event
use Rattle.ibc_machine.specs.declared.reply.Reply.{Reply}
use Rattle.ibc_machine.specs.chain.Records.{Channel}
use Rattle.ibc_machine.specs.ics24.Values.{ChannelIs, same_value, same_channel}
use Rattle.ibc_machine.specs.ics04.Channels.{in_state, is_in_state, is_established}
use Rattle.ibc_machine.specs.chain.Genesis.{GenesisState}
use Rattle.ibc_machine.specs.chain.Notes.{note_port}
use Rattle.ibc_machine.specs.chain.Machine.{World}
use Rattle.ibc_machine.specs.promises.Histories.{End, received_packets}
use Rattle.ibc_machine.specs.promises.Peers.{end_at, are_peers}
use Rattle.ibc_laws.specs.Runs.{Machine, WorldStep, all_of}
use Rattle.ibc_laws.specs.WrongPackets.{Likeness, machine_comparing, end_of, with_end, or_as_before}

-- ---- ones that take some ends for OPEN where they send a note or receive

abbrev pub opened : Bool → Channel → Channel
opened true mine = in_state Open mine
opened false mine = mine

-- the end in the state that it had in another world
abbrev pub in_state_of : Option Channel → Channel → Channel
in_state_of (Some before) mine = in_state before.end.state mine
in_state_of None mine = mine

abbrev pub with_state_of : World → End → Reply × World → Reply × World
with_state_of world e (given, after) = (given, with_end after e (in_state_of (end_at world e)))

abbrev pub taking_for_open : (Channel → Bool) → GenesisState → World → End → Event → Reply × World
taking_for_open test genesis world e event =
    or_as_before world
    (with_state_of world e (machine_comparing same_value genesis (with_end world e (λ mine. opened (test mine) mine)) event))

unfoldable pub machine_opening : (Channel → Bool) → GenesisState → Machine
machine_opening test genesis world (event.Message k (message.SendNote m)) =
    taking_for_open test genesis world (end_of k note_port m.channel) (event.Message k (message.SendNote m))
machine_opening test genesis world (event.Message k (message.RecvPacket m)) =
    taking_for_open test genesis world (end_of k m.packet.destination_port m.packet.destination_channel)
    (event.Message k (message.RecvPacket m))
machine_opening test genesis world e = machine_comparing same_value genesis world e

-- ---- 6. one that takes a CLOSED end for OPEN

abbrev pub is_closed : Channel → Bool
is_closed mine = is_in_state Closed mine

-- so a CLOSED end receives
pub record ReceivesClosed (genesis : GenesisState) (steps : List WorldStep) (world : World) : Type 0 where
  pub step : WorldStep
  pub among : Contains steps step
  pub e : End
  pub mine : Channel
  pub own : end_at step.0 e ≡ Some mine
  pub closed : mine.end.state ≡ Closed
  pub packet : Packet
  pub received_it : received_packets e (step.1 ∷ []) ≡ packet ∷ []

-- ---- 7. one that takes an end for OPEN that isn't OPEN yet

abbrev pub is_unopened : Channel → Bool
is_unopened mine = not (is_established mine)

-- so an end without a peer receives
pub record ReceivesOfNobody (genesis : GenesisState) (steps : List WorldStep) (world : World) : Type 0 where
  pub e : End
  pub packet : Packet
  pub received_it : Contains (received_packets e (all_of steps)) packet
  pub no_peer : (f : End) → ¬ (IsTrue (are_peers world e f))

-- ---- 8. one that doesn't compare the versions of ends

abbrev pub alike_but_version : Likeness
alike_but_version (Some (ChannelIs a)) (Some (ChannelIs b)) = same_channel a (record b { version = a.version })
alike_but_version a b = same_value a b

-- so peers have two versions
pub record PeersDisagree (genesis : GenesisState) (steps : List WorldStep) (world : World) : Type 0 where
  pub e : End
  pub f : End
  pub mine : Channel
  pub theirs : Channel
  pub peers : IsTrue (are_peers world e f)
  pub own : end_at world e ≡ Some mine
  pub other : end_at world f ≡ Some theirs
  pub differ : ¬ (mine.end.version ≡ theirs.end.version)
