-- Laws of the ends of channels: what an end settles, receives and acknowledges, what it does when it is CLOSED, and what
-- it has in common with its peer (ICS 4, "Packet flow & handling", "Closing handshake" and "Opening handshake").
use Rattle.std.specs.Prelude.{◌≡◌, ◌<◌, ◌⊎◌, ⊤, ℕ, List, [], ◌∷◌, Some, IsTrue, slice_get}
use Rattle.std.specs.List.{Contains}
use Rattle.ibc_wire.specs.declared.packet.Packet.{Packet}
use Rattle.ibc_wire.specs.declared.records.ChannelState.TheVariants.{Closed}
use Rattle.ibc_wire.specs.declared.messages.Message.TheVariants as message
use Rattle.ibc_machine.specs.declared.event.Event.TheVariants as event
use Rattle.ibc_machine.specs.declared.reply.Reply.TheVariants as reply
use Rattle.ibc_machine.specs.chain.Records.{MachineChain, Channel}
use Rattle.ibc_machine.specs.chain.Genesis.{GenesisState}
use Rattle.ibc_machine.specs.chain.Handlers.{working_height}
use Rattle.ibc_machine.specs.chain.Machine.{World}
use Rattle.ibc_machine.specs.ics04.Packets.{is_ordered, is_committed, without_commitment}
use Rattle.ibc_machine.specs.promises.Histories.{Happened, End, sent_packets, received_packets, acknowledged_packets, timed_out_packets, packet_sent}
use Rattle.ibc_machine.specs.promises.Peers.{end_at, are_peers}
use Rattle.ibc_machine.specs.promises.Laws.{IsPast, OfPeers, IsBeginning}
use Rattle.ibc_laws.specs.Moments.{IsMoment}

-- a law of every past, and one of every step of each: the world before it, what happened, and the world after it
abbrev pub OfPasts : (List Happened → World → Type 0) → Type 0
OfPasts Law =
    (genesis : GenesisState) (happened : List Happened) (world : World) → IsPast genesis happened world
    → Law happened world

abbrev pub OfSteps : (World → Happened → World → Type 0) → Type 0
OfSteps Law =
    (genesis : GenesisState) (happened : List Happened) (world : World) (before : List Happened) (h : Happened)
    (old new : World) → IsMoment genesis happened world before h old new → Law old h new

-- ---- what is acknowledged or timed out, also on close, is the packet that was sent, equal in every field (ICS 4,
-- "acknowledgePacket", "timeoutPacket", "timeoutOnClose")

-- under the packet's number its source sent this very packet
abbrev pub IsSentFrom : End → List Happened → World → Packet → Type 0
IsSentFrom e happened world p =
    (mine : Channel) × (end_at world e ≡ Some mine) × (packet_sent e mine happened p.sequence ≡ Some p)

pub record SettlesWhatWasSent (happened : List Happened) (world : World) : Type 0 where
  pub acknowledged : (e : End) (p : Packet) → Contains (acknowledged_packets e happened) p
      → IsSentFrom e happened world p
  pub timed_out : (e : End) (p : Packet) → Contains (timed_out_packets e happened) p → IsSentFrom e happened world p
  -- and what was acknowledged was received, equal in every field
  pub received : (e f : End) (p : Packet) → IsTrue (are_peers world e f) → Contains (acknowledged_packets e happened) p
      → Contains (received_packets f happened) p

abbrev pub SettledWasSent : Type 0
SettledWasSent = OfPasts SettlesWhatWasSent

-- ---- nothing is received at or behind its timeout (ICS 4, "recvPacket")

-- a timeout is none, which is written as 0, or lies ahead
abbrev pub IsAhead : ℕ → ℕ → Type 0
IsAhead timeout now = (timeout ≡ 0) ⊎ (now < timeout)

-- both timeouts of the packet do, in the working block of the chain
pub record IsInTime (world : World) (k : ℕ) (p : Packet) : Type 0 where
  pub chain : MachineChain
  pub there : slice_get world k ≡ Some chain
  pub height : IsAhead p.timeout_height (working_height chain)
  pub time : IsAhead p.timeout_time chain.time

abbrev pub ReceivesInTime : World → Happened → Type 0
ReceivesInTime old (event.Message k (message.RecvPacket m), reply.Ok given) = IsInTime old k m.packet
ReceivesInTime old _ = ⊤

abbrev pub ReceivedInTime : Type 0
ReceivedInTime = OfSteps (λ old h new. ReceivesInTime old h)

-- ---- acknowledgements of an ordered channel are taken in order, without a gap: what was acknowledged is a beginning of
-- what was sent, equal in every field (ICS 4, "acknowledgePacket")

abbrev pub AcknowledgesInOrder : List Happened → World → Type 0
AcknowledgesInOrder happened world =
    (e : End) (mine : Channel) → end_at world e ≡ Some mine → IsTrue (is_ordered mine)
    → IsBeginning (acknowledged_packets e happened) (sent_packets e mine happened)

abbrev pub AcknowledgedInOrder : Type 0
AcknowledgedInOrder = OfPasts AcknowledgesInOrder

-- ---- a CLOSED end is silent (ICS 4, "Closing handshake")

-- nothing of the end is settled, and it stays as it is
abbrev pub Rests : Happened → End → Channel → World → Type 0
Rests h e mine new = (timed_out_packets e (h ∷ []) ≡ []) × (end_at new e ≡ Some mine)

-- a packet times out that the end sent and that was not settled, and the end stays as it is but for its commitment
abbrev pub TimesOutOne : Happened → End → Channel → World → Type 0
TimesOutOne h e mine new =
    (p : Packet) × (timed_out_packets e (h ∷ []) ≡ p ∷ []) × IsTrue (is_committed mine p)
    × (end_at new e ≡ Some (without_commitment p.sequence mine))

-- the event sends, receives and acknowledges nothing at the end, and may time out one packet
pub record IsSilent (h : Happened) (e : End) (mine : Channel) (new : World) : Type 0 where
  pub sends : (named : Channel) → sent_packets e named (h ∷ []) ≡ []
  pub receives : received_packets e (h ∷ []) ≡ []
  pub acknowledges : acknowledged_packets e (h ∷ []) ≡ []
  pub settles : Rests h e mine new ⊎ TimesOutOne h e mine new

abbrev pub SilencesClosed : World → Happened → World → Type 0
SilencesClosed old h new =
    (e : End) (mine : Channel) → end_at old e ≡ Some mine → mine.end.state ≡ Closed → IsSilent h e mine new

abbrev pub ClosedIsSilent : Type 0
ClosedIsSilent = OfSteps SilencesClosed

-- ---- an end without a peer takes nothing (ICS 4, "recvPacket", "acknowledgePacket", "timeoutPacket"); that its peer sent
-- it, wrote the acknowledgement or didn't receive it is said by the laws of peers

abbrev pub HasAPeer : World → End → Type 0
HasAPeer world e = (f : End) × IsTrue (are_peers world e f)

pub record TakesOfPeers (happened : List Happened) (world : World) : Type 0 where
  pub received : (e : End) (p : Packet) → Contains (received_packets e happened) p → HasAPeer world e
  pub acknowledged : (e : End) (p : Packet) → Contains (acknowledged_packets e happened) p → HasAPeer world e
  pub timed_out : (e : End) (p : Packet) → Contains (timed_out_packets e happened) p → HasAPeer world e

abbrev pub TakenOfPeer : Type 0
TakenOfPeer = OfPasts TakesOfPeers

-- ---- peers agree on the channel's order and version (ICS 4, "Opening handshake")

pub record Agree (mine theirs : Channel) : Type 0 where
  pub order : mine.end.order ≡ theirs.end.order
  pub version : mine.end.version ≡ theirs.end.version

abbrev pub PeersAgree : Type 0
PeersAgree = OfPeers (λ happened world e f.
    (mine theirs : Channel) → end_at world e ≡ Some mine → end_at world f ≡ Some theirs → Agree mine theirs)
