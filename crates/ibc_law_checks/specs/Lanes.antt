-- What happened to the packets that go one way over a channel, and the laws of it (ICS 4, "Desired Properties").
use Rattle.std.specs.Prelude.{◌≡◌, ℕ, ◌+◌, ◌-◌, ◌==◌, ◌||◌, Bool, not, List, [], ◌∷◌, ◌++◌, Option, None, Some, Result, IfOk, MatchOption, IsTrue, nat_eq, length, slice_get, Contains, if◌then◌else◌}
use Rattle.std.specs.List.{IsDistinct}
use Rattle.ibc_wire.specs.declared.packet.Packet.{Packet}
use Rattle.ibc_machine.specs.chain.Records.{Channel}
use Rattle.ibc_machine.specs.ics04.Packets.{is_ordered}
use Rattle.ibc_machine.specs.promises.Histories.{Happened, End, sent_packets, received_packets, acknowledged_packets, timed_out_packets, sequences}
use Rattle.ibc_machine.specs.promises.Laws.{IsBeginning}
use Rattle.ibc_law_checks.specs.declared.finding.PacketLaw.{PacketLaw}
use Rattle.ibc_law_checks.specs.declared.finding.PacketLaw.TheVariants as law
use Rattle.ibc_law_checks.specs.PacketTests.{has_sequence, stands_at}

-- whether the channel is ordered; what an end sent, what its peer received, and what the end saw acknowledged and timed
-- out, each in its order
pub record LaneState : Type 0 where
  pub ordered : Bool
  pub sent : List Packet
  pub received : List Packet
  pub acknowledged : List Packet
  pub timed_out : List Packet

abbrev pub new_lane : Bool → LaneState
new_lane ordered = record { ordered = ordered; sent = []; received = []; acknowledged = []; timed_out = [] }

-- one of them more
abbrev pub with_sent : LaneState → Packet → LaneState
with_sent lane p = record lane { sent = lane.sent ++ p ∷ [] }

abbrev pub with_received : LaneState → Packet → LaneState
with_received lane p = record lane { received = lane.received ++ p ∷ [] }

abbrev pub with_acknowledged : LaneState → Packet → LaneState
with_acknowledged lane p = record lane { acknowledged = lane.acknowledged ++ p ∷ [] }

abbrev pub with_timed_out : LaneState → Packet → LaneState
with_timed_out lane p = record lane { timed_out = lane.timed_out ++ p ∷ [] }

-- the lane from an end to its peer, in what happened
abbrev pub lane_between : End → Channel → End → List Happened → LaneState
lane_between e mine f happened = record {
  ordered = is_ordered mine;
  sent = sent_packets e mine happened;
  received = received_packets f happened;
  acknowledged = acknowledged_packets e happened;
  timed_out = timed_out_packets e happened;
}

-- each of these is among those
abbrev pub AreAmong : List Packet → List Packet → Type 0
AreAmong these those = (p : Packet) → Contains these p → Contains those p

-- their sequences count from 1
abbrev pub AreCounted : List Packet → Type 0
AreCounted packets = (k : ℕ) (p : Packet) → slice_get packets k ≡ Some p → p.sequence ≡ k + 1

abbrev pub Holds : PacketLaw → LaneState → Type 0
Holds law.SentInTurn lane = AreCounted lane.sent
Holds law.ReceivedWasSent lane = AreAmong lane.received lane.sent
Holds law.ReceivedOnce lane = IsDistinct nat_eq (sequences lane.received)
Holds law.ReceivedInOrder lane = IsTrue lane.ordered → IsBeginning lane.received lane.sent
Holds law.NotBoth lane =
    (n : ℕ) → Contains (sequences lane.timed_out) n → ¬ (Contains (sequences lane.received) n)
Holds law.SettledWasSent lane = AreAmong lane.acknowledged lane.sent × AreAmong lane.timed_out lane.sent
Holds law.SettledOnce lane = IsDistinct nat_eq (sequences lane.acknowledged ++ sequences lane.timed_out)
Holds law.AcknowledgedReceived lane = AreAmong lane.acknowledged lane.received
Holds law.AcknowledgedInOrder lane = IsTrue lane.ordered → IsBeginning lane.acknowledged lane.sent

-- each law holds
pub record IsLawfulLane (lane : LaneState) : Type 0 where
  pub holds : (each : PacketLaw) → Holds each lane

-- this law doesn't hold of the lane; where none is told each does
abbrev pub IsToldOfLane : LaneState → Option PacketLaw → Type 0
IsToldOfLane lane told = MatchOption told (IsLawfulLane lane) (λ law. ¬ (Holds law lane))

-- the lane is this one; or it stays, since a law is told that wouldn't hold of it
abbrev pub BecomesUnless : {E : Type 0} → LaneState → LaneState → Result (Option PacketLaw) E → LaneState → Type 0
BecomesUnless old more result new =
    IfOk result (λ broken. MatchOption broken (new ≡ more) (λ law. (new ≡ old) × ¬ (Holds law more)))

-- ---- the first law that one packet more would break

-- it stands among those that were sent where its sequence says, counted from 1
abbrev pub was_sent : LaneState → Packet → Bool
was_sent lane p = stands_at lane.sent (p.sequence - 1) p

abbrev pub is_settled : LaneState → ℕ → Bool
is_settled lane n = has_sequence lane.acknowledged n || has_sequence lane.timed_out n

-- it was sent next behind so many, or the order doesn't matter
abbrev pub is_next : LaneState → ℕ → Packet → Bool
is_next lane behind p = not lane.ordered || stands_at lane.sent behind p

abbrev pub broken_by_sending : LaneState → Packet → Option PacketLaw
broken_by_sending lane p = if p.sequence == length lane.sent + 1 then None else Some law.SentInTurn

abbrev pub broken_by_receiving : LaneState → Packet → Option PacketLaw
broken_by_receiving lane p =
    if not (was_sent lane p) then Some law.ReceivedWasSent
    else if has_sequence lane.received p.sequence then Some law.ReceivedOnce
    else if has_sequence lane.timed_out p.sequence then Some law.NotBoth
    else if is_next lane (length lane.received) p then None
    else Some law.ReceivedInOrder

abbrev pub broken_by_acknowledging : LaneState → Packet → Option PacketLaw
broken_by_acknowledging lane p =
    if not (was_sent lane p) then Some law.SettledWasSent
    else if is_settled lane p.sequence then Some law.SettledOnce
    else if not (has_sequence lane.received p.sequence) then Some law.AcknowledgedReceived
    else if is_next lane (length lane.acknowledged) p then None
    else Some law.AcknowledgedInOrder

abbrev pub broken_by_timing_out : LaneState → Packet → Option PacketLaw
broken_by_timing_out lane p =
    if not (was_sent lane p) then Some law.SettledWasSent
    else if is_settled lane p.sequence then Some law.SettledOnce
    else if has_sequence lane.received p.sequence then Some law.NotBoth
    else None
