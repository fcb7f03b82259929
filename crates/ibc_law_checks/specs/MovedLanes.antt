-- What a movement leaves of the lanes, and what is told of it (ICS 4, "Desired Properties").
use Rattle.std.specs.Prelude.{◌≡◌, ℕ, List, Option, Some, None, MatchOption, IsSomeAnd, slice_get, slice_set}
use Rattle.std.specs.Option.{option_map_or}
use Rattle.ibc_wire.specs.declared.packet.Packet.{Packet}
use Rattle.ibc_machine.specs.declared.entry.Entry.{Entry}
use Rattle.ibc_machine.specs.declared.event.Event.{Event}
use Rattle.ibc_machine.specs.declared.event.Event.TheVariants as event
use Rattle.ibc_machine.specs.declared.reply.Effect.{Effect}
use Rattle.ibc_machine.specs.declared.reply.Reply.{Reply}
use Rattle.ibc_machine.specs.declared.reply.Reply.TheVariants as reply
use Rattle.ibc_refinement.specs.World.{WorldState}
use Rattle.ibc_law_checks.specs.declared.ends.ChainClock.{ChainClock}
use Rattle.ibc_law_checks.specs.declared.ends.EndNotes.{EndNotes}
use Rattle.ibc_law_checks.specs.declared.finding.BrokenLaw.{BrokenLaw}
use Rattle.ibc_law_checks.specs.declared.finding.BrokenLaw.TheVariants as broken
use Rattle.ibc_law_checks.specs.declared.finding.Finding.{Finding}
use Rattle.ibc_law_checks.specs.declared.finding.PacketLaw.{PacketLaw}
use Rattle.ibc_law_checks.specs.declared.movement.Movement.{Movement}
use Rattle.ibc_law_checks.specs.declared.movement.Movement.TheVariants as movement
use Rattle.ibc_law_checks.specs.declared.movement.Passing.{Passing}
use Rattle.ibc_law_checks.specs.declared.movement.Passing.TheVariants as passing
use Rattle.ibc_law_checks.specs.Lanes.{LaneState, Holds, with_sent, with_received, with_acknowledged, with_timed_out}
use Rattle.ibc_law_checks.specs.Movements.{moved_by}

-- a lane with one packet more
abbrev pub with_passed : Passing → LaneState → Packet → LaneState
with_passed passing.Sent lane p = with_sent lane p
with_passed passing.Received lane p = with_received lane p
with_passed passing.Acknowledged lane p = with_acknowledged lane p
with_passed passing.TimedOut lane p = with_timed_out lane p

-- it has the packet more; or it stays, since a law wouldn't hold with it
abbrev pub IsPassed : Passing → Packet → LaneState → Option PacketLaw → LaneState → Type 0
IsPassed how p lane told after =
    MatchOption told (after ≡ with_passed how lane p) (λ law. (after ≡ lane) × ¬ (Holds law (with_passed how lane p)))

-- ---- all lanes

-- the lane at a place has the packet more, and the others stay
abbrev pub lanes_with : Passing → Packet → ℕ → List LaneState → List LaneState
lanes_with how p place lanes =
    option_map_or (λ (lane : LaneState). slice_set lanes place (with_passed how lane p)) (slice_get lanes place) lanes

-- the law wouldn't hold of the lane at a place
abbrev pub WouldBreak : PacketLaw → Passing → Packet → ℕ → List LaneState → Type 0
WouldBreak law how p place lanes =
    IsSomeAnd (slice_get lanes place) (λ (lane : LaneState). ¬ (Holds law (with_passed how lane p)))

abbrev pub ArePassed : Passing → Packet → ℕ → List LaneState → Option PacketLaw → List LaneState → Type 0
ArePassed how p place lanes told after =
    MatchOption told (after ≡ lanes_with how p place lanes) (λ law. (after ≡ lanes) × WouldBreak law how p place lanes)

-- ---- what is told

-- the law that is told is this one; nothing is told where none is given
abbrev pub IsToldAs : Option PacketLaw → Option Finding → Type 0
IsToldAs None found = found ≡ None
IsToldAs (Some law) found = IsSomeAnd found (λ (f : Finding). f.law ≡ broken.OfPackets law)

-- a law of packets that wouldn't hold of the lane at a place
abbrev pub IsPacketFinding : BrokenLaw → Passing → Packet → ℕ → List LaneState → Type 0
IsPacketFinding (broken.OfPackets law) how p place lanes = WouldBreak law how p place lanes
IsPacketFinding _ how p place lanes = ⊥

-- nothing is told where the lane took the packet
abbrev pub ArePassedOrTold : Passing → Packet → ℕ → List LaneState → Option Finding → List LaneState → Type 0
ArePassedOrTold how p place lanes found after =
    MatchOption found (after ≡ lanes_with how p place lanes)
    (λ (f : Finding). (after ≡ lanes) × IsPacketFinding f.law how p place lanes)

-- a movement of a packet leaves these lanes; where it breaks a law anyhow, that one is told
abbrev pub AreMoved : Movement → List LaneState → Option Finding → List LaneState → Type 0
AreMoved movement.Nothing lanes found after = (after ≡ lanes) × (found ≡ None)
AreMoved (movement.Breaks law end) lanes found after =
    (after ≡ lanes) × IsSomeAnd found (λ (f : Finding). f.law ≡ law)
AreMoved (movement.Passes place how p) lanes found after = ArePassedOrTold how p place lanes found after

-- ---- an entry of a chain

-- only messages that were accepted move packets
abbrev pub AreLanesAccepted : WorldState → List EndNotes → List ChainClock → ℕ → Event → Effect → List LaneState → Option Finding → List LaneState → Type 0
AreLanesAccepted world ends clocks chain (event.Message k m) given lanes found after =
    AreMoved (moved_by world ends clocks chain m given) lanes found after
AreLanesAccepted world ends clocks chain (event.Block k time) given lanes found after = after ≡ lanes

abbrev pub AreLanesWith : WorldState → List EndNotes → List ChainClock → ℕ → Event → Reply → List LaneState → Option Finding → List LaneState → Type 0
AreLanesWith world ends clocks chain happening (reply.Ok given) lanes found after =
    AreLanesAccepted world ends clocks chain happening given lanes found after
AreLanesWith world ends clocks chain happening (reply.No refusal) lanes found after = after ≡ lanes

-- the lanes behind an entry of which this was found
abbrev pub AreLanesAfter : WorldState → List EndNotes → List ChainClock → ℕ → Entry → List LaneState → Option Finding → List LaneState → Type 0
AreLanesAfter world ends clocks chain entry lanes found after =
    AreLanesWith world ends clocks chain entry.event entry.reply lanes found after
