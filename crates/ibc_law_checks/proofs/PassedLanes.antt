-- What the lanes are when a packet has passed over one of them.
use Rattle.std.proofs.Common.{◌≡◌, ℕ, zero, suc, ◌≤◌, List, [], ◌∷◌, length, refl, sym, ap, ◌∙◌, subst, Option, Some, None, slice_get, slice_set, IsSomeAnd}
use Rattle.std.specs.Option.{option_map_or}
use Rattle.std.proofs.lemmas.Option.{same_Some, slice_get_past}
use Rattle.ibc_wire.specs.declared.packet.Packet.{Packet}
use Rattle.ibc_law_checks.specs.declared.finding.BrokenLaw.{BrokenLaw}
use Rattle.ibc_law_checks.specs.declared.finding.BrokenLaw.TheVariants as broken
use Rattle.ibc_law_checks.specs.declared.finding.Finding.{Finding}
use Rattle.ibc_law_checks.specs.declared.finding.PacketLaw.{PacketLaw}
use Rattle.ibc_law_checks.specs.declared.movement.Passing.{Passing}
use Rattle.ibc_law_checks.specs.Lanes.{LaneState, Holds}
use Rattle.ibc_law_checks.specs.MovedLanes.{with_passed, IsPassed, ArePassed, ArePassedOrTold, WouldBreak, IsPacketFinding, IsToldAs}

pub set-same : {A : Type 0} (xs : List A) (k : ℕ) (x : A) → slice_get xs k ≡ Some x → slice_set xs k x ≡ xs
set-same [] k x e = refl
set-same (y ∷ xs) zero x e = ap (λ z. z ∷ xs) (sym (same_Some y x e))
set-same (y ∷ xs) (suc k) x e = ap (λ l. y ∷ l) (set-same xs k x e)

-- the lane at a place took the packet, or stayed
pub passed_at : (how : Passing) (p : Packet) (place : ℕ) (lanes : List LaneState) (lane after : LaneState) (told : Option PacketLaw)
    → slice_get lanes place ≡ Some lane → IsPassed how p lane told after → ArePassed how p place lanes told (slice_set lanes place after)
passed_at how p place lanes lane after None there is =
    ap (slice_set lanes place) is
    ∙ sym (ap (λ (o : Option LaneState). option_map_or (λ (l : LaneState). slice_set lanes place (with_passed how l p)) o lanes) there)
passed_at how p place lanes lane after (Some law) there is = (
  ap (slice_set lanes place) is.0 ∙ set-same lanes place lane there,
  subst (λ (o : Option LaneState). IsSomeAnd o (λ (l : LaneState). ¬ (Holds law (with_passed how l p)))) (sym there) is.1,
)

-- no lane stands there
pub passed_nowhere : (how : Passing) (p : Packet) (place : ℕ) (lanes : List LaneState) → length lanes ≤ place → ArePassed how p place lanes None lanes
passed_nowhere how p place lanes past =
    sym (ap (λ (o : Option LaneState). option_map_or (λ (l : LaneState). slice_set lanes place (with_passed how l p)) o lanes) (slice_get_past lanes place past))

-- the law that is told is the one that wouldn't hold
pub told_as : (told : BrokenLaw) (law : PacketLaw) (how : Passing) (p : Packet) (place : ℕ) (lanes : List LaneState)
    → told ≡ broken.OfPackets law → WouldBreak law how p place lanes → IsPacketFinding told how p place lanes
told_as told law how p place lanes e would = subst (λ (b : BrokenLaw). IsPacketFinding b how p place lanes) (sym e) would

pub told_together : (how : Passing) (p : Packet) (place : ℕ) (lanes after : List LaneState) (told : Option PacketLaw) (found : Option Finding)
    → ArePassed how p place lanes told after → IsToldAs told found → ArePassedOrTold how p place lanes found after
told_together how p place lanes after None None is none = is
told_together how p place lanes after None (Some f) is none = absurd (cc none)
told_together how p place lanes after (Some law) None is same = absurd same
told_together how p place lanes after (Some law) (Some f) is same = (is.0, told_as f.law law how p place lanes same is.1)
