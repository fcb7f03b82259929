-- What the first broken law of a lane says of its laws.
use Rattle.std.proofs.Common.{◌≡◌, ℕ, ◌+◌, ◌-◌, ◌==◌, Bool, true, false, not, refl, sym, ap, subst, List, length, Option, None, Some, slice_get, arith, Contains, IsTrue, MatchOption, if◌then◌else◌, eqb-true}
use Rattle.std.specs.Option.{option_map_or}
use Rattle.ibc_wire.specs.declared.packet.Packet.{Packet}
use Rattle.ibc_laws.proofs.basics.PassedTests.{implied, or_false, either}
use Rattle.ibc_laws.proofs.basics.Lists.{lemma_got_contains}
use Rattle.ibc_law_checks.specs.declared.finding.PacketLaw.TheVariants as law
use Rattle.ibc_law_checks.specs.SamePackets.{same_packet}
use Rattle.ibc_law_checks.specs.PacketTests.{has_sequence, stands_at}
use Rattle.ibc_law_checks.specs.Lanes.{LaneState, IsLawfulLane, Holds, was_sent, is_settled, is_next, with_sent, with_received, with_acknowledged, with_timed_out, broken_by_sending, broken_by_receiving, broken_by_acknowledging, broken_by_timing_out}
use Rattle.ibc_law_checks.proofs.EqualPackets.{alike, is_itself}
use Rattle.ibc_law_checks.proofs.PacketLists.{stands_in_turn}
use Rattle.ibc_law_checks.proofs.LaneSteps.{sent_keeps, received_keeps, acknowledged_keeps, timed_out_keeps}
use Rattle.ibc_law_checks.proofs.BrokenLanes as broken

-- ---- what the tests say

stands_there : (ps : List Packet) (i : ℕ) (p : Packet) → stands_at ps i p ≡ true → slice_get ps i ≡ Some p
stands_there ps i p e = go (slice_get ps i) e
  where
    go : (found : Option Packet) → option_map_or (λ q. same_packet q p) found false ≡ true → found ≡ Some p
    go (Some q) e = ap Some (alike q p e)
    go None e = absurd (cc e)

stands_not_there : (ps : List Packet) (i : ℕ) (p : Packet) → stands_at ps i p ≡ false → ¬ (slice_get ps i ≡ Some p)
stands_not_there ps i p e there =
    let other : stands_at ps i p ≡ true =
    subst (λ found. option_map_or (λ q. same_packet q p) found false ≡ true) (sym there) (is_itself p) in
    cc (e, other)

not_false : (b : Bool) → not b ≡ false → b ≡ true
not_false true e = refl
not_false false e = absurd (cc e)

module _ (lane : LaneState) (p : Packet) (is : IsLawfulLane lane) where
  sent_it : was_sent lane p ≡ true → Contains lane.sent p
  sent_it e = lemma_got_contains lane.sent (p.sequence - 1) p (stands_there lane.sent (p.sequence - 1) p e)

  not_sent : was_sent lane p ≡ false → ¬ (Contains lane.sent p)
  not_sent e h =
      stands_not_there lane.sent (p.sequence - 1) p e (stands_in_turn lane.sent p (is.holds law.SentInTurn) h)

  next_in_order : (behind : ℕ) → is_next lane behind p ≡ true → IsTrue lane.ordered → slice_get lane.sent behind ≡ Some p
  next_in_order behind e ordered = stands_there lane.sent behind p (implied lane.ordered (stands_at lane.sent behind p) ordered e)

  not_next : (behind : ℕ) → is_next lane behind p ≡ false → IsTrue lane.ordered
  not_next behind e = not_false lane.ordered (or_false (not lane.ordered) (stands_at lane.sent behind p) e).0

  not_next_there : (behind : ℕ) → is_next lane behind p ≡ false → ¬ (slice_get lane.sent behind ≡ Some p)
  not_next_there behind e = stands_not_there lane.sent behind p (or_false (not lane.ordered) (stands_at lane.sent behind p) e).1

  -- ---- the verdicts

  pub sending_judged : MatchOption (broken_by_sending lane p) (IsLawfulLane (with_sent lane p)) (λ each. ¬ (Holds each (with_sent lane p)))
  sending_judged = go (p.sequence == length lane.sent + 1) refl
    where
      go : (a : Bool) → (p.sequence == length lane.sent + 1) ≡ a
          → MatchOption (if a then None else Some law.SentInTurn) (IsLawfulLane (with_sent lane p)) (λ each. ¬ (Holds each (with_sent lane p)))
      go true e = record { holds = sent_keeps lane p is (eqb-true p.sequence (length lane.sent + 1) e) }
      go false e = broken.out_of_turn lane p (λ same. let t : (p.sequence == length lane.sent + 1) ≡ true = grind (arith, same) in cc (e, t))

  pub receiving_judged : MatchOption (broken_by_receiving lane p) (IsLawfulLane (with_received lane p)) (λ each. ¬ (Holds each (with_received lane p)))
  receiving_judged =
      go (was_sent lane p) refl (has_sequence lane.received p.sequence) refl (has_sequence lane.timed_out p.sequence) refl
      (is_next lane (length lane.received) p) refl
    where
      go : (a : Bool) → was_sent lane p ≡ a → (b : Bool) → has_sequence lane.received p.sequence ≡ b
          → (c : Bool) → has_sequence lane.timed_out p.sequence ≡ c → (d : Bool) → is_next lane (length lane.received) p ≡ d
          → MatchOption (if not a then Some law.ReceivedWasSent else if b then Some law.ReceivedOnce
          else if c then Some law.NotBoth else if d then None else Some law.ReceivedInOrder)
          (IsLawfulLane (with_received lane p)) (λ each. ¬ (Holds each (with_received lane p)))
      go false e b f c g d h = broken.unsent lane p (not_sent e)
      go true e true f c g d h = broken.twice lane p f
      go true e false f true g d h = broken.behind_its_timeout lane p g
      go true e false f false g true h =
          record { holds = received_keeps lane p is (sent_it e) f g (next_in_order (length lane.received) h) }
      go true e false f false g false h =
          broken.out_of_order lane p (not_next (length lane.received) h) (not_next_there (length lane.received) h)

  pub acknowledging_judged : MatchOption (broken_by_acknowledging lane p) (IsLawfulLane (with_acknowledged lane p)) (λ each. ¬ (Holds each (with_acknowledged lane p)))
  acknowledging_judged =
      go (was_sent lane p) refl (is_settled lane p.sequence) refl (has_sequence lane.received p.sequence) refl
      (is_next lane (length lane.acknowledged) p) refl
    where
      go : (a : Bool) → was_sent lane p ≡ a → (b : Bool) → is_settled lane p.sequence ≡ b
          → (c : Bool) → has_sequence lane.received p.sequence ≡ c → (d : Bool) → is_next lane (length lane.acknowledged) p ≡ d
          → MatchOption (if not a then Some law.SettledWasSent else if b then Some law.SettledOnce
          else if not c then Some law.AcknowledgedReceived else if d then None else Some law.AcknowledgedInOrder)
          (IsLawfulLane (with_acknowledged lane p)) (λ each. ¬ (Holds each (with_acknowledged lane p)))
      go false e b f c g d h = broken.acknowledged_unsent lane p (not_sent e)
      go true e true f c g d h =
          broken.acknowledged_twice lane p (either (has_sequence lane.acknowledged p.sequence) (has_sequence lane.timed_out p.sequence) f)
      go true e false f false g d h = broken.acknowledged_unreceived lane p g
      go true e false f true g true h =
          let parts = or_false (has_sequence lane.acknowledged p.sequence) (has_sequence lane.timed_out p.sequence) f in
          record { holds = acknowledged_keeps lane p is (sent_it e) g parts.0 parts.1 (next_in_order (length lane.acknowledged) h) }
      go true e false f true g false h =
          broken.acknowledged_out_of_order lane p (not_next (length lane.acknowledged) h) (not_next_there (length lane.acknowledged) h)

  pub timing_out_judged : MatchOption (broken_by_timing_out lane p) (IsLawfulLane (with_timed_out lane p)) (λ each. ¬ (Holds each (with_timed_out lane p)))
  timing_out_judged =
      go (was_sent lane p) refl (is_settled lane p.sequence) refl (has_sequence lane.received p.sequence) refl
    where
      go : (a : Bool) → was_sent lane p ≡ a → (b : Bool) → is_settled lane p.sequence ≡ b
          → (c : Bool) → has_sequence lane.received p.sequence ≡ c
          → MatchOption (if not a then Some law.SettledWasSent else if b then Some law.SettledOnce
          else if c then Some law.NotBoth else None)
          (IsLawfulLane (with_timed_out lane p)) (λ each. ¬ (Holds each (with_timed_out lane p)))
      go false e b f c g = broken.timed_out_unsent lane p (not_sent e)
      go true e true f c g =
          broken.timed_out_twice lane p (either (has_sequence lane.acknowledged p.sequence) (has_sequence lane.timed_out p.sequence) f)
      go true e false f true g = broken.timed_out_received lane p g
      go true e false f false g =
          let parts = or_false (has_sequence lane.acknowledged p.sequence) (has_sequence lane.timed_out p.sequence) f in
          record { holds = timed_out_keeps lane p is (sent_it e) parts.0 parts.1 g }
