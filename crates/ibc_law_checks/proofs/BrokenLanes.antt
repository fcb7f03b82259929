-- Laws of a lane that don't hold with one packet more.
use Rattle.std.proofs.Common.{◌≡◌, ℕ, ◌+◌, true, false, sym, ap, subst, List, [], ◌∷◌, ◌++◌, append_assoc, append-nil, length, Some, slice_get, ◌⊎◌, inl, inr, nat_eq, Contains, IsTrue}
use Rattle.std.specs.List.{IsDistinct}
use Rattle.std.proofs.lemmas.List.Elements.{Contains-push}
use Rattle.ibc_wire.specs.declared.packet.Packet.{Packet}
use Rattle.ibc_machine.specs.chain.Records.{is_one_of}
use Rattle.ibc_machine.specs.promises.Histories.{sequences}
use Rattle.ibc_laws.proofs.basics.Lists.{contains-among, among-contains, among-kept}
use Rattle.ibc_law_checks.specs.declared.finding.PacketLaw.TheVariants as law
use Rattle.ibc_law_checks.specs.Lanes.{LaneState, Holds, with_sent, with_received, with_acknowledged, with_timed_out}
use Rattle.ibc_law_checks.proofs.PacketLists.{sequences-push, got-last, contains-sequence, distinct_is_new, among_second, beginning-last}

module _ (lane : LaneState) (p : Packet) where
  pub out_of_turn : (p.sequence ≡ length lane.sent + 1 → ⊥) → ¬ (Holds law.SentInTurn (with_sent lane p))
  out_of_turn never holds = never (holds (length lane.sent) p (got-last lane.sent p))

  pub unsent : ¬ (Contains lane.sent p) → ¬ (Holds law.ReceivedWasSent (with_received lane p))
  unsent never holds = never (holds p (Contains-push lane.received p))

  pub twice : is_one_of (sequences lane.received) p.sequence ≡ true → ¬ (Holds law.ReceivedOnce (with_received lane p))
  twice was holds =
      let ns : List ℕ = sequences lane.received in
      let d : IsDistinct nat_eq ((ns ++ p.sequence ∷ []) ++ []) =
      subst (IsDistinct nat_eq) (sym (append-nil (ns ++ p.sequence ∷ []))) (subst (IsDistinct nat_eq) (sequences-push lane.received p) holds) in
      let fresh : is_one_of (ns ++ []) p.sequence ≡ false = distinct_is_new ns [] p.sequence d in
      cc (was, fresh, ap (λ l. is_one_of l p.sequence) (append-nil ns))

  pub behind_its_timeout : is_one_of (sequences lane.timed_out) p.sequence ≡ true → ¬ (Holds law.NotBoth (with_received lane p))
  behind_its_timeout late holds =
      holds p.sequence (contains-among (sequences lane.timed_out) p.sequence late)
      (subst (λ l. Contains l p.sequence) (sym (sequences-push lane.received p)) (Contains-push (sequences lane.received) p.sequence))

  pub out_of_order : IsTrue lane.ordered → ¬ (slice_get lane.sent (length lane.received) ≡ Some p)
      → ¬ (Holds law.ReceivedInOrder (with_received lane p))
  out_of_order ordered never holds = never (beginning-last lane.received lane.sent p (holds ordered))

  pub acknowledged_unsent : ¬ (Contains lane.sent p) → ¬ (Holds law.SettledWasSent (with_acknowledged lane p))
  acknowledged_unsent never holds = never (holds.0 p (Contains-push lane.acknowledged p))

  pub acknowledged_unreceived : is_one_of (sequences lane.received) p.sequence ≡ false
      → ¬ (Holds law.AcknowledgedReceived (with_acknowledged lane p))
  acknowledged_unreceived away holds =
      let h : Contains lane.received p = holds p (Contains-push lane.acknowledged p) in
      cc (away, among-contains (sequences lane.received) p.sequence (contains-sequence lane.received p h))

  -- a sequence that was acknowledged or timed out
  settled : (is_one_of (sequences lane.acknowledged) p.sequence ≡ true) ⊎ (is_one_of (sequences lane.timed_out) p.sequence ≡ true)
      → is_one_of (sequences lane.acknowledged ++ sequences lane.timed_out) p.sequence ≡ true
  settled (inl was) = among-kept (sequences lane.acknowledged) (sequences lane.timed_out) p.sequence was
  settled (inr was) = among_second (sequences lane.acknowledged) (sequences lane.timed_out) p.sequence was

  pub acknowledged_twice : (is_one_of (sequences lane.acknowledged) p.sequence ≡ true) ⊎ (is_one_of (sequences lane.timed_out) p.sequence ≡ true)
      → ¬ (Holds law.SettledOnce (with_acknowledged lane p))
  acknowledged_twice was holds =
      let acked : List ℕ = sequences lane.acknowledged in
      let late : List ℕ = sequences lane.timed_out in
      let d : IsDistinct nat_eq ((acked ++ p.sequence ∷ []) ++ late) =
      subst (λ l. IsDistinct nat_eq (l ++ late)) (sequences-push lane.acknowledged p) holds in
      cc (settled was, distinct_is_new acked late p.sequence d)

  pub acknowledged_out_of_order : IsTrue lane.ordered → ¬ (slice_get lane.sent (length lane.acknowledged) ≡ Some p)
      → ¬ (Holds law.AcknowledgedInOrder (with_acknowledged lane p))
  acknowledged_out_of_order ordered never holds = never (beginning-last lane.acknowledged lane.sent p (holds ordered))

  pub timed_out_unsent : ¬ (Contains lane.sent p) → ¬ (Holds law.SettledWasSent (with_timed_out lane p))
  timed_out_unsent never holds = never (holds.1 p (Contains-push lane.timed_out p))

  pub timed_out_twice : (is_one_of (sequences lane.acknowledged) p.sequence ≡ true) ⊎ (is_one_of (sequences lane.timed_out) p.sequence ≡ true)
      → ¬ (Holds law.SettledOnce (with_timed_out lane p))
  timed_out_twice was holds =
      let acked : List ℕ = sequences lane.acknowledged in
      let late : List ℕ = sequences lane.timed_out in
      let a : IsDistinct nat_eq (acked ++ (late ++ p.sequence ∷ [])) =
      subst (λ l. IsDistinct nat_eq (acked ++ l)) (sequences-push lane.timed_out p) holds in
      let b : IsDistinct nat_eq ((acked ++ late) ++ p.sequence ∷ []) =
      subst (IsDistinct nat_eq) (sym (append_assoc acked late (p.sequence ∷ []))) a in
      let d : IsDistinct nat_eq (((acked ++ late) ++ p.sequence ∷ []) ++ []) =
      subst (IsDistinct nat_eq) (sym (append-nil ((acked ++ late) ++ p.sequence ∷ []))) b in
      let fresh : is_one_of ((acked ++ late) ++ []) p.sequence ≡ false = distinct_is_new (acked ++ late) [] p.sequence d in
      cc (settled was, fresh, ap (λ l. is_one_of l p.sequence) (append-nil (acked ++ late)))

  pub timed_out_received : is_one_of (sequences lane.received) p.sequence ≡ true → ¬ (Holds law.NotBoth (with_timed_out lane p))
  timed_out_received was holds =
      holds p.sequence
      (subst (λ l. Contains l p.sequence) (sym (sequences-push lane.timed_out p)) (Contains-push (sequences lane.timed_out) p.sequence))
      (contains-among (sequences lane.received) p.sequence was)
