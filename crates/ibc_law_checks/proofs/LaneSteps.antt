-- Laws of a lane still hold with one packet more.
use Rattle.std.proofs.Common.{◌≡◌, ℕ, ◌+◌, Bool, true, false, refl, sym, ap, ◌∙◌, subst, List, [], ◌∷◌, ◌++◌, append_assoc, append-nil, length, Some, slice_get, inl, inr, nat_eq, Contains, IsTrue, arith}
use Rattle.std.specs.List.{IsDistinct}
use Rattle.std.proofs.lemmas.List.Elements.{Contains-append_left, Contains-push_cases}
use Rattle.ibc_wire.specs.declared.packet.Packet.{Packet}
use Rattle.ibc_machine.specs.chain.Records.{is_one_of}
use Rattle.ibc_machine.specs.promises.Histories.{sequences}
use Rattle.ibc_laws.proofs.basics.Lists.{distinct-push, distinct-none, among-contains}
use Rattle.ibc_law_checks.specs.declared.finding.PacketLaw.{PacketLaw}
use Rattle.ibc_law_checks.specs.declared.finding.PacketLaw.TheVariants as law
use Rattle.ibc_law_checks.specs.Lanes.{LaneState, IsLawfulLane, Holds, AreAmong, with_sent, with_received, with_acknowledged, with_timed_out, new_lane}
use Rattle.ibc_law_checks.proofs.PacketLists.{sequences-push, got-push, beginning-push, none_of_both, of_sequence, one_of_sequence}

-- nothing has gone over a new lane
pub new_is_lawful : (ordered : Bool) → (each : PacketLaw) → Holds each (new_lane ordered)
new_is_lawful ordered law.SentInTurn = λ k p e. absurd (cc e)
new_is_lawful ordered law.ReceivedWasSent = λ p h. h
new_is_lawful ordered law.ReceivedOnce = distinct-none
new_is_lawful ordered law.ReceivedInOrder = λ kept. ([], refl)
new_is_lawful ordered law.NotBoth = λ n late h. absurd (let lt = late.1 in omega arith)
new_is_lawful ordered law.SettledWasSent = (λ p h. h, λ p h. h)
new_is_lawful ordered law.SettledOnce = distinct-none
new_is_lawful ordered law.AcknowledgedReceived = λ p h. h
new_is_lawful ordered law.AcknowledgedInOrder = λ kept. ([], refl)

-- one more of those that are among others
among-push : (ps qs : List Packet) (p : Packet) → AreAmong ps qs → Contains qs p → AreAmong (ps ++ p ∷ []) qs
among-push ps qs p are there q h = elim (Contains-push_cases ps p q h) [
  | inl before ↦ are q before
  | inr same ↦ subst (Contains qs) same there
]

among-more : (ps qs : List Packet) (p : Packet) → AreAmong ps qs → AreAmong ps (qs ++ p ∷ [])
among-more ps qs p are q h = Contains-append_left qs (p ∷ []) q (are q h)

-- a number that is new behind numbers none of which stands twice
distinct-last : (ns : List ℕ) (n : ℕ) → IsDistinct nat_eq ns → is_one_of ns n ≡ false → IsDistinct nat_eq (ns ++ n ∷ [])
distinct-last ns n d fresh =
    subst (IsDistinct nat_eq) (append-nil (ns ++ n ∷ []))
    (distinct-push ns [] n (subst (IsDistinct nat_eq) (sym (append-nil ns)) d) (ap (λ l. is_one_of l n) (append-nil ns) ∙ fresh))

pub sent_keeps : (lane : LaneState) (p : Packet) → IsLawfulLane lane → p.sequence ≡ length lane.sent + 1
    → (each : PacketLaw) → Holds each (with_sent lane p)
sent_keeps lane p is next law.SentInTurn = λ k q e. elim (got-push lane.sent p q k e) [
  | inl before ↦ is.holds law.SentInTurn k q before
  | inr last ↦ sym (ap (λ (x : Packet). x.sequence) last.1) ∙ next ∙ ap (λ i. i + 1) (sym last.0)
]
sent_keeps lane p is next law.ReceivedWasSent = among-more lane.received lane.sent p (is.holds law.ReceivedWasSent)
sent_keeps lane p is next law.ReceivedOnce = is.holds law.ReceivedOnce
sent_keeps lane p is next law.ReceivedInOrder = λ ordered.
    let b = is.holds law.ReceivedInOrder ordered in
    (b.0 ++ p ∷ [], sym (append_assoc lane.received b.0 (p ∷ [])) ∙ ap (λ l. l ++ p ∷ []) b.1)
sent_keeps lane p is next law.NotBoth = is.holds law.NotBoth
sent_keeps lane p is next law.SettledWasSent =
    let was = is.holds law.SettledWasSent in
    (among-more lane.acknowledged lane.sent p was.0, among-more lane.timed_out lane.sent p was.1)
sent_keeps lane p is next law.SettledOnce = is.holds law.SettledOnce
sent_keeps lane p is next law.AcknowledgedReceived = is.holds law.AcknowledgedReceived
sent_keeps lane p is next law.AcknowledgedInOrder = λ ordered.
    let b = is.holds law.AcknowledgedInOrder ordered in
    (b.0 ++ p ∷ [], sym (append_assoc lane.acknowledged b.0 (p ∷ [])) ∙ ap (λ l. l ++ p ∷ []) b.1)

pub received_keeps : (lane : LaneState) (p : Packet) → IsLawfulLane lane → Contains lane.sent p
    → is_one_of (sequences lane.received) p.sequence ≡ false → is_one_of (sequences lane.timed_out) p.sequence ≡ false
    → (IsTrue lane.ordered → slice_get lane.sent (length lane.received) ≡ Some p) → (each : PacketLaw)
    → Holds each (with_received lane p)
received_keeps lane p is sent fresh timely next law.SentInTurn = is.holds law.SentInTurn
received_keeps lane p is sent fresh timely next law.ReceivedWasSent =
    among-push lane.received lane.sent p (is.holds law.ReceivedWasSent) sent
received_keeps lane p is sent fresh timely next law.ReceivedOnce =
    subst (IsDistinct nat_eq) (sym (sequences-push lane.received p))
    (distinct-last (sequences lane.received) p.sequence (is.holds law.ReceivedOnce) fresh)
received_keeps lane p is sent fresh timely next law.ReceivedInOrder = λ ordered.
    beginning-push lane.received lane.sent p (is.holds law.ReceivedInOrder ordered) (next ordered)
received_keeps lane p is sent fresh timely next law.NotBoth = λ n late h.
    elim (Contains-push_cases (sequences lane.received) p.sequence n (subst (λ l. Contains l n) (sequences-push lane.received p) h)) [
      | inl before ↦ is.holds law.NotBoth n late before
      | inr same ↦ cc (timely, among-contains (sequences lane.timed_out) n late, ap (is_one_of (sequences lane.timed_out)) same)
    ]
received_keeps lane p is sent fresh timely next law.SettledWasSent = is.holds law.SettledWasSent
received_keeps lane p is sent fresh timely next law.SettledOnce = is.holds law.SettledOnce
received_keeps lane p is sent fresh timely next law.AcknowledgedReceived =
    among-more lane.acknowledged lane.received p (is.holds law.AcknowledgedReceived)
received_keeps lane p is sent fresh timely next law.AcknowledgedInOrder = is.holds law.AcknowledgedInOrder

-- a packet that was sent, and whose sequence was received, was received itself
pub was_received : (lane : LaneState) (p : Packet) → IsLawfulLane lane → Contains lane.sent p
    → is_one_of (sequences lane.received) p.sequence ≡ true → Contains lane.received p
was_received lane p is sent e =
    let found = of_sequence lane.received p.sequence e in
    let q_sent : Contains lane.sent found.packet = is.holds law.ReceivedWasSent found.packet found.among in
    subst (Contains lane.received) (one_of_sequence lane.sent found.packet p (is.holds law.SentInTurn) q_sent sent found.numbered) found.among

pub acknowledged_keeps : (lane : LaneState) (p : Packet) → IsLawfulLane lane → Contains lane.sent p
    → is_one_of (sequences lane.received) p.sequence ≡ true → is_one_of (sequences lane.acknowledged) p.sequence ≡ false
    → is_one_of (sequences lane.timed_out) p.sequence ≡ false
    → (IsTrue lane.ordered → slice_get lane.sent (length lane.acknowledged) ≡ Some p) → (each : PacketLaw)
    → Holds each (with_acknowledged lane p)
acknowledged_keeps lane p is sent was fresh timely next law.SentInTurn = is.holds law.SentInTurn
acknowledged_keeps lane p is sent was fresh timely next law.ReceivedWasSent = is.holds law.ReceivedWasSent
acknowledged_keeps lane p is sent was fresh timely next law.ReceivedOnce = is.holds law.ReceivedOnce
acknowledged_keeps lane p is sent was fresh timely next law.ReceivedInOrder = is.holds law.ReceivedInOrder
acknowledged_keeps lane p is sent was fresh timely next law.NotBoth = is.holds law.NotBoth
acknowledged_keeps lane p is sent was fresh timely next law.SettledWasSent =
    let before = is.holds law.SettledWasSent in (among-push lane.acknowledged lane.sent p before.0 sent, before.1)
acknowledged_keeps lane p is sent was fresh timely next law.SettledOnce =
    subst (λ l. IsDistinct nat_eq (l ++ sequences lane.timed_out)) (sym (sequences-push lane.acknowledged p))
    (distinct-push (sequences lane.acknowledged) (sequences lane.timed_out) p.sequence (is.holds law.SettledOnce)
    (none_of_both (sequences lane.acknowledged) (sequences lane.timed_out) p.sequence fresh timely))
acknowledged_keeps lane p is sent was fresh timely next law.AcknowledgedReceived =
    among-push lane.acknowledged lane.received p (is.holds law.AcknowledgedReceived) (was_received lane p is sent was)
acknowledged_keeps lane p is sent was fresh timely next law.AcknowledgedInOrder = λ ordered.
    beginning-push lane.acknowledged lane.sent p (is.holds law.AcknowledgedInOrder ordered) (next ordered)

pub timed_out_keeps : (lane : LaneState) (p : Packet) → IsLawfulLane lane → Contains lane.sent p
    → is_one_of (sequences lane.acknowledged) p.sequence ≡ false → is_one_of (sequences lane.timed_out) p.sequence ≡ false
    → is_one_of (sequences lane.received) p.sequence ≡ false → (each : PacketLaw) → Holds each (with_timed_out lane p)
timed_out_keeps lane p is sent fresh once away law.SentInTurn = is.holds law.SentInTurn
timed_out_keeps lane p is sent fresh once away law.ReceivedWasSent = is.holds law.ReceivedWasSent
timed_out_keeps lane p is sent fresh once away law.ReceivedOnce = is.holds law.ReceivedOnce
timed_out_keeps lane p is sent fresh once away law.ReceivedInOrder = is.holds law.ReceivedInOrder
timed_out_keeps lane p is sent fresh once away law.NotBoth = λ n late h.
    elim (Contains-push_cases (sequences lane.timed_out) p.sequence n (subst (λ l. Contains l n) (sequences-push lane.timed_out p) late)) [
      | inl before ↦ is.holds law.NotBoth n before h
      | inr same ↦ cc (away, among-contains (sequences lane.received) n h, ap (is_one_of (sequences lane.received)) same)
    ]
timed_out_keeps lane p is sent fresh once away law.SettledWasSent =
    let before = is.holds law.SettledWasSent in (before.0, among-push lane.timed_out lane.sent p before.1 sent)
timed_out_keeps lane p is sent fresh once away law.SettledOnce =
    let acked : List ℕ = sequences lane.acknowledged in
    let late : List ℕ = sequences lane.timed_out in
    subst (λ l. IsDistinct nat_eq (acked ++ l)) (sym (sequences-push lane.timed_out p))
    (subst (IsDistinct nat_eq) (append_assoc acked late (p.sequence ∷ []))
    (distinct-last (acked ++ late) p.sequence (is.holds law.SettledOnce) (none_of_both acked late p.sequence fresh once)))
timed_out_keeps lane p is sent fresh once away law.AcknowledgedReceived = is.holds law.AcknowledgedReceived
timed_out_keeps lane p is sent fresh once away law.AcknowledgedInOrder = is.holds law.AcknowledgedInOrder
