-- What a computed run received, acknowledged and timed out, in one list each, with the end at which it was. Whatever stands
-- in the history of any end stands there.
use Rattle.std.proofs.Common.{◌≡◌, ℕ, Bool, true, false, refl, sym, ◌∙◌, List, Option, Some, None, ◌==◌, filter_map, eqb-true, Contains}
use Rattle.ibc_ids.specs.Texts.{Text, same_text}
use Rattle.ibc_ids.proofs.Texts.{text_same}
use Rattle.ibc_wire.specs.declared.packet.Packet.{Packet}
use Rattle.ibc_machine.specs.ledger.Ledgers.{chain_of}
use Rattle.ibc_machine.specs.promises.Histories.{Happened, End, is_end, packet_if, history_of, received_by, acknowledged_by, timed_out_by, received_packets, acknowledged_packets, timed_out_packets}
use Rattle.ibc_machine.proofs.Members.{Is_in, in_contains, in_filter_map, in_filter_map_from}
use Rattle.ibc_laws.specs.WrongPackets.{end_of}
use Rattle.ibc_laws.proofs.basics.PassedTests.{both}
use Rattle.ibc_laws.proofs.basics.ListTests.{in_filter_from}
use Rattle.ibc_laws.proofs.steps.Told.{Told, Quiet, Sent, Received, Acknowledged, TimedOut, told_of, is_told, received_in, acknowledged_in, timed_out_in}
use Rattle.ibc_laws.proofs.steps.Happenings.{about}

-- ---- what is told on a chain, with the end that it is told of

abbrev pub TakenAt : Type 0
TakenAt = Option (End × Packet)

abbrev pub received_at : ℕ → Told → TakenAt
received_at k (Received p ack) = Some (end_of k p.destination_port p.destination_channel, p)
received_at k _ = None

abbrev pub acknowledged_at : ℕ → Told → TakenAt
acknowledged_at k (Acknowledged p ack) = Some (end_of k p.source_port p.source_channel, p)
acknowledged_at k _ = None

abbrev pub timed_out_at : ℕ → Told → TakenAt
timed_out_at k (TimedOut p) = Some (end_of k p.source_port p.source_channel, p)
timed_out_at k _ = None

abbrev pub all_taken : (ℕ → Told → TakenAt) → List Happened → List (End × Packet)
all_taken taken_at hs = filter_map (λ (h : Happened). taken_at (chain_of h.0) (told_of h)) hs

abbrev pub all_received : List Happened → List (End × Packet)
all_received hs = all_taken received_at hs

abbrev pub all_acknowledged : List Happened → List (End × Packet)
all_acknowledged hs = all_taken acknowledged_at hs

abbrev pub all_timed_out : List Happened → List (End × Packet)
all_timed_out hs = all_taken timed_out_at hs

-- ---- it is of the end

lemma_packet_if : (b : Bool) (p q : Packet) → packet_if b p ≡ Some q → (b ≡ true) × (p ≡ q)
lemma_packet_if true p q is = (refl, cc is)
lemma_packet_if false p q is = absurd (cc is)

lemma_the_end : (e : End) (k : ℕ) (port channel : Text) → k ≡ e.chain → is_end e port channel ≡ true → end_of k port channel ≡ e
lemma_the_end e k port channel chain is =
    let parts = both (same_text port e.port) (same_text channel e.channel) is in
    let of_port = text_same port e.port parts.0 in
    let of_channel = text_same channel e.channel parts.1 in
    λ i. record { chain = chain i; port = of_port i; channel = of_channel i }

lemma_at : (e : End) (k : ℕ) (port channel : Text) (p q : Packet) → k ≡ e.chain → packet_if (is_end e port channel) q ≡ Some p
    → ◌≡◌ {A = TakenAt} (Some (end_of k port channel, q)) (Some (e, p))
lemma_at e k port channel p q chain is =
    let x = lemma_packet_if (is_end e port channel) q p is in
    let place = lemma_the_end e k port channel chain x.0 in
    let same = x.1 in
    λ i. Some (place i, same i)

lemma_received_at : (e : End) (p : Packet) (k : ℕ) → k ≡ e.chain → (told : Told) → received_in e told ≡ Some p → received_at k told ≡ Some (e, p)
lemma_received_at e p k chain (Received q ack) is = lemma_at e k q.destination_port q.destination_channel p q chain is
lemma_received_at e p k chain Quiet is = absurd (cc is)
lemma_received_at e p k chain (Sent port channel n c) is = absurd (cc is)
lemma_received_at e p k chain (Acknowledged q ack) is = absurd (cc is)
lemma_received_at e p k chain (TimedOut q) is = absurd (cc is)

lemma_acknowledged_at : (e : End) (p : Packet) (k : ℕ) → k ≡ e.chain → (told : Told) → acknowledged_in e told ≡ Some p → acknowledged_at k told ≡ Some (e, p)
lemma_acknowledged_at e p k chain (Acknowledged q ack) is = lemma_at e k q.source_port q.source_channel p q chain is
lemma_acknowledged_at e p k chain Quiet is = absurd (cc is)
lemma_acknowledged_at e p k chain (Sent port channel n c) is = absurd (cc is)
lemma_acknowledged_at e p k chain (Received q ack) is = absurd (cc is)
lemma_acknowledged_at e p k chain (TimedOut q) is = absurd (cc is)

lemma_timed_out_at : (e : End) (p : Packet) (k : ℕ) → k ≡ e.chain → (told : Told) → timed_out_in e told ≡ Some p → timed_out_at k told ≡ Some (e, p)
lemma_timed_out_at e p k chain (TimedOut q) is = lemma_at e k q.source_port q.source_channel p q chain is
lemma_timed_out_at e p k chain Quiet is = absurd (cc is)
lemma_timed_out_at e p k chain (Sent port channel n c) is = absurd (cc is)
lemma_timed_out_at e p k chain (Received q ack) is = absurd (cc is)
lemma_timed_out_at e p k chain (Acknowledged q ack) is = absurd (cc is)

-- ---- it stands in the list

-- an event of the chain told it
record WasTold (by : Happened → Option Packet) (k : ℕ) (p : Packet) (hs : List Happened) : Type 0 where
  event : Happened
  among : Is_in event hs
  chain : chain_of event.0 ≡ k
  tells : by event ≡ Some p

lemma_was_told : (by : Happened → Option Packet) (k : ℕ) (p : Packet) (hs : List Happened) → Is_in p (about by k hs) → WasTold by k p hs
lemma_was_told by k p hs has =
    let x = in_filter_map_from by p (history_of k hs) has in
    let own = in_filter_from (λ (h : Happened). chain_of h.0 == k) x.0 hs x.1 in
    record { event = x.0; among = own.0; chain = eqb-true (chain_of x.0.0) k own.1; tells = x.2 }

pub lemma_received_in : (e : End) (p : Packet) (hs : List Happened) → Contains (received_packets e hs) p → Is_in (e, p) (all_received hs)
lemma_received_in e p hs has =
    let x = lemma_was_told (received_by e) e.chain p hs (in_contains p (received_packets e hs) has) in
    in_filter_map (λ (h : Happened). received_at (chain_of h.0) (told_of h)) x.event (e, p) hs x.among
    (lemma_received_at e p (chain_of x.event.0) x.chain (told_of x.event) (sym ((is_told x.event).received e) ∙ x.tells))

pub lemma_acknowledged_in : (e : End) (p : Packet) (hs : List Happened) → Contains (acknowledged_packets e hs) p → Is_in (e, p) (all_acknowledged hs)
lemma_acknowledged_in e p hs has =
    let x = lemma_was_told (acknowledged_by e) e.chain p hs (in_contains p (acknowledged_packets e hs) has) in
    in_filter_map (λ (h : Happened). acknowledged_at (chain_of h.0) (told_of h)) x.event (e, p) hs x.among
    (lemma_acknowledged_at e p (chain_of x.event.0) x.chain (told_of x.event) (sym ((is_told x.event).acknowledged e) ∙ x.tells))

pub lemma_timed_out_in : (e : End) (p : Packet) (hs : List Happened) → Contains (timed_out_packets e hs) p → Is_in (e, p) (all_timed_out hs)
lemma_timed_out_in e p hs has =
    let x = lemma_was_told (timed_out_by e) e.chain p hs (in_contains p (timed_out_packets e hs) has) in
    in_filter_map (λ (h : Happened). timed_out_at (chain_of h.0) (told_of h)) x.event (e, p) hs x.among
    (lemma_timed_out_at e p (chain_of x.event.0) x.chain (told_of x.event) (sym ((is_told x.event).timed_out e) ∙ x.tells))
