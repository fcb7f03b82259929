-- The test of two packets tells whether they are one.
use Rattle.std.proofs.Common.{◌≡◌, ℕ, true, refl, List, ◌==◌, eqb-true}
use Rattle.std.specs.Str.{bytes_eq}
use Rattle.std.proofs.lemmas.Slice.Eq.{bytes_eq-Decides}
use Rattle.ibc_wire.specs.declared.packet.Packet.{Packet}
use Rattle.ibc_laws.proofs.basics.PassedTests.{both, and_true, number-self}
use Rattle.ibc_law_checks.specs.SamePackets.{same_packet}

-- a packet by its fields
abbrev packet_with : ℕ → ℕ → ℕ → List ℕ → List ℕ → List ℕ → List ℕ → List ℕ → Packet
packet_with n h t sp sc dp dc bytes = record {
  sequence = n;
  timeout_height = h;
  timeout_time = t;
  source_port = sp;
  source_channel = sc;
  destination_port = dp;
  destination_channel = dc;
  payload = bytes;
}

pub alike : (p q : Packet) → same_packet p q ≡ true → p ≡ q
alike p q e =
    let a = both (p.sequence == q.sequence) _ e in
    let b = both (p.timeout_height == q.timeout_height) _ a.1 in
    let c = both (p.timeout_time == q.timeout_time) _ b.1 in
    let d = both (bytes_eq p.source_port q.source_port) _ c.1 in
    let f = both (bytes_eq p.source_channel q.source_channel) _ d.1 in
    let g = both (bytes_eq p.destination_port q.destination_port) _ f.1 in
    let h = both (bytes_eq p.destination_channel q.destination_channel) _ g.1 in
    let n : p.sequence ≡ q.sequence = eqb-true p.sequence q.sequence a.0 in
    let height : p.timeout_height ≡ q.timeout_height = eqb-true p.timeout_height q.timeout_height b.0 in
    let time : p.timeout_time ≡ q.timeout_time = eqb-true p.timeout_time q.timeout_time c.0 in
    let sp : p.source_port ≡ q.source_port = (bytes_eq-Decides p.source_port q.source_port).0 d.0 in
    let sc : p.source_channel ≡ q.source_channel = (bytes_eq-Decides p.source_channel q.source_channel).0 f.0 in
    let dp : p.destination_port ≡ q.destination_port = (bytes_eq-Decides p.destination_port q.destination_port).0 g.0 in
    let dc : p.destination_channel ≡ q.destination_channel = (bytes_eq-Decides p.destination_channel q.destination_channel).0 h.0 in
    let bytes : p.payload ≡ q.payload = (bytes_eq-Decides p.payload q.payload).0 h.1 in
    let same : packet_with p.sequence p.timeout_height p.timeout_time p.source_port p.source_channel p.destination_port p.destination_channel p.payload
    ≡ packet_with q.sequence q.timeout_height q.timeout_time q.source_port q.source_channel q.destination_port q.destination_channel q.payload = cc in
    same

pub is_itself : (p : Packet) → same_packet p p ≡ true
is_itself p =
    let same : (xs : List ℕ) → bytes_eq xs xs ≡ true = λ xs. (bytes_eq-Decides xs xs).1 refl in
    and_true (number-self p.sequence) (and_true (number-self p.timeout_height) (and_true (number-self p.timeout_time)
    (and_true (same p.source_port) (and_true (same p.source_channel) (and_true (same p.destination_port)
    (and_true (same p.destination_channel) (same p.payload)))))))
