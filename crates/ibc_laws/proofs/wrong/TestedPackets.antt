-- Laws of packets and of ends in a computed run, by tests that compute.
use Rattle.std.proofs.Common.{◌≡◌, suc, Bool, true, false, refl, ap, sym, List, [], ◌∷◌, Option, Some, None, inl, inr, arith, ◌==◌, ◌&&◌, ◌||◌, not, eqb-true, slice_get, Contains}
use Rattle.std.specs.List.{list_all, list_any}
use Rattle.std.specs.Option.{option_map_or}
use Rattle.ibc_ids.specs.Texts.{Text, same_text}
use Rattle.ibc_ids.proofs.Texts.{text_same}
use Rattle.ibc_wire.specs.declared.packet.Packet.{Packet}
use Rattle.ibc_wire.specs.declared.records.ChannelState.{ChannelState}
use Rattle.ibc_wire.specs.declared.records.ChannelState.TheVariants.{Closed}
use Rattle.ibc_wire.specs.declared.messages.Message.TheVariants as message
use Rattle.ibc_machine.specs.declared.event.Event.TheVariants as event
use Rattle.ibc_machine.specs.declared.reply.Reply.TheVariants as reply
use Rattle.ibc_machine.specs.chain.Records.{MachineChain, Channel, commitment_of}
use Rattle.ibc_machine.specs.chain.Handlers.{working_height}
use Rattle.ibc_machine.specs.chain.Machine.{World}
use Rattle.ibc_machine.specs.ics24.Values.{same_optional, same_order, same_channel_state}
use Rattle.ibc_machine.specs.ics04.Channels.{is_in_state}
use Rattle.ibc_machine.specs.ics04.Packets.{is_ordered, is_timed_out}
use Rattle.ibc_machine.specs.promises.Histories.{Happened, End, sent_packets, received_packets, acknowledged_packets, packet_sent, ack_written}
use Rattle.ibc_machine.specs.promises.Peers.{end_at, are_peers}
use Rattle.ibc_machine.proofs.SameValues.{same_optional_is, same_order_is}
use Rattle.ibc_laws.specs.Packets.{taken_acks}
use Rattle.ibc_laws.specs.Ends.{IsSentFrom, SettlesWhatWasSent, IsInTime, ReceivesInTime, AcknowledgesInOrder, SilencesClosed, TakesOfPeers, Agree}
use Rattle.ibc_laws.specs.Runs.{WorldStep}
use Rattle.ibc_laws.proofs.basics.PassedTests.{both, either, implied, no_longer}
use Rattle.ibc_laws.proofs.basics.ListTests.{lemma_passes, lemma_passes_in, is_front, lemma_is_front}
use Rattle.ibc_laws.proofs.ends.ReceivedInTime.{lemma_in_time}
use Rattle.ibc_laws.proofs.wrong.EachEnd.{each_end, lemma_each_end, each_pair, lemma_each_pair, lemma_of_peers, lemma_at_own, has_a_peer, lemma_has_a_peer}
use Rattle.ibc_laws.proofs.wrong.TakenAt.{all_received, all_acknowledged, all_timed_out, lemma_received_in, lemma_acknowledged_in, lemma_timed_out_in}

-- ---- two packets are the same

abbrev pub same_packet : Packet → Packet → Bool
same_packet p q =
    (p.sequence == q.sequence) && ((p.timeout_height == q.timeout_height) && ((p.timeout_time == q.timeout_time)
    && (same_text p.source_port q.source_port && (same_text p.source_channel q.source_channel
    && (same_text p.destination_port q.destination_port && (same_text p.destination_channel q.destination_channel
    && same_text p.payload q.payload))))))

pub lemma_same_packet : (p q : Packet) → same_packet p q ≡ true → p ≡ q
lemma_same_packet p q is =
    let a = both (p.sequence == q.sequence) _ is in
    let b = both (p.timeout_height == q.timeout_height) _ a.1 in
    let c = both (p.timeout_time == q.timeout_time) _ b.1 in
    let d = both (same_text p.source_port q.source_port) _ c.1 in
    let e = both (same_text p.source_channel q.source_channel) _ d.1 in
    let f = both (same_text p.destination_port q.destination_port) _ e.1 in
    let g = both (same_text p.destination_channel q.destination_channel) _ f.1 in
    let n = eqb-true p.sequence q.sequence a.0 in
    let height = eqb-true p.timeout_height q.timeout_height b.0 in
    let time = eqb-true p.timeout_time q.timeout_time c.0 in
    let source_port = text_same p.source_port q.source_port d.0 in
    let source_channel = text_same p.source_channel q.source_channel e.0 in
    let destination_port = text_same p.destination_port q.destination_port f.0 in
    let destination_channel = text_same p.destination_channel q.destination_channel g.0 in
    let payload = text_same p.payload q.payload g.1 in
    λ i. record {
      sequence = n i;
      timeout_height = height i;
      timeout_time = time i;
      source_port = source_port i;
      source_channel = source_channel i;
      destination_port = destination_port i;
      destination_channel = destination_channel i;
      payload = payload i;
    }

-- a packet is among these, and each of some is among others
abbrev pub is_among : List Packet → Packet → Bool
is_among qs p = list_any (same_packet p) qs

lemma_among : (p : Packet) (qs : List Packet) → is_among qs p ≡ true → Contains qs p
lemma_among p [] any = absurd (cc any)
lemma_among p (q ∷ qs) any = elim (either (same_packet p q) (list_any (same_packet p) qs) any) [
  | inl here ↦ (0, (omega arith), sym (lemma_same_packet p q here))
  | inr later ↦ (let h = lemma_among p qs later in (suc h.0, (let lt = h.1 in omega arith), h.2))
]

abbrev pub are_among : List Packet → List Packet → Bool
are_among ps qs = list_all (is_among qs) ps

lemma_are_among : (ps qs : List Packet) → are_among ps qs ≡ true → (p : Packet) → Contains ps p → Contains qs p
lemma_are_among ps qs all p has = lemma_among p qs (lemma_passes (is_among qs) ps p all has)

-- ---- what is received was sent

abbrev pub received_as_sent : List Happened → End → Channel → End → Channel → Bool
received_as_sent hs e m f n = are_among (received_packets f hs) (sent_packets e m hs)

pub lemma_received_as_sent : (world : World) (hs : List Happened) → each_pair world (received_as_sent hs) ≡ true → (e f : End) (m : Channel) (p : Packet)
    → are_peers world e f ≡ true → end_at world e ≡ Some m → Contains (received_packets f hs) p → Contains (sent_packets e m hs) p
lemma_received_as_sent world hs passed e f m p peers own has =
    lemma_are_among (received_packets f hs) (sent_packets e m hs) (lemma_at_own world (received_as_sent hs) passed e f m peers own).1 p has

-- ---- an acknowledgement that is taken was written

abbrev pub is_written : List Happened → End → Packet × Text → Bool
is_written hs f x = same_optional (ack_written f hs x.0.sequence) (Some x.1)

abbrev pub taken_as_written : List Happened → End → Channel → End → Channel → Bool
taken_as_written hs e m f n = list_all (is_written hs f) (taken_acks e hs)

pub lemma_taken_as_written : (world : World) (hs : List Happened) → each_pair world (taken_as_written hs) ≡ true → (e f : End) (p : Packet) (ack : Text)
    → are_peers world e f ≡ true → Contains (taken_acks e hs) (p, ack) → ack_written f hs p.sequence ≡ Some ack
lemma_taken_as_written world hs passed e f p ack peers has =
    same_optional_is (ack_written f hs p.sequence) (Some ack)
    (lemma_passes (is_written hs f) (taken_acks e hs) (p, ack) (lemma_of_peers world (taken_as_written hs) passed e f peers).passed has)

-- ---- what is settled was sent, and what was acknowledged was received

abbrev pub is_packet : Option Packet → Packet → Bool
is_packet (Some q) p = same_packet q p
is_packet None p = false

lemma_is_packet : (o : Option Packet) (p : Packet) → is_packet o p ≡ true → o ≡ Some p
lemma_is_packet (Some q) p is = ap Some (lemma_same_packet q p is)
lemma_is_packet None p is = absurd (cc is)

abbrev pub was_sent_from : World → List Happened → End × Packet → Bool
was_sent_from world hs x =
    option_map_or (λ (mine : Channel). is_packet (packet_sent x.0 mine hs x.1.sequence) x.1) (end_at world x.0) false

lemma_was_sent_from : (world : World) (hs : List Happened) (e : End) (p : Packet) → was_sent_from world hs (e, p) ≡ true → IsSentFrom e hs world p
lemma_was_sent_from world hs e p passed = go (end_at world e) refl passed
  where
    go : (o : Option Channel) → end_at world e ≡ o
        → option_map_or (λ (mine : Channel). is_packet (packet_sent e mine hs p.sequence) p) o false ≡ true → IsSentFrom e hs world p
    go (Some mine) own passed = (mine, own, lemma_is_packet (packet_sent e mine hs p.sequence) p passed)
    go None own passed = absurd (cc passed)

abbrev pub acknowledged_was_received : List Happened → End → Channel → End → Channel → Bool
acknowledged_was_received hs e m f n = are_among (acknowledged_packets e hs) (received_packets f hs)

abbrev pub settles_as_sent : World → List Happened → Bool
settles_as_sent world hs =
    list_all (was_sent_from world hs) (all_acknowledged hs)
    && (list_all (was_sent_from world hs) (all_timed_out hs) && each_pair world (acknowledged_was_received hs))

pub lemma_settles_as_sent : (world : World) (hs : List Happened) → settles_as_sent world hs ≡ true → SettlesWhatWasSent hs world
lemma_settles_as_sent world hs passed =
    let first = both (list_all (was_sent_from world hs) (all_acknowledged hs)) _ passed in
    let second = both (list_all (was_sent_from world hs) (all_timed_out hs)) (each_pair world (acknowledged_was_received hs)) first.1 in
    record {
      acknowledged = λ e p has. lemma_was_sent_from world hs e p
          (lemma_passes_in (was_sent_from world hs) (all_acknowledged hs) (e, p) first.0 (lemma_acknowledged_in e p hs has));
      timed_out = λ e p has. lemma_was_sent_from world hs e p
          (lemma_passes_in (was_sent_from world hs) (all_timed_out hs) (e, p) second.0 (lemma_timed_out_in e p hs has));
      received = λ e f p peers has. lemma_are_among (acknowledged_packets e hs) (received_packets f hs)
          (lemma_of_peers world (acknowledged_was_received hs) second.1 e f peers).passed p has;
    }

-- ---- nothing is received late

abbrev pub comes_in_time : WorldStep → Bool
comes_in_time (old, (event.Message k (message.RecvPacket m), reply.Ok given), new) =
    option_map_or (λ (c : MachineChain). not (is_timed_out (commitment_of m.packet) (working_height c) c.time)) (slice_get old k) false
comes_in_time _ = true

lemma_of_step : (step : WorldStep) → comes_in_time step ≡ true → ReceivesInTime step.0 step.1
lemma_of_step (old, (event.Message k (message.RecvPacket m), reply.Ok given), new) passed = go (slice_get old k) refl passed
  where
    go : (o : Option MachineChain) → slice_get old k ≡ o
        → option_map_or (λ (c : MachineChain). not (is_timed_out (commitment_of m.packet) (working_height c) c.time)) o false ≡ true → IsInTime old k m.packet
    go (Some c) there passed =
        let ahead = lemma_in_time c m.packet (no_longer (is_timed_out (commitment_of m.packet) (working_height c) c.time) passed) in
        record { chain = c; there = there; height = ahead.0; time = ahead.1 }
    go None there passed = absurd (cc passed)
lemma_of_step (old, (event.Message k (message.RecvPacket m), reply.No why), new) passed = tt
lemma_of_step (old, (event.Message k _, reply.Ok given), new) passed = tt
lemma_of_step (old, (event.Message k _, reply.No why), new) passed = tt
lemma_of_step (old, (event.Block k t, given), new) passed = tt

pub lemma_comes_in_time : (steps : List WorldStep) → list_all comes_in_time steps ≡ true → (step : WorldStep) → Contains steps step → ReceivesInTime step.0 step.1
lemma_comes_in_time steps all step among = lemma_of_step step (lemma_passes comes_in_time steps step all among)

-- ---- acknowledgements are taken in order

abbrev pub acknowledges_in_order : List Happened → End → Channel → Bool
acknowledges_in_order hs e m = not (is_ordered m) || is_front same_packet (acknowledged_packets e hs) (sent_packets e m hs)

pub lemma_acknowledges_in_order : (world : World) (hs : List Happened) → each_end world (acknowledges_in_order hs) ≡ true → AcknowledgesInOrder hs world
lemma_acknowledges_in_order world hs passed e m own ordered =
    lemma_is_front same_packet lemma_same_packet (acknowledged_packets e hs) (sent_packets e m hs)
    (implied (is_ordered m) (is_front same_packet (acknowledged_packets e hs) (sent_packets e m hs)) ordered
    (lemma_each_end world (acknowledges_in_order hs) passed e m own))

-- ---- no end is CLOSED before a step

abbrev pub is_not_closed : End → Channel → Bool
is_not_closed e m = not (is_in_state Closed m)

abbrev pub finds_none_closed : WorldStep → Bool
finds_none_closed step = each_end step.0 is_not_closed

pub lemma_finds_none_closed : (steps : List WorldStep) → list_all finds_none_closed steps ≡ true → (step : WorldStep) → Contains steps step
    → SilencesClosed step.0 step.1 step.2
lemma_finds_none_closed steps all step among e mine own closed =
    let awake = no_longer (is_in_state Closed mine) (lemma_each_end step.0 is_not_closed (lemma_passes finds_none_closed steps step all among) e mine own) in
    let shut : is_in_state Closed mine ≡ true = ap (λ (s : ChannelState). same_channel_state s Closed) closed in
    absurd (cc (awake, shut))

-- ---- what is taken is of peers

abbrev pub is_of_peers : World → End × Packet → Bool
is_of_peers world x = has_a_peer world x.0

abbrev pub takes_of_peers : World → List Happened → Bool
takes_of_peers world hs =
    list_all (is_of_peers world) (all_received hs)
    && (list_all (is_of_peers world) (all_acknowledged hs) && list_all (is_of_peers world) (all_timed_out hs))

pub lemma_takes_of_peers : (world : World) (hs : List Happened) → takes_of_peers world hs ≡ true → TakesOfPeers hs world
lemma_takes_of_peers world hs passed =
    let first = both (list_all (is_of_peers world) (all_received hs)) _ passed in
    let second = both (list_all (is_of_peers world) (all_acknowledged hs)) (list_all (is_of_peers world) (all_timed_out hs)) first.1 in
    record {
      received = λ e p has. lemma_has_a_peer world e (lemma_passes_in (is_of_peers world) (all_received hs) (e, p) first.0 (lemma_received_in e p hs has));
      acknowledged = λ e p has. lemma_has_a_peer world e
          (lemma_passes_in (is_of_peers world) (all_acknowledged hs) (e, p) second.0 (lemma_acknowledged_in e p hs has));
      timed_out = λ e p has. lemma_has_a_peer world e
          (lemma_passes_in (is_of_peers world) (all_timed_out hs) (e, p) second.1 (lemma_timed_out_in e p hs has));
    }

-- ---- peers agree

abbrev pub agree : End → Channel → End → Channel → Bool
agree e m f n = same_order m.end.order n.end.order && same_text m.end.version n.end.version

pub lemma_agree : (world : World) → each_pair world agree ≡ true → (e f : End) (m n : Channel) → are_peers world e f ≡ true → end_at world e ≡ Some m
    → end_at world f ≡ Some n → Agree m n
lemma_agree world passed e f m n peers own other =
    let parts = both (same_order m.end.order n.end.order) (same_text m.end.version n.end.version)
    (lemma_each_pair world agree passed e f m n own other peers) in
    record { order = same_order_is m.end.order n.end.order parts.0; version = text_same m.end.version n.end.version parts.1 }
