-- Nothing is received at or behind its timeout: a receive asks for it at the working block of its chain.
use Rattle.std.proofs.Common.{◌≡◌, ℕ, Bool, true, false, refl, ap, sym, ◌∙◌, subst, [], ◌∷◌, ◌++◌, length, Some, inl, inr, arith, ◌==◌, ◌&&◌, not, nat_le, eqb-true}
use Rattle.std.proofs.lemmas.Bool.{leb-false}
use Rattle.ibc_ids.specs.Texts.{Text}
use Rattle.ibc_wire.specs.declared.packet.Packet.{Packet}
use Rattle.ibc_wire.specs.declared.messages.RecvPacket.{RecvPacket}
use Rattle.ibc_wire.specs.declared.messages.Message.TheVariants as message
use Rattle.ibc_machine.specs.declared.event.Event.TheVariants as event
use Rattle.ibc_machine.specs.declared.reply.Effect.{Effect}
use Rattle.ibc_machine.specs.declared.reply.Reply.TheVariants as reply
use Rattle.ibc_machine.specs.chain.Records.{MachineChain, commitment_of}
use Rattle.ibc_machine.specs.chain.Handlers.{working_height}
use Rattle.ibc_machine.specs.ics04.Packets.{is_reached, is_timed_out}
use Rattle.ibc_machine.specs.chain.Machine.{World}
use Rattle.ibc_machine.specs.promises.Histories.{Happened, End, packet_if, received_by, received_packets}
use Rattle.ibc_laws.specs.Ends.{IsAhead, IsInTime, ReceivedInTime}
use Rattle.ibc_laws.proofs.basics.PassedTests.{or_false}
use Rattle.ibc_laws.proofs.steps.Told.{Received, told_of, ack_of}
use Rattle.ibc_laws.proofs.steps.MachineSteps.{Stepped, stepped}
use Rattle.ibc_laws.proofs.steps.AtEnds.{at_end}
use Rattle.ibc_laws.proofs.steps.Happenings.{Receiving, received_nothing, received_one, receiving, about-more, lemma_is_at_itself}
use Rattle.ibc_laws.proofs.peers.Invariant.{Inv, inv_of_past}

lemma_ahead : (timeout now : ℕ) → is_reached timeout now ≡ false → IsAhead timeout now
lemma_ahead timeout now e = go (timeout == 0) refl (nat_le timeout now) refl e
  where
    go : (z : Bool) → (timeout == 0) ≡ z → (r : Bool) → nat_le timeout now ≡ r → (not z && r) ≡ false → IsAhead timeout now
    go true none r is e = inl (eqb-true timeout 0 none)
    go false given true is e = absurd (cc e)
    go false given false is e = inr (let lt = leb-false timeout now is in omega arith)

pub lemma_in_time : (c : MachineChain) (p : Packet) → is_timed_out (commitment_of p) (working_height c) c.time ≡ false
    → IsAhead p.timeout_height (working_height c) × IsAhead p.timeout_time c.time
lemma_in_time c p e =
    let parts = or_false (is_reached p.timeout_height (working_height c)) (is_reached p.timeout_time c.time) e in
    (lemma_ahead p.timeout_height (working_height c) parts.0, lemma_ahead p.timeout_time c.time parts.1)

module _ (chains : ℕ) (w : World) (inv : Inv w) (k : ℕ) (m : RecvPacket) (given : Effect) (v : World) where
  abbrev h : Happened
  h = (event.Message k (message.RecvPacket m), reply.Ok given)

  abbrev f : End
  f = record { chain = k; port = m.packet.destination_port; channel = m.packet.destination_channel }

  lemma_receives : received_packets f ([] ++ h ∷ []) ≡ m.packet ∷ []
  lemma_receives = about-more (received_by f) k [] h m.packet refl
      (ap (λ b. packet_if b m.packet) (lemma_is_at_itself f m.packet.destination_port m.packet.destination_channel refl refl))

  lemma_same : (p : Packet) (ack : Text) → told_of h ≡ Received p (Some ack) → m.packet ≡ p
  lemma_same p ack told = packet_in told
    where
      packet_in : Received m.packet (ack_of given) ≡ Received p (Some ack) → m.packet ≡ p
      packet_in e = cc e

  lemma_by_receiving : Receiving chains w [] h v f → IsInTime w k m.packet
  lemma_by_receiving (received_nothing same before) =
      let nothing : m.packet ∷ [] ≡ [] = sym lemma_receives ∙ same in
      absurd (cc nothing)
  lemma_by_receiving (received_one p ack mine was now r told more) =
      let in_time = lemma_in_time was.chain p r.in_time in
      subst (IsInTime w k) (sym (lemma_same p ack told)) (record { chain = was.chain; there = was.there; height = in_time.0; time = in_time.1 })

  pub lemma_each_in_time : Stepped chains w h v → IsInTime w k m.packet
  lemma_each_in_time step = lemma_by_receiving (receiving chains w [] h v f (at_end chains w h v inv step f))

pub lemma_received_in_time : ReceivedInTime
lemma_received_in_time genesis happened world before (event.Message k (message.RecvPacket m), reply.Ok given) old new moment =
    lemma_each_in_time (length genesis.chains) old (inv_of_past genesis before old moment.past) k m given new
    (stepped genesis old (event.Message k (message.RecvPacket m), reply.Ok given) new moment.step)
lemma_received_in_time genesis happened world before (event.Message k _, reply.Ok given) old new moment = tt
lemma_received_in_time genesis happened world before (event.Message k (message.RecvPacket m), reply.No why) old new moment = tt
lemma_received_in_time genesis happened world before (event.Message k _, reply.No why) old new moment = tt
lemma_received_in_time genesis happened world before (event.Block k t, given) old new moment = tt
