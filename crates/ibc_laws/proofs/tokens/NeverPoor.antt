-- No acknowledgement and no timeout is refused because an escrow holds too little: the packet is still under way, so
-- the escrow holds what its refund takes.
use Rattle.std.proofs.Common.{◌≡◌, ℕ, zero, suc, ◌<◌, Bool, true, false, refl, ap, sym, ◌∙◌, subst, List, [], ◌∷◌, ◌++◌, length, Option, Some, None, Ok, Err, inl, inr, arith, slice_get, Contains}
use Rattle.std.specs.Prelude.{⊤}
use Rattle.ibc_ids.specs.Texts.{same_text}
use Rattle.ibc_ids.specs.declared.refusal.Refusal.TheVariants as refusal
use Rattle.ibc_wire.specs.declared.packet.Packet.{Packet}
use Rattle.ibc_wire.specs.declared.messages.Message.{Message}
use Rattle.ibc_wire.specs.declared.messages.Message.TheVariants as message
use Rattle.ibc_wire.specs.declared.messages.AckPacket.{AckPacket}
use Rattle.ibc_wire.specs.declared.messages.Timeout.{Timeout}
use Rattle.ibc_wire.specs.declared.messages.TimeoutOnClose.{TimeoutOnClose}
use Rattle.ibc_machine.specs.declared.event.Event.{Event}
use Rattle.ibc_machine.specs.declared.event.Event.TheVariants as event
use Rattle.ibc_machine.specs.declared.reply.Effect.{Effect}
use Rattle.ibc_machine.specs.declared.reply.Reply.{Reply}
use Rattle.ibc_machine.specs.declared.reply.Reply.TheVariants as reply
use Rattle.ibc_machine.specs.chain.Records.{Core, Apps, MachineChain, Channel, channel_at, commitment_of}
use Rattle.ibc_machine.specs.chain.Checks.{Checked}
use Rattle.ibc_machine.specs.ics24.Evidence.{Host, Evidence}
use Rattle.ibc_machine.specs.chain.Handlers.{handle, host_of, after_message, message_answer}
use Rattle.ibc_machine.specs.ics04.Packets.{ack_checked, ack_packet, timeout_checked, timeout, timeout_on_close_checked, timeout_on_close}
use Rattle.ibc_machine.specs.ics20.TokenData.{success}
use Rattle.ibc_machine.specs.ics20.Transfers.{transfer_port, each_token, refund_token}
use Rattle.ibc_machine.specs.chain.Applications.{on_ack, on_timeout}
use Rattle.ibc_machine.specs.promises.Totals.{has_succeeded}
use Rattle.ibc_machine.specs.chain.Genesis.{GenesisState}
use Rattle.ibc_machine.specs.chain.Machine.{World, direct_evidence, true_marks, answer, at_chain, Step}
use Rattle.ibc_machine.specs.promises.Histories.{Happened, End}
use Rattle.ibc_machine.specs.promises.Laws.{NeverPoor, settles}
use Rattle.ibc_laws.proofs.steps.Seen.{seeing}
use Rattle.ibc_laws.proofs.steps.CoreSteps.{TimesOut, Settles}
use Rattle.ibc_laws.proofs.steps.PacketsPassed.{acking, timing_out, timing_out_on_close}
use Rattle.ibc_laws.proofs.steps.MachineSteps.{stepped}
use Rattle.ibc_laws.proofs.steps.Induction.{past_has}
use Rattle.ibc_laws.proofs.peers.Peers.{Stands, Peers}
use Rattle.ibc_laws.proofs.peers.FirstLaw.{HasPeer, peer_of, peers_of}
use Rattle.ibc_laws.proofs.tokens.Ports.{transfer_peer}
use Rattle.ibc_laws.proofs.tokens.HeldAndIssued.{kept_of}
use Rattle.ibc_laws.proofs.tokens.TokenEffects.{tokens_read, sender_of}
use Rattle.ibc_laws.proofs.tokens.PeerFacts.{acknowledged_so, not_acknowledged}
use Rattle.ibc_laws.proofs.tokens.PairSteps.{balances_at}
use Rattle.ibc_laws.proofs.tokens.FourthLaw.{Conserving, conserving_start, conserving_step}
use Rattle.ibc_laws.proofs.tokens.EscrowsHold.{refund_is_held, refunds_all}
use Rattle.ibc_laws.proofs.tokens.RefusedAsPoor.{bind_poor, bind_other, ack_checked_other, timeout_checked_other, timeout_on_close_checked_other, LacksRefund, timeout_lacks, ack_lacks}

-- ---- a packet under way is refunded

module _ (hs : List Happened) (w : World) (all : Conserving hs w) (chains : ℕ) (e : End) (mine : Channel) (was : Stands w e mine) (is : e.port ≡ transfer_port)
    (q : Packet) (from : q.source_channel ≡ e.channel) (s : Settles e.port e.channel mine q) where
  peer : HasPeer w e mine was
  peer = peer_of w all.known.once.inv e mine was s.settled

  abbrev p : Peers w e peer.other
  p = peers_of w e mine was peer

  can_refund : has_succeeded peer.theirs q.sequence ≡ false → LacksRefund (balances_at was) mine.end.version q → ⊥
  can_refund counted lacks =
      let is_there = transfer_peer w all.known.once.inv all.known.kinds e peer.other p is in
      let tokens = tokens_read mine.end.version (commitment_of q) lacks.0 lacks.1 in
      let whole = refunds_all e.channel lacks.0.sender (sender_of mine.end.version q.payload lacks.0 lacks.1) lacks.0.tokens (balances_at was)
      (all.known.kinds.each e.chain was.chain was.there).sorted (λ denom.
      let held = refund_is_held hs w all e peer.other p is is_there q.sequence (commitment_of q) s.committed counted denom in
      let same = ap (λ ts. kept_of e.channel denom ts) tokens in
      omega arith) in
      absurd (cc (lacks.2, subst (λ i. each_token (refund_token i lacks.0.sender) lacks.0.tokens (balances_at was) ≡ Some whole.0) (sym from) whole.1))

module _ (hs : List Happened) (w : World) (all : Conserving hs w) (chains : ℕ) (window : ℕ) (oldest : Bool) (k : ℕ) (c : MachineChain) (there : slice_get w k ≡ Some c) where
  abbrev host : Host
  host = host_of chains k c

  abbrev evidence : Evidence
  evidence = seeing window oldest w c.records.core

  -- the source of a packet, where it stands
  abbrev source : Packet → End
  source q = record { chain = k; port = q.source_port; channel = q.source_channel }

  abbrev standing : (q : Packet) (mine : Channel) → channel_at c.records.core q.source_port q.source_channel ≡ Some mine → Stands w (source q) mine
  standing q mine found = record { chain = c; there = there; is = found }

  ack_refunds : (m : AckPacket) → ack_packet (on_ack m.packet.source_port) m evidence host c.records.core c.records.apps ≡ Err refusal.Poor → ⊥
  unfolding ack_packet
  ack_refunds m e =
      let q : Packet = m.packet in
      let checked = bind_other (ack_checked m evidence host c.records.core) _ (ack_checked_other evidence host c.records.core m) e in
      let mine : Channel = checked.0 in
      let passed = acking window oldest w host c.records.core m mine checked.1 in
      let was = standing q mine passed.0 in
      elim (bind_poor (on_ack q.source_port c.records.apps mine.end.version q m.ack) _ checked.2) [
        | inl poor ↦ (
            let lacks = ack_lacks c.records.apps q.source_port mine.end.version q m.ack poor in
            let found = peer hs w all chains (source q) mine was lacks.0 q refl passed.1.settles in
            let so = acknowledged_so hs w all.known chains (source q) found.other (peers_of w (source q) mine was found) q.source_port q passed.1 in
            can_refund hs w all chains (source q) mine was lacks.0 q refl passed.1.settles
            (so ∙ ap (λ a. same_text a success) passed.2 ∙ lacks.1) lacks.2
            )
        | inr h ↦ absurd (cc (h.2))
      ]

  -- a timeout's checks have passed, and the application refuses
  over_refunds : (q : Packet) (mine : Channel) → channel_at c.records.core q.source_port q.source_channel ≡ Some mine
      → TimesOut w c.records.core q.source_port q.source_channel mine q → on_timeout q.source_port c.records.apps mine.end.version q ≡ Err refusal.Poor → ⊥
  over_refunds q mine found s poor =
      let was = standing q mine found in
      let lacks = timeout_lacks c.records.apps q.source_port mine.end.version q poor in
      let other = peer hs w all chains (source q) mine was lacks.0 q refl s.settles in
      can_refund hs w all chains (source q) mine was lacks.0 q refl s.settles
      (not_acknowledged hs w all.known chains (source q) other.other (peers_of w (source q) mine was other) q s) lacks.1

  timeout_refunds : (m : Timeout) → timeout (on_timeout m.packet.source_port) m evidence host c.records.core c.records.apps ≡ Err refusal.Poor → ⊥
  unfolding timeout
  timeout_refunds m e =
      let checked = bind_other (timeout_checked m evidence host c.records.core) _ (timeout_checked_other evidence host c.records.core m) e in
      let passed = timing_out window oldest w host c.records.core m checked.0 checked.1 in
      elim (bind_poor (on_timeout m.packet.source_port c.records.apps checked.0.end.version m.packet) _ checked.2) [
        | inl poor ↦ over_refunds m.packet checked.0 passed.0 passed.1 poor
        | inr h ↦ absurd (cc (h.2))
      ]

  timeout_on_close_refunds : (m : TimeoutOnClose) → timeout_on_close (on_timeout m.packet.source_port) m evidence host c.records.core c.records.apps ≡ Err refusal.Poor → ⊥
  unfolding timeout_on_close
  timeout_on_close_refunds m e =
      let checked = bind_other (timeout_on_close_checked m evidence host c.records.core) _ (timeout_on_close_checked_other evidence host c.records.core m) e in
      let passed = timing_out_on_close window oldest w host c.records.core m checked.0 checked.1 in
      elim (bind_poor (on_timeout m.packet.source_port c.records.apps checked.0.end.version m.packet) _ checked.2) [
        | inl poor ↦ over_refunds m.packet checked.0 passed.0 passed.1 poor
        | inr h ↦ absurd (cc (h.2))
      ]

  handled : (m : Message) → settles (event.Message k m) ≡ true → handle m evidence host c.records.core c.records.apps ≡ Err refusal.Poor → ⊥
  unfolding handle
  handled (message.AckPacket m) is e = ack_refunds m e
  handled (message.Timeout m) is e = timeout_refunds m e
  handled (message.TimeoutOnClose m) is e = timeout_on_close_refunds m e
  handled _ is e = absurd (cc is)

-- ---- every step, and every run

module _ (genesis : GenesisState) (hs : List Happened) (w : World) (all : Conserving hs w) where
  refused : (m : Message) (k : ℕ) → settles (event.Message k m) ≡ true → (oldest : Bool) (c : MachineChain) → slice_get w k ≡ Some c → (o : Checked (Effect × Core × Apps))
      → handle m (seeing genesis.window oldest w c.records.core) (host_of (length genesis.chains) k c) c.records.core c.records.apps ≡ o
      → (after_message c o).0 ≡ reply.No refusal.Poor → ⊥
  refused m k is oldest c there (Ok y) handled_so e = absurd (cc e)
  refused m k is oldest c there (Err why) handled_so e =
      let poor : why ≡ refusal.Poor = cc e in
      handled hs w all (length genesis.chains) genesis.window oldest k c there m is (handled_so ∙ ap Err poor)

  answered : (e : Event) → settles e ≡ true → (oldest : Bool) (v : World) → answer true_marks genesis oldest w e ≡ (reply.No refusal.Poor, v) → ⊥
  unfolding answer
  answered (event.Message k m) is oldest v e = go (slice_get w k) refl e
    where
      go : (o : Option MachineChain) → slice_get w k ≡ o
          → at_chain w k (λ (chain : MachineChain). message_answer (direct_evidence true_marks genesis.window oldest w chain.records.core) (length genesis.chains) k chain m) o ≡ (reply.No refusal.Poor, v) → ⊥
      go (Some c) there e = refused m k is oldest c there (handle m (seeing genesis.window oldest w c.records.core) (host_of (length genesis.chains) k c) c.records.core c.records.apps) refl
          (ap (λ (x : Reply × World). x.0) e)
      go None there e = absurd (cc (ap (λ (x : Reply × World). x.0) e))
  answered (event.Block k t) is oldest v e = absurd (cc is)

  poor_step : (e : Event) → settles e ≡ true → (v : World) → Step genesis w e (reply.No refusal.Poor) v → ⊥
  poor_step e is v (inl gave_up) = absurd (cc (gave_up.0))
  poor_step e is v (inr answers) = answered e is answers.0 v answers.1

-- none of the replies so far refuses a refund
abbrev NonePoor : List Happened → Type 0
NonePoor [] = ⊤
NonePoor (h ∷ hs) = (settles h.0 ≡ true → h.1 ≡ reply.No refusal.Poor → ⊥) × NonePoor hs

one_more : (hs : List Happened) (h : Happened) → NonePoor hs → (settles h.0 ≡ true → h.1 ≡ reply.No refusal.Poor → ⊥) → NonePoor (hs ++ h ∷ [])
one_more [] h none last = (last, tt)
one_more (x ∷ hs) h none last = (none.0, one_more hs h none.1 last)

not_among : (hs : List Happened) (e : Event) → settles e ≡ true → NonePoor hs → Contains hs (e, reply.No refusal.Poor) → ⊥
not_among [] e is none h = let lt = h.1 in absurd (omega arith)
not_among (x ∷ hs) e is none (zero, lt, same) =
    none.0 (ap (λ (y : Happened). settles y.0) same ∙ is) (ap (λ (y : Happened). y.1) same)
not_among (x ∷ hs) e is none (suc k, lt, same) =
    not_among hs e is none.1 (k, (let l : suc k < length (x ∷ hs) = lt in omega arith), same)

pub never_poor : NeverPoor
never_poor genesis happened world event past is has =
    not_among happened event is (past_has genesis (λ hs w. Conserving hs w × NonePoor hs)
    (λ hs old h new typed was step. (
      conserving_step (length genesis.chains) hs old h new was.0 typed (stepped genesis old h new step),
      one_more hs h was.1 (λ so poor. poor_step genesis hs old was.0 h.0 so new (subst (λ r. Step genesis old h.0 r new) poor step)),
    ))
    (conserving_start genesis past.allowed, tt) happened world past).1 has
