-- No packet is both received and timed out.
use Rattle.std.proofs.Common.{◌≡◌, ℕ, true, sym, subst, List, [], ◌∷◌, ◌++◌, inl, inr}
use Rattle.ibc_wire.specs.declared.packet.Packet.{Packet}
use Rattle.ibc_machine.specs.chain.Records.{Channel, is_one_of}
use Rattle.ibc_machine.specs.chain.Machine.{World}
use Rattle.ibc_machine.specs.promises.Histories.{Happened, End, received_packets, timed_out_packets, sequences}
use Rattle.ibc_laws.proofs.basics.Lists.{among-last_or_before}
use Rattle.ibc_laws.proofs.steps.CoreSteps.{TimesOut}
use Rattle.ibc_laws.proofs.steps.WorldGrowth.{WorldGrows}
use Rattle.ibc_laws.proofs.peers.Invariant.{Inv, stepped_grows}
use Rattle.ibc_laws.proofs.steps.MachineSteps.{Stepped}
use Rattle.ibc_laws.proofs.peers.Peers.{Stands, Peers, peers_flip, one_peer_only, peers_on}
use Rattle.ibc_laws.proofs.peers.FirstLaw.{peers_of}
use Rattle.ibc_laws.proofs.steps.AtEnds.{at_end}
use Rattle.ibc_laws.proofs.steps.Happenings.{Receiving, received_nothing, received_one, receiving, Settling, settled_nothing, acknowledged_one, timed_out_one, settling, sequences-push}
use Rattle.ibc_laws.proofs.packets.AcknowledgedReceived.{IsReceived}
use Rattle.ibc_laws.proofs.packets.Lasting.{WasReceived, was_received_on, WasTimedOut, was_timed_out_on}
use Rattle.ibc_laws.proofs.packets.ReceiptsAndTimeouts.{sender_seen, receiver_seen, now_received, now_timed_out, not_after_timeout, not_after_receipt}

abbrev pub HasTimedOut : List Happened → End → ℕ → Type 0
HasTimedOut hs e n = is_one_of (sequences (timed_out_packets e hs)) n ≡ true

pub record NotBoth (hs : List Happened) (w : World) : Type 0 where
  pub received : (f : End) (n : ℕ) → IsReceived hs f n → WasReceived w f n
  pub timed_out : (e : End) (n : ℕ) → HasTimedOut hs e n → WasTimedOut w e n
  pub not_both : (e f : End) (n : ℕ) → Peers w e f → HasTimedOut hs e n → IsReceived hs f n → ⊥

module _ (chains : ℕ) (w : World) (hs : List Happened) (h : Happened) (v : World) (inv : Inv w) (step : Stepped chains w h v) (both : NotBoth hs w) where
  grows : WorldGrows w v
  grows = stepped_grows chains w h v inv step

  -- a sequence of the longer history is an earlier one, or that of the event's packet
  received_before : (f : End) (n : ℕ) → IsReceived (hs ++ h ∷ []) f n → (ps : _) → received_packets f (hs ++ h ∷ []) ≡ ps → is_one_of (sequences ps) n ≡ true
  received_before f n is ps same = subst (λ l. is_one_of (sequences l) n ≡ true) same is

  timed_out_before : (e : End) (n : ℕ) → HasTimedOut (hs ++ h ∷ []) e n → (ps : _) → timed_out_packets e (hs ++ h ∷ []) ≡ ps → is_one_of (sequences ps) n ≡ true
  timed_out_before e n is ps same = subst (λ l. is_one_of (sequences l) n ≡ true) same is

  received_after : (f : End) (n : ℕ) → IsReceived (hs ++ h ∷ []) f n → Receiving chains w hs h v f → WasReceived v f n
  received_after f n is (received_nothing same acks) = was_received_on f n grows (both.received f n (received_before f n is _ same))
  received_after f n is (received_one p ack m was now r told more) =
      elim (among-last_or_before (sequences (received_packets f hs)) p.sequence n
      (subst (λ l. is_one_of l n ≡ true) (sequences-push (received_packets f hs) p) (received_before f n is _ more))) [
        | inl new ↦ subst (WasReceived v f) (sym new) (now_received w v inv grows chains f m was p r ack now)
        | inr old ↦ was_received_on f n grows (both.received f n old)
      ]

  timed_out_after : (e : End) (n : ℕ) → HasTimedOut (hs ++ h ∷ []) e n → Settling chains w hs h v e → WasTimedOut v e n
  timed_out_after e n is (settled_nothing a t before) = was_timed_out_on e n grows (both.timed_out e n (timed_out_before e n is _ t))
  timed_out_after e n is (acknowledged_one p m was now s a t) =
      was_timed_out_on e n grows (both.timed_out e n (timed_out_before e n is _ t))
  timed_out_after e n is (timed_out_one p m was now s told a t) =
      elim (among-last_or_before (sequences (timed_out_packets e hs)) p.sequence n
      (subst (λ l. is_one_of l n ≡ true) (sequences-push (timed_out_packets e hs) p) (timed_out_before e n is _ t))) [
        | inl new ↦ subst (WasTimedOut v e) (sym new) (now_timed_out w v inv grows e m was p s now)
        | inr old ↦ was_timed_out_on e n grows (both.timed_out e n old)
      ]

  -- both were so before
  neither : (e f : End) (n : ℕ) → Peers v e f → HasTimedOut hs e n → IsReceived hs f n → ⊥
  neither e f n peers t r =
      let was = both.timed_out e n t in
      let same : was.other ≡ f = one_peer_only v e was.other f (peers_on e was.other grows was.peers).peers peers in
      both.not_both e was.other n was.peers t (subst (λ g. IsReceived hs g n) (sym same) r)

  -- the timeout was before, and the receipt is new
  new_receipt : (e f : End) (n : ℕ) → Peers v e f → HasTimedOut hs e n → IsReceived (hs ++ h ∷ []) f n
      → Receiving chains w hs h v f → ⊥
  new_receipt e f n peers t r (received_nothing same acks) = neither e f n peers t (received_before f n r _ same)
  new_receipt e f n peers t r (received_one p ack m was now s told more) =
      elim (among-last_or_before (sequences (received_packets f hs)) p.sequence n
      (subst (λ l. is_one_of l n ≡ true) (sequences-push (received_packets f hs) p) (received_before f n r _ more))) [
        | inl new ↦ (
            let peer = (sender_seen w v inv grows chains f m was p s).peer in
            let same : e ≡ peer.other = one_peer_only v f e peer.other (peers_flip e f peers) (peers_on f peer.other grows (peers_of w f m was peer)).peers in
            not_after_timeout w v inv grows chains f m was p s
            (both.timed_out peer.other p.sequence (subst (λ g. HasTimedOut hs g p.sequence) same (subst (HasTimedOut hs e) new t)))
            )
        | inr old ↦ neither e f n peers t old
      ]

  -- the timeout is new, and the receipt was before
  new_timeout : (e f : End) → Peers v e f → (p : Packet) (m : Channel) (was : Stands w e m)
      → TimesOut w was.chain.records.core e.port e.channel m p → IsReceived hs f p.sequence → ⊥
  new_timeout e f peers p m was s r =
      let peer = (receiver_seen w v inv grows e m was p s).peer in
      let same : f ≡ peer.other = one_peer_only v e f peer.other peers (peers_on e peer.other grows (peers_of w e m was peer)).peers in
      not_after_receipt w v inv grows e m was p s (both.received peer.other p.sequence (subst (λ g. IsReceived hs g p.sequence) same r))

  not_both_after : (e f : End) (n : ℕ) → Peers v e f → HasTimedOut (hs ++ h ∷ []) e n → IsReceived (hs ++ h ∷ []) f n
      → Settling chains w hs h v e → Receiving chains w hs h v f → ⊥
  not_both_after e f n peers t r (settled_nothing a same before) receives =
      new_receipt e f n peers (timed_out_before e n t _ same) r receives
  not_both_after e f n peers t r (acknowledged_one p m was now s a same) receives =
      new_receipt e f n peers (timed_out_before e n t _ same) r receives
  not_both_after e f n peers t r (timed_out_one p m was now s told a more) receives =
      elim (among-last_or_before (sequences (timed_out_packets e hs)) p.sequence n
      (subst (λ l. is_one_of l n ≡ true) (sequences-push (timed_out_packets e hs) p) (timed_out_before e n t _ more))) [
        | inl new ↦ new_timeout e f peers p m was s (subst (IsReceived hs f) new (only_timed_out receives))
        | inr old ↦ new_receipt e f n peers old r receives
      ]
    where
      -- an event doesn't do both
      only_timed_out : Receiving chains w hs h v f → IsReceived hs f n
      only_timed_out (received_nothing same acks) = received_before f n r _ same
      only_timed_out (received_one q ack k stood now_k s told_q more) = absurd (cc (told, told_q))

  pub not_both_step : NotBoth (hs ++ h ∷ []) v
  not_both_step = record {
    received = λ f n is. received_after f n is (receiving chains w hs h v f (at_end chains w h v inv step f));
    timed_out = λ e n is. timed_out_after e n is (settling chains w hs h v e (at_end chains w h v inv step e));
    not_both = λ e f n peers t r. not_both_after e f n peers t r
        (settling chains w hs h v e (at_end chains w h v inv step e)) (receiving chains w hs h v f (at_end chains w h v inv step f));
  }
