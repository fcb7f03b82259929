-- A packet that was acknowledged was received by the end's peer: an acknowledgement is written by a receive
-- alone, and it stays.
use Rattle.std.proofs.Common.{◌≡◌, ℕ, true, ap, sym, ◌∙◌, subst, List, [], ◌∷◌, ◌++◌, Some, inl, inr, nat_cmp}
use Rattle.ibc_ids.specs.Texts.{Text}
use Rattle.ibc_ids.specs.Maps.{at}
use Rattle.ibc_wire.specs.declared.records.ChannelEnd.{ChannelEnd}
use Rattle.ibc_machine.specs.chain.Records.{Channel, is_one_of}
use Rattle.ibc_machine.specs.ics04.Channels.{new_channel}
use Rattle.ibc_machine.specs.chain.Machine.{World}
use Rattle.ibc_machine.specs.promises.Histories.{Happened, End, received_packets, acknowledged_packets, sequences}
use Rattle.ibc_laws.proofs.basics.Lists.{among-last_or_before, among-last, among-kept}
use Rattle.ibc_laws.proofs.steps.CoreSteps.{HadAck}
use Rattle.ibc_laws.proofs.steps.EndSteps.{acks_of_receive}
use Rattle.ibc_laws.proofs.steps.EndKeeps.{SameReceiving, StoodBefore, was_there, is_new}
use Rattle.ibc_laws.proofs.peers.Invariant.{Inv, stepped_grows}
use Rattle.ibc_laws.proofs.steps.MachineSteps.{Stepped}
use Rattle.ibc_laws.proofs.peers.Peers.{Stands, Peers, stands_same, peers_on}
use Rattle.ibc_laws.proofs.peers.FirstLaw.{peers_of}
use Rattle.ibc_laws.proofs.peers.PeerSeen.{peer_seen}
use Rattle.ibc_laws.proofs.steps.AtEnds.{at_end}
use Rattle.ibc_laws.proofs.steps.Happenings.{Receiving, received_nothing, received_one, receiving, Settling, settled_nothing, acknowledged_one, timed_out_one, settling, sequences-push}

abbrev pub IsReceived : List Happened → End → ℕ → Type 0
IsReceived hs f n = is_one_of (sequences (received_packets f hs)) n ≡ true

pub record AcksReceived (hs : List Happened) (w : World) : Type 0 where
  -- each acknowledgement that stands is of a packet that was received
  pub written : (f : End) (m : Channel) → Stands w f m → (n : ℕ) (ack : Text) → at nat_cmp n m.acks ≡ Some ack → IsReceived hs f n
  -- and so is each packet that was acknowledged
  pub acknowledged : (e : End) (n : ℕ) → is_one_of (sequences (acknowledged_packets e hs)) n ≡ true → (f : End) × Peers w e f × IsReceived hs f n

module _ (chains : ℕ) (w : World) (hs : List Happened) (h : Happened) (v : World) (inv : Inv w) (step : Stepped chains w h v) (acks : AcksReceived hs w) where
  -- received stays received
  pub still_received : (f : End) (n : ℕ) → IsReceived hs f n → IsReceived (hs ++ h ∷ []) f n
  still_received f n is = go (receiving chains w hs h v f (at_end chains w h v inv step f))
    where
      go : Receiving chains w hs h v f → IsReceived (hs ++ h ∷ []) f n
      go (received_nothing same acks) = subst (λ ps. is_one_of (sequences ps) n ≡ true) (sym same) is
      go (received_one p ack m was now r told more) =
          subst (λ l. is_one_of l n ≡ true) (sym (ap sequences more ∙ sequences-push (received_packets f hs) p))
          (among-kept (sequences (received_packets f hs)) (p.sequence ∷ []) n is)

  written_after : (f : End) (k : Channel) → Stands v f k → (n : ℕ) (ack : Text) → at nat_cmp n k.acks ≡ Some ack
      → Receiving chains w hs h v f → IsReceived (hs ++ h ∷ []) f n
  written_after f k stands n ack is (received_nothing same before) = go (before k stands)
    where
      none : (end : ChannelEnd) → at nat_cmp n (new_channel end).acks ≡ Some ack → ⊥
      none end e = absurd (cc e)

      go : StoodBefore w f SameReceiving k → IsReceived (hs ++ h ∷ []) f n
      go (was_there m was same) = still_received f n (acks.written f m was n ack (ap (λ x. at nat_cmp n x) (sym same.acks) ∙ is))
      go (is_new none_stood end new) = absurd (none end (ap (λ (x : Channel). at nat_cmp n x.acks) new ∙ is))
  written_after f k stands n ack is (received_one p a m was now r told more) =
      elim (acks_of_receive p.sequence a m n ack (ap (λ (x : Channel). at nat_cmp n x.acks) (stands_same f _ k now stands) ∙ is)) [
        | inl new ↦ subst (λ l. is_one_of l n ≡ true) (sym (ap sequences more ∙ sequences-push (received_packets f hs) p))
            (subst (λ i. is_one_of (sequences (received_packets f hs) ++ p.sequence ∷ []) i ≡ true) (sym new.0) (among-last (sequences (received_packets f hs)) p.sequence))
        | inr old ↦ still_received f n (acks.written f m was n ack old)
      ]

  on : (e : End) (n : ℕ) → (f : End) × Peers w e f × IsReceived hs f n → (f : End) × Peers v e f × IsReceived (hs ++ h ∷ []) f n
  on e n x = (x.0, (peers_on e x.0 (stepped_grows chains w h v inv step) x.1).peers, still_received x.0 n x.2)

  acknowledged_after : (e : End) (n : ℕ) → is_one_of (sequences (acknowledged_packets e (hs ++ h ∷ []))) n ≡ true → Settling chains w hs h v e
      → (f : End) × Peers v e f × IsReceived (hs ++ h ∷ []) f n
  acknowledged_after e n is (settled_nothing a t before) = on e n (acks.acknowledged e n (subst (λ ps. is_one_of (sequences ps) n ≡ true) a is))
  acknowledged_after e n is (timed_out_one p m was now s told a t) = on e n (acks.acknowledged e n (subst (λ ps. is_one_of (sequences ps) n ≡ true) a is))
  acknowledged_after e n is (acknowledged_one p m was now s a t) =
      elim (among-last_or_before (sequences (acknowledged_packets e hs)) p.sequence n
      (subst (λ l. is_one_of l n ≡ true) (ap sequences a ∙ sequences-push (acknowledged_packets e hs) p) is)) [
        | inl new ↦ (
            let seen = peer_seen w inv e m was s.settles.settled p.destination_port p.destination_channel s.settles.peer s.height (HadAck p s.ack) s.sees in
            let had = s.sees.had in
            let theirs = (seen.grows had.0 had.1).receiving.acks p.sequence s.ack had.2 in
            on e n (
              seen.peer.other,
              peers_of w e m was seen.peer,
              subst (IsReceived hs seen.peer.other) (sym new) (acks.written seen.peer.other seen.peer.theirs seen.peer.there p.sequence s.ack theirs),
            )
            )
        | inr old ↦ on e n (acks.acknowledged e n old)
      ]

  pub acks_received_step : AcksReceived (hs ++ h ∷ []) v
  acks_received_step = record {
    written = λ f m stands n ack is. written_after f m stands n ack is (receiving chains w hs h v f (at_end chains w h v inv step f));
    acknowledged = λ e n is. acknowledged_after e n is (settling chains w hs h v e (at_end chains w h v inv step e));
  }
