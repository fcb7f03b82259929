-- An end receives each sequence at most once: what was received is marked at the end, and a receive asks for a
-- sequence without the mark.
use Rattle.std.proofs.Common.{◌≡◌, ℕ, Bool, true, false, refl, ap, sym, ◌∙◌, subst, List, [], ◌∷◌, ◌++◌, inl, inr, arith, nat_eq, append-nil, if◌then◌else◌, nat_lt, ltb-true, lt-ltb, ◌<◌}
use Rattle.std.specs.List.{IsDistinct}
use Rattle.ibc_wire.specs.declared.records.Order.TheVariants.{Ordered}
use Rattle.ibc_machine.specs.chain.Records.{Channel, is_one_of}
use Rattle.ibc_machine.specs.ics24.Values.{same_order}
use Rattle.ibc_machine.specs.ics04.Packets.{is_ordered, has_received}
use Rattle.ibc_machine.specs.chain.Machine.{World}
use Rattle.ibc_machine.specs.promises.Histories.{Happened, End, received_packets, sequences}
use Rattle.ibc_laws.proofs.basics.Lists.{among-last_or_before, distinct-push}
use Rattle.ibc_laws.proofs.steps.Growth.{ChannelGrows}
use Rattle.ibc_laws.proofs.steps.EndSteps.{the_next, received_now}
use Rattle.ibc_laws.proofs.peers.Invariant.{Inv, stepped_grows}
use Rattle.ibc_laws.proofs.steps.MachineSteps.{Stepped}
use Rattle.ibc_laws.proofs.peers.Peers.{Stands, stands_same, stands_on}
use Rattle.ibc_laws.proofs.steps.AtEnds.{at_end}
use Rattle.ibc_laws.proofs.steps.Happenings.{Receiving, received_nothing, received_one, receiving, sequences-push}

-- the end stands, and has received the sequence
pub record HasReceived (w : World) (f : End) (n : ℕ) : Type 0 where
  pub channel : Channel
  pub stands : Stands w f channel
  pub received : has_received channel n ≡ true

pub record ReceivedOnce (hs : List Happened) (w : World) : Type 0 where
  pub marked : (f : End) (n : ℕ) → is_one_of (sequences (received_packets f hs)) n ≡ true → HasReceived w f n
  pub once : (f : End) → IsDistinct nat_eq (sequences (received_packets f hs))

same_order_later : (m n : Channel) → ChannelGrows m n → is_ordered n ≡ is_ordered m
same_order_later m n g = ap (λ o. same_order o Ordered) g.end.order

pub received_stays : (m n : Channel) (k : ℕ) → ChannelGrows m n → has_received m k ≡ true → has_received n k ≡ true
received_stays m n k g e = go (is_ordered m) refl e
  where
    go : (b : Bool) → is_ordered m ≡ b → (if b then nat_lt k m.next_recv else is_one_of m.receipts k) ≡ true → has_received n k ≡ true
    go true is e =
        let lt : k < m.next_recv = ltb-true k m.next_recv e in
        let le = g.receiving.counts in
        subst (λ (b : Bool). (if b then nat_lt k n.next_recv else is_one_of n.receipts k) ≡ true) (sym (same_order_later m n g ∙ is))
        (lt-ltb k n.next_recv (omega arith))
    go false is e =
        subst (λ (b : Bool). (if b then nat_lt k n.next_recv else is_one_of n.receipts k) ≡ true) (sym (same_order_later m n g ∙ is))
        (g.receiving.receipts k e)

module _ (chains : ℕ) (w : World) (hs : List Happened) (h : Happened) (v : World) (inv : Inv w) (step : Stepped chains w h v) (once : ReceivedOnce hs w) where
  kept : (f : End) (n : ℕ) → is_one_of (sequences (received_packets f hs)) n ≡ true → HasReceived v f n
  kept f n is =
      let was = once.marked f n is in
      let now = stands_on f was.channel (stepped_grows chains w h v inv step) was.stands in
      record { channel = now.now; stands = now.stands; received = received_stays was.channel now.now n now.grows was.received }

  -- a sequence without a mark is not in the history
  pub not_received_yet : (f : End) (m : Channel) → Stands w f m → (n : ℕ) → has_received m n ≡ false
      → is_one_of (sequences (received_packets f hs)) n ≡ false
  not_received_yet f m stands n fresh = go (is_one_of (sequences (received_packets f hs)) n) refl
    where
      go : (b : Bool) → is_one_of (sequences (received_packets f hs)) n ≡ b → b ≡ false
      go false is = refl
      go true is =
          let was = once.marked f n is in
          absurd (cc (was.received, fresh, ap (λ x. has_received x n) (stands_same f was.channel m was.stands stands)))

  more_marked : (f : End) (n : ℕ) → Receiving chains w hs h v f → is_one_of (sequences (received_packets f (hs ++ h ∷ []))) n ≡ true → HasReceived v f n
  more_marked f n (received_nothing same acks) is = kept f n (subst (λ ps. is_one_of (sequences ps) n ≡ true) same is)
  more_marked f n (received_one p ack m was now r told more) is =
      elim (among-last_or_before (sequences (received_packets f hs)) p.sequence n
      (subst (λ l. is_one_of l n ≡ true) (ap sequences more ∙ sequences-push (received_packets f hs) p) is)) [
        | inl new ↦ record { channel = _; stands = now; received = received_now p.sequence ack m (the_next m p.sequence r.fresh r.in_order) n (inl new) }
        | inr old ↦ kept f n old
      ]

  more_once : (f : End) → Receiving chains w hs h v f → IsDistinct nat_eq (sequences (received_packets f (hs ++ h ∷ [])))
  more_once f (received_nothing same acks) = subst (λ ps. IsDistinct nat_eq (sequences ps)) (sym same) (once.once f)
  more_once f (received_one p ack m was now r told more) =
      let ns : List ℕ = sequences (received_packets f hs) in
      let fresh : is_one_of (ns ++ []) p.sequence ≡ false = ap (λ l. is_one_of l p.sequence) (append-nil ns) ∙ not_received_yet f m was p.sequence r.fresh in
      let distinct = distinct-push ns [] p.sequence (subst (IsDistinct nat_eq) (sym (append-nil ns)) (once.once f)) fresh in
      subst (IsDistinct nat_eq) (append-nil _ ∙ sym (sequences-push (received_packets f hs) p) ∙ ap sequences (sym more)) distinct

  pub received_once_step : ReceivedOnce (hs ++ h ∷ []) v
  received_once_step = record {
    marked = λ f n is. more_marked f n (receiving chains w hs h v f (at_end chains w h v inv step f)) is;
    once = λ f. more_once f (receiving chains w hs h v f (at_end chains w h v inv step f));
  }
