-- A packet of an end is acknowledged or timed out at most once in all: either takes its commitment away, and
-- asks for it.
use Rattle.std.proofs.Common.{◌≡◌, ℕ, ◌<◌, Bool, true, false, refl, ap, sym, ◌∙◌, subst, List, [], ◌∷◌, ◌++◌, None, inl, inr, arith, nat_cmp, nat_eq, append-nil, append_assoc, ap₂}
use Rattle.std.specs.List.{IsDistinct}
use Rattle.ibc_ids.specs.Maps.{at}
use Rattle.ibc_wire.specs.declared.packet.Packet.{Packet}
use Rattle.ibc_machine.specs.chain.Records.{Channel, commitment_of, is_one_of}
use Rattle.ibc_machine.specs.ics04.Packets.{is_ordered, without_commitment, after_ack, after_timeout}
use Rattle.ibc_machine.specs.chain.Machine.{World}
use Rattle.ibc_machine.specs.promises.Histories.{Happened, End, acknowledged_packets, timed_out_packets, sequences}
use Rattle.ibc_laws.proofs.basics.Lists.{among-push, distinct-push}
use Rattle.ibc_laws.proofs.steps.Growth.{ChannelGrows}
use Rattle.ibc_laws.proofs.steps.CoreSteps.{Settles}
use Rattle.ibc_laws.proofs.steps.EndSteps.{IsShaped, gone_now, acked, over}
use Rattle.ibc_laws.proofs.peers.Invariant.{Inv, shape_of, stepped_grows}
use Rattle.ibc_laws.proofs.steps.MachineSteps.{Stepped}
use Rattle.ibc_laws.proofs.peers.Peers.{Stands, stands_same, stands_on}
use Rattle.ibc_laws.proofs.steps.AtEnds.{at_end}
use Rattle.ibc_laws.proofs.steps.Happenings.{Settling, settled_nothing, acknowledged_one, timed_out_one, settling, sequences-push}

-- the sequence was used, and its commitment is gone
pub record IsGone (n : ℕ) (m : Channel) : Type 0 where
  pub used : n < m.next_send
  pub gone : at nat_cmp n m.commitments ≡ None

pub IsGone-grows : (n : ℕ) (m k : Channel) → ChannelGrows m k → IsGone n m → IsGone n k
IsGone-grows n m k g h = record {
  used = let a = g.sending.counts in let b = h.used in omega arith;
  gone = elim (g.sending.stays n h.used) [ inl same ↦ same ∙ h.gone | inr none ↦ none ];
}

pub record HasSettled (w : World) (e : End) (n : ℕ) : Type 0 where
  pub channel : Channel
  pub stands : Stands w e channel
  pub gone : IsGone n channel

abbrev pub settled_at : End → List Happened → List ℕ
settled_at e hs = sequences (acknowledged_packets e hs) ++ sequences (timed_out_packets e hs)

pub record SettledOnce (hs : List Happened) (w : World) : Type 0 where
  pub settled : (e : End) (n : ℕ) → is_one_of (settled_at e hs) n ≡ true → HasSettled w e n
  pub once : (e : End) → IsDistinct nat_eq (settled_at e hs)

-- both ways to settle take the commitment away
gone_after : (n : ℕ) (m k : Channel) → IsShaped m → n < m.next_send → k.next_send ≡ m.next_send
    → k.commitments ≡ (without_commitment n m).commitments → IsGone n k
gone_after n m k shaped used send commitments = record {
  used = subst (λ x. n < x) (sym send) used;
  gone = ap (λ x. at nat_cmp n x) commitments ∙ gone_now n m shaped;
}

pub gone_after_ack : (n : ℕ) (m : Channel) → IsShaped m → n < m.next_send → IsGone n (after_ack n m)
gone_after_ack n m shaped used = go (is_ordered m)
  where
    go : (b : Bool) → IsGone n (acked n m b)
    go true = gone_after n m _ shaped used refl refl
    go false = gone_after n m _ shaped used refl refl

pub gone_after_timeout : (n : ℕ) (m : Channel) → IsShaped m → n < m.next_send → IsGone n (after_timeout n m)
gone_after_timeout n m shaped used = go (is_ordered m)
  where
    go : (b : Bool) → IsGone n (over n m b)
    go true = gone_after n m _ shaped used refl refl
    go false = gone_after n m _ shaped used refl refl

module _ (chains : ℕ) (w : World) (hs : List Happened) (h : Happened) (v : World) (inv : Inv w) (step : Stepped chains w h v) (once : SettledOnce hs w) where
  kept : (e : End) (n : ℕ) → is_one_of (settled_at e hs) n ≡ true → HasSettled v e n
  kept e n is =
      let was = once.settled e n is in
      let now = stands_on e was.channel (stepped_grows chains w h v inv step) was.stands in
      record { channel = now.now; stands = now.stands; gone = IsGone-grows n was.channel now.now now.grows was.gone }

  -- a packet whose commitment stands wasn't settled
  absent : (e : End) (port id : _) (m : Channel) → Stands w e m → (p : Packet) → Settles port id m p → is_one_of (settled_at e hs) p.sequence ≡ false
  absent e port id m stands p s = go (is_one_of (settled_at e hs) p.sequence) refl
    where
      go : (b : Bool) → is_one_of (settled_at e hs) p.sequence ≡ b → b ≡ false
      go false is = refl
      go true is =
          let was = once.settled e p.sequence is in
          let same = stands_same e was.channel m was.stands stands in
          absurd (cc (was.gone.gone, s.committed, ap (λ (x : Channel). at nat_cmp p.sequence x.commitments) same))

  abbrev Good : End → List ℕ → Type 0
  Good e ns = ((n : ℕ) → is_one_of ns n ≡ true → HasSettled v e n) × IsDistinct nat_eq ns

  -- one more, in the middle
  more : (e : End) (n : ℕ) (xs ys : List ℕ) → xs ++ ys ≡ settled_at e hs → is_one_of (settled_at e hs) n ≡ false → HasSettled v e n
      → Good e ((xs ++ n ∷ []) ++ ys)
  more e n xs ys same none now = (
    λ k is. elim (among-push xs ys n k is) [
      | inl new ↦ subst (HasSettled v e) (sym new) now
      | inr old ↦ kept e k (subst (λ l. is_one_of l k ≡ true) same old)
    ],
    distinct-push xs ys n (subst (IsDistinct nat_eq) (sym same) (once.once e)) (ap (λ l. is_one_of l n) same ∙ none),
  )

  good : (e : End) → Settling chains w hs h v e → Good e (settled_at e (hs ++ h ∷ []))
  good e (settled_nothing a t before) =
      subst (Good e) (sym (ap₂ (λ (x y : List Packet). sequences x ++ sequences y) a t)) (kept e, once.once e)
  good e (acknowledged_one p m was now s a t) =
      let shaped = shape_of w inv e m was in
      subst (Good e) (sym (ap₂ (λ (x y : List Packet). sequences x ++ sequences y) a t ∙ ap (λ x. x ++ sequences (timed_out_packets e hs)) (sequences-push (acknowledged_packets e hs) p)))
      (more e p.sequence (sequences (acknowledged_packets e hs)) (sequences (timed_out_packets e hs)) refl (absent e e.port e.channel m was p s.settles)
      (record { channel = _; stands = now; gone = gone_after_ack p.sequence m shaped (shaped.below p.sequence (commitment_of p) s.settles.committed) }))
  good e (timed_out_one p m was now s told a t) =
      let shaped = shape_of w inv e m was in
      subst (Good e) (sym (ap₂ (λ (x y : List Packet). sequences x ++ sequences y) a t ∙ ap (λ x. sequences (acknowledged_packets e hs) ++ x) (sequences-push (timed_out_packets e hs) p)
      ∙ sym (append_assoc (sequences (acknowledged_packets e hs)) (sequences (timed_out_packets e hs)) (p.sequence ∷ [])) ∙ sym (append-nil _)))
      (more e p.sequence (settled_at e hs) [] (append-nil _) (absent e e.port e.channel m was p s.settles)
      (record { channel = _; stands = now; gone = gone_after_timeout p.sequence m shaped (shaped.below p.sequence (commitment_of p) s.settles.committed) }))

  pub settled_once_step : SettledOnce (hs ++ h ∷ []) v
  settled_once_step = record {
    settled = λ e n is. (good e (settling chains w hs h v e (at_end chains w h v inv step e))).0 n is;
    once = λ e. (good e (settling chains w hs h v e (at_end chains w h v inv step e))).1;
  }
