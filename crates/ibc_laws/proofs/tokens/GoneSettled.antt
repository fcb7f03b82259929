-- A commitment that is gone was settled: of each number that an end has used, the commitment stands, or the number
-- is among those that were acknowledged or among those that timed out.
use Rattle.std.proofs.Common.{◌≡◌, ℕ, ◌≤◌, ◌<◌, true, ap, sym, ◌∙◌, subst, List, [], ◌∷◌, ◌++◌, None, inl, inr, ◌⊎◌, arith, nat_cmp}
use Rattle.ibc_ids.specs.Maps.{at}
use Rattle.ibc_machine.specs.chain.Records.{Channel, is_one_of}
use Rattle.ibc_machine.specs.chain.Machine.{World}
use Rattle.ibc_machine.specs.promises.Histories.{Happened, End, acknowledged_packets, timed_out_packets, sequences}
use Rattle.ibc_laws.proofs.basics.Lists.{among-last, among-kept}
use Rattle.ibc_laws.proofs.peers.Peers.{Stands, stands_same}
use Rattle.ibc_laws.proofs.steps.EndKeeps.{SameGone, StoodBefore, was_there, is_new, gone-acked, gone-over}
use Rattle.ibc_laws.proofs.steps.Happenings.{Settling, settled_nothing, acknowledged_one, timed_out_one, sequences-push}

abbrev pub IsSettled : List Happened → End → ℕ → Type 0
IsSettled hs e n =
    (is_one_of (sequences (acknowledged_packets e hs)) n ≡ true) ⊎ (is_one_of (sequences (timed_out_packets e hs)) n ≡ true)

pub record GoneSettled (hs : List Happened) (w : World) (e : End) : Type 0 where
  pub settled : (m : Channel) → Stands w e m → (n : ℕ) → 1 ≤ n → n < m.next_send → at nat_cmp n m.commitments ≡ None
      → IsSettled hs e n

module _ (chains : ℕ) (w : World) (hs : List Happened) (h : Happened) (v : World) (e : End) (was : GoneSettled hs w e) where
  -- settled stays settled
  still : (n : ℕ) → IsSettled hs e n → Settling chains w hs h v e → IsSettled (hs ++ h ∷ []) e n
  still n is (settled_nothing a t before) = elim is [
    | inl x ↦ inl (subst (λ ps. is_one_of (sequences ps) n ≡ true) (sym a) x)
    | inr x ↦ inr (subst (λ ps. is_one_of (sequences ps) n ≡ true) (sym t) x)
  ]
  still n is (acknowledged_one p m stood now s a t) = elim is [
    | inl x ↦ inl (subst (λ l. is_one_of l n ≡ true) (sym (ap sequences a ∙ sequences-push (acknowledged_packets e hs) p))
        (among-kept (sequences (acknowledged_packets e hs)) (p.sequence ∷ []) n x))
    | inr x ↦ inr (subst (λ ps. is_one_of (sequences ps) n ≡ true) (sym t) x)
  ]
  still n is (timed_out_one p m stood now s told a t) = elim is [
    | inl x ↦ inl (subst (λ ps. is_one_of (sequences ps) n ≡ true) (sym a) x)
    | inr x ↦ inr (subst (λ l. is_one_of l n ≡ true) (sym (ap sequences t ∙ sequences-push (timed_out_packets e hs) p))
        (among-kept (sequences (timed_out_packets e hs)) (p.sequence ∷ []) n x))
  ]

  settled_after : Settling chains w hs h v e → (k : Channel) → Stands v e k → (n : ℕ) → 1 ≤ n → n < k.next_send
      → at nat_cmp n k.commitments ≡ None → IsSettled (hs ++ h ∷ []) e n
  settled_after (settled_nothing a t before) k stands n low used none = go (before k stands)
    where
      go : StoodBefore w e SameGone k → IsSettled (hs ++ h ∷ []) e n
      go (was_there m stood same) =
          let gone = same.was_gone n used none in still n (was.settled m stood n low gone.0 gone.1) (settled_nothing a t before)
      go (is_new nothing end new) = let z : 1 ≡ k.next_send = ap (λ (x : Channel). x.next_send) new in absurd (omega arith)
  settled_after (acknowledged_one p m stood now s a t) k stands n low used none =
      let same = stands_same e k _ stands now in
      elim (gone-acked p.sequence m n (subst (λ (x : Channel). n < x.next_send) same used) (ap (λ (x : Channel). at nat_cmp n x.commitments) (sym same) ∙ none)) [
        | inl new ↦ inl (subst (λ l. is_one_of l n ≡ true) (sym (ap sequences a ∙ sequences-push (acknowledged_packets e hs) p))
            (subst (λ i. is_one_of (sequences (acknowledged_packets e hs) ++ p.sequence ∷ []) i ≡ true) (sym new) (among-last (sequences (acknowledged_packets e hs)) p.sequence)))
        | inr old ↦ still n (was.settled m stood n low old.0 old.1) (acknowledged_one p m stood now s a t)
      ]
  settled_after (timed_out_one p m stood now s told a t) k stands n low used none =
      let same = stands_same e k _ stands now in
      elim (gone-over p.sequence m n (subst (λ (x : Channel). n < x.next_send) same used) (ap (λ (x : Channel). at nat_cmp n x.commitments) (sym same) ∙ none)) [
        | inl new ↦ inr (subst (λ l. is_one_of l n ≡ true) (sym (ap sequences t ∙ sequences-push (timed_out_packets e hs) p))
            (subst (λ i. is_one_of (sequences (timed_out_packets e hs) ++ p.sequence ∷ []) i ≡ true) (sym new) (among-last (sequences (timed_out_packets e hs)) p.sequence)))
        | inr old ↦ still n (was.settled m stood n low old.0 old.1) (timed_out_one p m stood now s told a t)
      ]

  pub gone_settled_step : Settling chains w hs h v e → GoneSettled (hs ++ h ∷ []) v e
  gone_settled_step settling = record { settled = λ m stands n low used none. settled_after settling m stands n low used none }
