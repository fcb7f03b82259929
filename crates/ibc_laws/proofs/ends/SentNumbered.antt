-- What an end sent bears the numbers 1, 2, 3 and so on. So under a number it sent one packet.
use Rattle.std.proofs.Common.{◌≡◌, ℕ, zero, suc, ◌+◌, ◌<◌, ◌==◌, Bool, true, false, refl, ap, sym, ◌∙◌, subst, List, [], ◌∷◌, ◌++◌, length, Some, inl, inr, arith, cond, eqb-true, slice_get, Contains}
use Rattle.std.specs.List.{find}
use Rattle.ibc_wire.specs.declared.packet.Packet.{Packet}
use Rattle.ibc_machine.specs.chain.Records.{Channel}
use Rattle.ibc_machine.specs.chain.Machine.{World}
use Rattle.ibc_machine.specs.promises.Histories.{Happened, End, packet_from, packet_sent, sent_packets, sequences}
use Rattle.ibc_laws.proofs.basics.ListPlaces.{some_is, last_or_before}
use Rattle.ibc_laws.proofs.basics.PassedTests.{number-self}
use Rattle.ibc_laws.proofs.steps.MachineSteps.{Stepped}
use Rattle.ibc_laws.proofs.steps.AtEnds.{at_end}
use Rattle.ibc_laws.proofs.steps.Happenings.{Sending, sent_nothing, sent_one, sending}
use Rattle.ibc_laws.proofs.peers.Invariant.{Inv}
use Rattle.ibc_laws.proofs.packets.SentInOrder.{SentInOrder}

abbrev pub SentNumbered : List Happened → End → Type 0
SentNumbered hs e = (mine : Channel) (i : ℕ) (q : Packet) → slice_get (sent_packets e mine hs) i ≡ Some q → q.sequence ≡ suc i

module _ (chains : ℕ) (w : World) (hs : List Happened) (h : Happened) (v : World) (inv : Inv w) (step : Stepped chains w h v) (e : End)
    (sent : SentInOrder hs w e) (was : SentNumbered hs e) where
  lemma_numbered_after : Sending chains w hs h v e → SentNumbered (hs ++ h ∷ []) e
  lemma_numbered_after (sent_nothing same before) mine i q is = was mine i q (subst (λ ps. slice_get ps i ≡ Some q) (same mine) is)
  lemma_numbered_after (sent_one c m stood now more) mine i q is =
      elim (last_or_before (sent_packets e mine hs) (packet_from e mine m.next_send c) i q (subst (λ ps. slice_get ps i ≡ Some q) (more mine) is)) [
        | inl old ↦ was mine i q old
        | inr new ↦ (
            let count : length (sent_packets e mine hs) + 1 ≡ m.next_send = sent.counts m stood mine in
            let place : i ≡ length (sent_packets e mine hs) = new.0 in
            let number : q.sequence ≡ m.next_send = ap (λ (p : Packet). p.sequence) (sym new.1) in
            omega arith
            )
      ]

  pub lemma_numbered_step : SentNumbered (hs ++ h ∷ []) e
  lemma_numbered_step = lemma_numbered_after (sending chains w hs h v e inv (at_end chains w h v inv step e))

-- ---- the packet of a number

abbrev AreNumberedFrom : ℕ → List Packet → Type 0
AreNumberedFrom k xs = (i : ℕ) (q : Packet) → slice_get xs i ≡ Some q → q.sequence ≡ suc (k + i)

lemma_found : (xs : List Packet) (k : ℕ) → AreNumberedFrom k xs → (i : ℕ) (p : Packet) → slice_get xs i ≡ Some p
    → find (λ (q : Packet). q.sequence == p.sequence) xs ≡ Some p
lemma_found [] k numbered i p is = absurd (cc is)
lemma_found (x ∷ xs) k numbered zero p is =
    let same : x ≡ p = some_is refl is in
    let test : (x.sequence == p.sequence) ≡ true = subst (λ (y : Packet). (y.sequence == p.sequence) ≡ true) (sym same) (number-self p.sequence) in
    ap (λ b. cond b (Some x) (find (λ (q : Packet). q.sequence == p.sequence) xs)) test ∙ ap Some same
lemma_found (x ∷ xs) k numbered (suc i) p is =
    let behind = lemma_found xs (suc k) (λ j q at_. let number : q.sequence ≡ suc (k + suc j) = numbered (suc j) q at_ in omega arith) i p is in
    let first : x.sequence ≡ suc (k + 0) = numbered 0 x refl in
    let here : p.sequence ≡ suc (k + suc i) = numbered (suc i) p is in
    go (x.sequence == p.sequence) refl first here behind
  where
    go : (b : Bool) → (x.sequence == p.sequence) ≡ b → x.sequence ≡ suc (k + 0) → p.sequence ≡ suc (k + suc i)
        → find (λ (q : Packet). q.sequence == p.sequence) xs ≡ Some p
        → cond (x.sequence == p.sequence) (Some x) (find (λ (q : Packet). q.sequence == p.sequence) xs) ≡ Some p
    go true is first here behind = absurd (let same : x.sequence ≡ p.sequence = eqb-true x.sequence p.sequence is in omega arith)
    go false is first here behind = ap (λ b. cond b (Some x) (find (λ (q : Packet). q.sequence == p.sequence) xs)) is ∙ behind

pub lemma_sent_at : (hs : List Happened) (e : End) → SentNumbered hs e → (mine : Channel) (i : ℕ) (p : Packet)
    → slice_get (sent_packets e mine hs) i ≡ Some p → packet_sent e mine hs p.sequence ≡ Some p
lemma_sent_at hs e numbered mine i p is =
    lemma_found (sent_packets e mine hs) 0 (λ j q at_. let number = numbered mine j q at_ in omega arith) i p is

-- ---- elements and their numbers

pub lemma_contains_got : {A : Type 0} (xs : List A) (x : A) → Contains xs x → (i : ℕ) × (slice_get xs i ≡ Some x)
lemma_contains_got [] x has = absurd (let lt = has.1 in omega arith)
lemma_contains_got (y ∷ xs) x (zero, lt, e) = (0, ap Some e)
lemma_contains_got (y ∷ xs) x (suc k, lt, e) =
    let h = lemma_contains_got xs x (k, (let l : suc k < length (y ∷ xs) = lt in omega arith), e) in
    (suc h.0, h.1)

pub lemma_number_of : (ps : List Packet) (p : Packet) → Contains ps p → Contains (sequences ps) p.sequence
lemma_number_of [] p has = absurd (let lt = has.1 in omega arith)
lemma_number_of (q ∷ ps) p (zero, lt, e) = (0, omega arith, ap (λ (x : Packet). x.sequence) e)
lemma_number_of (q ∷ ps) p (suc k, lt, e) =
    let h = lemma_number_of ps p (k, (let l : suc k < length (q ∷ ps) = lt in omega arith), e) in
    (suc h.0, (let l = h.1 in omega arith), h.2)

pub lemma_of_number : (ps : List Packet) (n : ℕ) → Contains (sequences ps) n → (p : Packet) × Contains ps p × (p.sequence ≡ n)
lemma_of_number [] n has = absurd (let lt = has.1 in omega arith)
lemma_of_number (q ∷ ps) n (zero, lt, e) = (q, (0, omega arith, refl), e)
lemma_of_number (q ∷ ps) n (suc k, lt, e) =
    let h = lemma_of_number ps n (k, (let l : suc k < length (sequences (q ∷ ps)) = lt in omega arith), e) in
    (h.0, (suc h.1.0, (let l = h.1.1 in omega arith), h.1.2), h.2)
