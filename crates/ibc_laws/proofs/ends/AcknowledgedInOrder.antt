-- What an ordered end took as acknowledged is a beginning of what it sent: the n-th acknowledgement is of the number n.
use Rattle.std.proofs.Common.{◌≡◌, ℕ, suc, ◌+◌, Bool, true, false, refl, ap, sym, ◌∙◌, subst, List, [], ◌∷◌, ◌++◌, length, Some, None, inl, inr, arith, ◌==◌, ◌&&◌, not, eqb-true, slice_get}
use Rattle.ibc_ids.specs.Texts.{Text}
use Rattle.ibc_wire.specs.declared.packet.Packet.{Packet}
use Rattle.ibc_wire.specs.declared.records.Order.TheVariants.{Ordered}
use Rattle.ibc_machine.specs.chain.Records.{Channel}
use Rattle.ibc_machine.specs.ics24.Values.{same_order}
use Rattle.ibc_machine.specs.chain.Genesis.{GenesisState}
use Rattle.ibc_machine.specs.chain.Handlers.{host_of}
use Rattle.ibc_machine.specs.ics04.Channels.{new_channel}
use Rattle.ibc_machine.specs.ics04.Packets.{is_ordered, after_ack}
use Rattle.ibc_machine.specs.chain.Machine.{World}
use Rattle.ibc_machine.specs.ledger.Ledgers.{chain_of}
use Rattle.ibc_machine.specs.promises.Histories.{Happened, End, packet_if, acknowledged_by, sent_packets, acknowledged_packets}
use Rattle.ibc_machine.specs.promises.Laws.{IsPast, IsBeginning}
use Rattle.ibc_laws.specs.Ends.{AcknowledgedInOrder}
use Rattle.ibc_laws.proofs.basics.ListPlaces.{some_is, last_or_before}
use Rattle.ibc_laws.proofs.basics.Lists.{lemma_got_contains}
use Rattle.ibc_laws.proofs.steps.Told.{Told, told_of, is_told, acknowledged_in}
use Rattle.ibc_laws.proofs.steps.CoreSteps.{ChannelStep, answers, follows, closes, sends, receives, acknowledges, times_out, Acks}
use Rattle.ibc_laws.proofs.steps.EndSteps.{taken, acked, over}
use Rattle.ibc_laws.proofs.steps.EndKeeps.{StoodBefore, was_there, is_new}
use Rattle.ibc_laws.proofs.steps.MachineSteps.{Stepped, stepped as did_step}
use Rattle.ibc_laws.proofs.steps.AtEnds.{EndStep, untouched, opened, stepped, at_end, quiet}
use Rattle.ibc_laws.proofs.steps.Happenings.{about-more, about-same, lemma_is_at_itself}
use Rattle.ibc_laws.proofs.steps.Induction.{past_has}
use Rattle.ibc_laws.proofs.peers.Invariant.{Inv, Inv-start, stepped_inv, stepped_grows, starts_empty, no_channel}
use Rattle.ibc_laws.proofs.peers.Peers.{Stands, stands, stands_same, stands_on}
use Rattle.ibc_laws.proofs.packets.SentInOrder.{longer_by_one}
use Rattle.ibc_laws.proofs.packets.ReceivedInOrder.{toward}
use Rattle.ibc_laws.proofs.packets.ThirdLaw.{sent_toward}
use Rattle.ibc_laws.proofs.ends.SettledWasSent.{far, lemma_all_settled}

-- ---- what a step does to the counter of acknowledgements

-- nothing was acknowledged in between
record SameAcking (m n : Channel) : Type 0 where
  order : n.end.order ≡ m.end.order
  next : n.next_ack ≡ m.next_ack

lemma_same_taken : (n : ℕ) (ack : Text) (m : Channel) (b : Bool) → SameAcking m (taken b n ack m)
lemma_same_taken n ack m true = record { order = refl; next = refl }
lemma_same_taken n ack m false = record { order = refl; next = refl }

lemma_same_over : (n : ℕ) (m : Channel) (b : Bool) → SameAcking m (over n m b)
lemma_same_over n m true = record { order = refl; next = refl }
lemma_same_over n m false = record { order = refl; next = refl }

module _ (chains : ℕ) (w : World) (hs : List Happened) (h : Happened) (v : World) (e : End) where
  data Acking : Type 0 where
    acked_nothing : acknowledged_packets e (hs ++ h ∷ []) ≡ acknowledged_packets e hs
        → ((n : Channel) → Stands v e n → StoodBefore w e SameAcking n) → Acking
    acked_one : (p : Packet) (m : Channel) (was : Stands w e m) → Stands v e (after_ack p.sequence m)
        → Acks w was.chain.records.core e.port e.channel m p
        → acknowledged_packets e (hs ++ h ∷ []) ≡ acknowledged_packets e hs ++ p ∷ [] → Acking

  lemma_no_more : (chain_of h.0 ≡ e.chain → acknowledged_in e (told_of h) ≡ None) → acknowledged_packets e (hs ++ h ∷ []) ≡ acknowledged_packets e hs
  lemma_no_more none = about-same (acknowledged_by e) e.chain hs h (λ chain. (is_told h).acknowledged e ∙ none chain)

  lemma_acking : EndStep chains w h v e → Acking
  lemma_acking (untouched quiet_ back) =
      acked_nothing (lemma_no_more (λ chain. (quiet_ chain).acknowledged)) (λ n stands. was_there n (back n stands) (record { order = refl; next = refl }))
  lemma_acking (opened chain silent end now none) =
      acked_nothing (lemma_no_more (λ chain. (quiet e (told_of h) silent).acknowledged)) (λ n stands. is_new none end (stands_same e (new_channel end) n now stands))
  lemma_acking (stepped chain m n was now step) = go (told_of h) refl n now step
    where
      silent : (told : Told) → told_of h ≡ told → acknowledged_in e told ≡ None → (n : Channel) → Stands v e n → SameAcking m n → Acking
      silent told is none n now same = acked_nothing (lemma_no_more (λ c. ap (λ t. acknowledged_in e t) is ∙ none))
          (λ k stands. was_there m was (subst (SameAcking m) (stands_same e n k now stands) same))

      go : (told : Told) → told_of h ≡ told → (n : Channel) → Stands v e n
          → ChannelStep w (host_of chains e.chain was.chain) was.chain.records.core e.port e.channel m told n → Acking
      go told is n now (answers peer s) = silent told is refl n now (record { order = refl; next = refl })
      go told is n now (follows state s) = silent told is refl n now (record { order = refl; next = refl })
      go told is n now (closes s may) = silent told is refl n now (record { order = refl; next = refl })
      go told is n now (sends c s) = silent told is refl n now (record { order = refl; next = refl })
      go told is n now (receives p ack s) = silent told is refl n now (lemma_same_taken p.sequence ack m (is_ordered m))
      go told is n now (times_out p s) = silent told is refl n now (lemma_same_over p.sequence m (is_ordered m))
      go told is n now (acknowledges p s) = acked_one p m was now s
          (about-more (acknowledged_by e) e.chain hs h p chain ((is_told h).acknowledged e ∙ ap (λ t. acknowledged_in e t) is
          ∙ ap (λ b. packet_if b p) (lemma_is_at_itself e p.source_port p.source_channel s.settles.from_port s.settles.from_channel)))

-- ---- what was acknowledged is numbered

abbrev AreNumbered : List Packet → Type 0
AreNumbered ps = (i : ℕ) (q : Packet) → slice_get ps i ≡ Some q → q.sequence ≡ suc i

record AckedInOrder (hs : List Happened) (w : World) (e : End) : Type 0 where
  none : ((m : Channel) → Stands w e m → ⊥) → acknowledged_packets e hs ≡ []
  counts : (m : Channel) → Stands w e m → is_ordered m ≡ true → length (acknowledged_packets e hs) + 1 ≡ m.next_ack
  numbered : (m : Channel) → Stands w e m → is_ordered m ≡ true → AreNumbered (acknowledged_packets e hs)

lemma_same_order : (m n : Channel) → n.end.order ≡ m.end.order → is_ordered n ≡ true → is_ordered m ≡ true
lemma_same_order m n order is = ap (λ o. same_order o Ordered) (sym order) ∙ is

-- an ordered end takes the acknowledgement that it waits for
lemma_is_next : (m : Channel) (n : ℕ) → is_ordered m ≡ true → (is_ordered m && not (n == m.next_ack)) ≡ false → n ≡ m.next_ack
lemma_is_next m n ordered in_order = go (n == m.next_ack) refl (subst (λ (b : Bool). (b && not (n == m.next_ack)) ≡ false) ordered in_order)
  where
    go : (b : Bool) → (n == m.next_ack) ≡ b → not b ≡ false → n ≡ m.next_ack
    go true is e = eqb-true n m.next_ack is
    go false is e = absurd (cc e)

lemma_order_after : (n : ℕ) (m : Channel) → (after_ack n m).end.order ≡ m.end.order
lemma_order_after n m = go (is_ordered m)
  where
    go : (b : Bool) → (acked n m b).end.order ≡ m.end.order
    go true = refl
    go false = refl

lemma_next_after : (n : ℕ) (m : Channel) → is_ordered m ≡ true → (after_ack n m).next_ack ≡ m.next_ack + 1
lemma_next_after n m ordered = ap (λ b. (acked n m b).next_ack) ordered

lemma_numbered_push : (ps : List Packet) (p : Packet) → p.sequence ≡ length ps + 1 → AreNumbered ps → AreNumbered (ps ++ p ∷ [])
lemma_numbered_push ps p number are i q is = elim (last_or_before ps p i q is) [
  | inl old ↦ are i q old
  | inr new ↦ (
      let place : i ≡ length ps = new.0 in
      let same : q.sequence ≡ p.sequence = ap (λ (x : Packet). x.sequence) (sym new.1) in
      omega arith
      )
]

module _ (chains : ℕ) (w : World) (hs : List Happened) (h : Happened) (v : World) (inv : Inv w) (step : Stepped chains w h v) (e : End) (was : AckedInOrder hs w e) where
  lemma_none_after : Acking chains w hs h v e → ((m : Channel) → Stands v e m → ⊥) → acknowledged_packets e (hs ++ h ∷ []) ≡ []
  lemma_none_after (acked_nothing same before) nothing =
      same ∙ was.none (λ m stood. let on = stands_on e m (stepped_grows chains w h v inv step) stood in nothing on.now on.stands)
  lemma_none_after (acked_one p m stood now s more) nothing = absurd (nothing _ now)

  lemma_counts_after : Acking chains w hs h v e → (k : Channel) → Stands v e k → is_ordered k ≡ true → length (acknowledged_packets e (hs ++ h ∷ [])) + 1 ≡ k.next_ack
  lemma_counts_after (acked_nothing same before) k stands ordered = go (before k stands)
    where
      go : StoodBefore w e SameAcking k → length (acknowledged_packets e (hs ++ h ∷ [])) + 1 ≡ k.next_ack
      go (was_there m stood kept) =
          ap (λ (ps : List Packet). length ps + 1) same ∙ was.counts m stood (lemma_same_order m k kept.order ordered) ∙ sym kept.next
      go (is_new none end new) = ap (λ (ps : List Packet). length ps + 1) (same ∙ was.none none) ∙ ap (λ (x : Channel). x.next_ack) new
  lemma_counts_after (acked_one p m stood now s more) k stands ordered =
      let now_k = stands_same e _ k now stands in
      let before = lemma_same_order m k (ap (λ (x : Channel). x.end.order) (sym now_k) ∙ lemma_order_after p.sequence m) ordered in
      ap (λ (ps : List Packet). length ps + 1) more ∙ ap (λ n. n + 1) (longer_by_one (acknowledged_packets e hs) p ∙ was.counts m stood before)
      ∙ sym (lemma_next_after p.sequence m before) ∙ ap (λ (x : Channel). x.next_ack) now_k

  lemma_numbered_after : Acking chains w hs h v e → (k : Channel) → Stands v e k → is_ordered k ≡ true → AreNumbered (acknowledged_packets e (hs ++ h ∷ []))
  lemma_numbered_after (acked_nothing same before) k stands ordered = go (before k stands)
    where
      go : StoodBefore w e SameAcking k → AreNumbered (acknowledged_packets e (hs ++ h ∷ []))
      go (was_there m stood kept) = subst AreNumbered (sym same) (was.numbered m stood (lemma_same_order m k kept.order ordered))
      go (is_new none end new) = subst AreNumbered (sym (same ∙ was.none none)) (λ i q is. absurd (cc is))
  lemma_numbered_after (acked_one p m stood now s more) k stands ordered =
      let now_k = stands_same e _ k now stands in
      let before = lemma_same_order m k (ap (λ (x : Channel). x.end.order) (sym now_k) ∙ lemma_order_after p.sequence m) ordered in
      let next : p.sequence ≡ m.next_ack = lemma_is_next m p.sequence before s.in_order in
      subst AreNumbered (sym more) (lemma_numbered_push (acknowledged_packets e hs) p (next ∙ sym (was.counts m stood before)) (was.numbered m stood before))

  lemma_acked_in_order_step : AckedInOrder (hs ++ h ∷ []) v e
  lemma_acked_in_order_step =
      let acking = lemma_acking chains w hs h v e (at_end chains w h v inv step e) in
      record { none = lemma_none_after acking; counts = lemma_counts_after acking; numbered = lemma_numbered_after acking }

record AllAcked (hs : List Happened) (w : World) : Type 0 where
  inv : Inv w
  each : (e : End) → AckedInOrder hs w e

lemma_all_acked : (genesis : GenesisState) (happened : List Happened) (world : World) → IsPast genesis happened world → AllAcked happened world
lemma_all_acked genesis = past_has genesis AllAcked
    (λ happened old h new typed was step.
    let did = did_step genesis old h new step in
    record {
      inv = stepped_inv (length genesis.chains) old h new was.inv did;
      each = λ e. lemma_acked_in_order_step (length genesis.chains) old happened h new was.inv did e (was.each e);
    })
    (record {
      inv = Inv-start genesis;
      each = λ e. record {
        none = λ nothing. refl;
        counts = λ m s ordered. absurd (no_channel s.chain (starts_empty genesis e.chain s.chain s.there) e.port e.channel m s.is);
        numbered = λ m s ordered i q is. absurd (cc is);
      };
    })

-- ---- the law

-- a list of which each entry stands at its place in another is a beginning of it
lemma_beginning : (xs ys : List Packet) → ((i : ℕ) (x : Packet) → slice_get xs i ≡ Some x → slice_get ys i ≡ Some x) → IsBeginning xs ys
lemma_beginning [] ys at_ = (ys, refl)
lemma_beginning (x ∷ xs) [] at_ = absurd (let none = at_ 0 x refl in cc none)
lemma_beginning (x ∷ xs) (y ∷ ys) at_ =
    let same : x ≡ y = some_is (at_ 0 x refl) refl in
    let rest = lemma_beginning xs ys (λ i z is. at_ (suc i) z is) in
    (rest.0, λ i. same i ∷ rest.1 i)

pub lemma_acknowledged_in_order : AcknowledgedInOrder
lemma_acknowledged_in_order genesis happened world past e mine is ordered =
    let all = lemma_all_settled genesis happened world past in
    let acks = (lemma_all_acked genesis happened world past).each e in
    let here = stands world e mine is in
    lemma_beginning (acknowledged_packets e happened) (sent_packets e mine happened) (λ i p at_.
    let x = all.acknowledged e p (lemma_got_contains (acknowledged_packets e happened) i p at_) in
    let own : x.mine ≡ mine = stands_same e x.mine mine x.here here in
    let number : p.sequence ≡ suc i = acks.numbered mine here ordered i p at_ in
    let place : x.nth.index ≡ i = (let n = x.nth.number in omega arith) in
    let toward_it : sent_packets e x.mine happened ≡ sent_packets e (toward (far p)) happened = sent_toward e (far p) x.mine x.port x.channel happened in
    subst (λ (m : Channel). slice_get (sent_packets e m happened) i ≡ Some p) own
    (subst (λ ps. slice_get ps i ≡ Some p) (sym toward_it) (subst (λ j. slice_get (sent_packets e (toward (far p)) happened) j ≡ Some p) place x.nth.got)))
