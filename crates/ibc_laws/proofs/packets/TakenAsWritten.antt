-- The acknowledgement that an end takes of a packet is the one that the packet's receiver wrote: what stands there
-- is what was written first, and what is seen there stands.
use Rattle.std.proofs.Common.{◌≡◌, ℕ, Bool, true, false, refl, ap, sym, ◌∙◌, subst, List, [], ◌∷◌, ◌++◌, length, Option, Some, None, inl, inr, nat_cmp, ◌==◌, ◌&&◌, ◌||◌, filter_map, slice_get, if◌then◌else◌, Contains, arith}
use Rattle.std.specs.List.{cons_option}
use Rattle.std.proofs.lemmas.List.Elements.{Contains-append_cases}
use Rattle.ibc_ids.specs.Texts.{Text}
use Rattle.ibc_ids.specs.Maps.{at}
use Rattle.ibc_wire.specs.declared.packet.Packet.{Packet}
use Rattle.ibc_wire.specs.declared.records.ChannelEnd.{ChannelEnd}
use Rattle.ibc_machine.specs.chain.Records.{Channel, is_one_of}
use Rattle.ibc_machine.specs.ics04.Channels.{new_channel}
use Rattle.ibc_machine.specs.chain.Genesis.{GenesisState, start}
use Rattle.ibc_machine.specs.chain.Handlers.{host_of}
use Rattle.ibc_machine.specs.chain.Machine.{World}
use Rattle.ibc_machine.specs.ledger.Ledgers.{chain_of}
use Rattle.ibc_machine.specs.promises.Histories.{Happened, End, is_destination, is_source, packet_if, received_by, sequences, history_of, ack_by, ack_written}
use Rattle.ibc_machine.specs.promises.Laws.{IsPast}
use Rattle.ibc_laws.specs.Packets.{TakenAsWritten, taken_acks, ack_taken_by, pair_if}
use Rattle.ibc_laws.proofs.basics.PassedTests.{and_true, number-self}
use Rattle.ibc_laws.proofs.steps.Told.{Told, Quiet, Sent, Received, Acknowledged, TimedOut, told_of, is_told, received_in, acknowledged_in, ack_in, taken_in}
use Rattle.ibc_laws.proofs.steps.CoreSteps.{ChannelStep, answers, follows, closes, sends, receives, acknowledges, times_out, Receives, Acks, HadAck}
use Rattle.ibc_laws.proofs.steps.EndSteps.{acks_of_receive}
use Rattle.ibc_laws.proofs.steps.EndKeeps.{keeps_receiving}
use Rattle.ibc_laws.proofs.steps.MachineSteps.{Stepped, stepped as did_step}
use Rattle.ibc_laws.proofs.steps.AtEnds.{EndStep, untouched, opened, stepped, at_end}
use Rattle.ibc_laws.proofs.steps.Happenings.{about, about-append, about-more, about-same, lemma_only_one, lemma_is_at_itself}
use Rattle.ibc_laws.proofs.steps.Induction.{past_has}
use Rattle.ibc_laws.proofs.peers.Invariant.{Inv, stepped_grows, starts_empty, no_channel}
use Rattle.ibc_laws.proofs.peers.Peers.{Stands, Peers, stands_same, peers_on, one_peer_only, true_peers}
use Rattle.ibc_laws.proofs.peers.FirstLaw.{peers_of}
use Rattle.ibc_laws.proofs.peers.PeerSeen.{peer_seen}
use Rattle.ibc_laws.proofs.packets.ReceivedOnce.{not_received_yet}
use Rattle.ibc_laws.proofs.packets.SentInOrder.{got_in_longer}
use Rattle.ibc_laws.proofs.packets.SecondLaw.{Once, once_start, once_step}

abbrev IsWritten : List Happened → End → ℕ → Text → Type 0
IsWritten hs f n ack = ack_written f hs n ≡ Some ack

pub record AcksWritten (hs : List Happened) (w : World) : Type 0 where
  pub once : Once hs w
  -- each acknowledgement that stands is the one that was written
  pub written : (f : End) (m : Channel) → Stands w f m → (n : ℕ) (ack : Text) → at nat_cmp n m.acks ≡ Some ack → IsWritten hs f n ack
  -- and so is each that was taken
  pub taken_so : (e : End) (p : Packet) (ack : Text) → Contains (taken_acks e hs) (p, ack) → (f : End) × Peers w e f × IsWritten hs f p.sequence ack

-- ---- what was written was received

lemma_wrote_received : (f : End) (n : ℕ) (told : Told) (ack : Text) → ack_in f n told ≡ Some ack
    → (p : Packet) × (received_in f told ≡ Some p) × ((p.sequence == n) ≡ true)
lemma_wrote_received f n (Received p (Some a)) ack is = go (is_destination f p) (p.sequence == n) refl refl is
  where
    go : (d s : Bool) → is_destination f p ≡ d → (p.sequence == n) ≡ s → (if d && s then Some a else None) ≡ Some ack
        → (q : Packet) × (packet_if (is_destination f p) p ≡ Some q) × ((q.sequence == n) ≡ true)
    go true true to same is = (p, ap (λ b. packet_if b p) to, same)
    go true false to same is = absurd (cc is)
    go false s to same is = absurd (cc is)
lemma_wrote_received f n (Received p None) ack is = absurd (cc is)
lemma_wrote_received f n Quiet ack is = absurd (cc is)
lemma_wrote_received f n (Sent port channel k c) ack is = absurd (cc is)
lemma_wrote_received f n (Acknowledged p a) ack is = absurd (cc is)
lemma_wrote_received f n (TimedOut p) ack is = absurd (cc is)

-- of a number that wasn't received nothing was written
lemma_none_written : (f : End) (n : ℕ) (hs : List Happened) → is_one_of (sequences (filter_map (received_by f) hs)) n ≡ false
    → filter_map (ack_by f n) hs ≡ []
lemma_none_written f n [] e = refl
lemma_none_written f n (h ∷ hs) e = go (ack_by f n h) refl (received_by f h) refl e (lemma_none_written f n hs)
  where
    go : (o : Option Text) → ack_by f n h ≡ o → (r : Option Packet) → received_by f h ≡ r
        → is_one_of (sequences (cons_option r (filter_map (received_by f) hs))) n ≡ false
        → (is_one_of (sequences (filter_map (received_by f) hs)) n ≡ false → filter_map (ack_by f n) hs ≡ [])
        → cons_option o (filter_map (ack_by f n) hs) ≡ []
    go (Some ack) is r was e ih =
        let x = lemma_wrote_received f n (told_of h) ack (sym ((is_told h).wrote f n) ∙ is) in
        let p : Packet = x.0 in
        let there : r ≡ Some p = sym was ∙ (is_told h).received f ∙ x.1 in
        let among = ap (λ o. is_one_of (sequences (cons_option o (filter_map (received_by f) hs))) n) there in
        let front = ap (λ b. b || is_one_of (sequences (filter_map (received_by f) hs)) n) x.2 in
        absurd (cc (sym front ∙ sym among ∙ e))
    go None is (Some p) was e ih = ih (behind (p.sequence == n) e)
      where
        behind : (b : Bool) → (b || is_one_of (sequences (filter_map (received_by f) hs)) n) ≡ false → is_one_of (sequences (filter_map (received_by f) hs)) n ≡ false
        behind true e = absurd (cc e)
        behind false e = e
    go None is None was e ih = ih e

-- nothing is taken where nothing was acknowledged
lemma_none_taken : (e : End) (told : Told) → acknowledged_in e told ≡ None → taken_in e told ≡ None
lemma_none_taken e (Acknowledged p ack) none = go (is_source e p) none
  where
    go : (b : Bool) → packet_if b p ≡ None → pair_if b p ack ≡ None
    go true none = absurd (cc none)
    go false none = refl
lemma_none_taken e Quiet none = refl
lemma_none_taken e (Sent port channel n c) none = refl
lemma_none_taken e (Received p ack) none = refl
lemma_none_taken e (TimedOut p) none = refl

module _ (chains : ℕ) (w : World) (hs : List Happened) (h : Happened) (v : World) (step : Stepped chains w h v) (acks : AcksWritten hs w) where
  abbrev inv : Inv w
  inv = acks.once.inv

  -- what was written first stays the first
  lemma_still_written : (f : End) (n : ℕ) (ack : Text) → IsWritten hs f n ack → IsWritten (hs ++ h ∷ []) f n ack
  lemma_still_written f n ack is =
      subst (λ xs. slice_get xs 0 ≡ Some ack) (sym (about-append (ack_by f n) f.chain hs h))
      (got_in_longer (about (ack_by f n) f.chain hs) (about (ack_by f n) f.chain (h ∷ [])) 0 ack is)

  -- a receive writes the first of its number
  lemma_now_written : (f : End) (m : Channel) (was : Stands w f m) (p : Packet) (ack : Text) → chain_of h.0 ≡ f.chain
      → Receives w (host_of chains f.chain was.chain) was.chain.records.core f.port f.channel m p
      → told_of h ≡ Received p (Some ack) → IsWritten (hs ++ h ∷ []) f p.sequence ack
  lemma_now_written f m was p ack chain r told =
      let here : is_destination f p ≡ true = lemma_is_at_itself f p.destination_port p.destination_channel r.to_port r.to_channel in
      let writes : ack_by f p.sequence h ≡ Some ack =
      (is_told h).wrote f p.sequence ∙ ap (λ t. ack_in f p.sequence t) told
      ∙ ap (λ b. if b then Some ack else None) (and_true here (number-self p.sequence)) in
      let fresh = not_received_yet chains w hs h v inv step acks.once.received f m was p.sequence r.fresh in
      let none : about (ack_by f p.sequence) f.chain hs ≡ [] = lemma_none_written f p.sequence (history_of f.chain hs) fresh in
      ap (λ xs. slice_get xs 0) (about-more (ack_by f p.sequence) f.chain hs h ack chain writes ∙ ap (λ xs. xs ++ ack ∷ []) none)

  lemma_written_after : (f : End) (k : Channel) → Stands v f k → (n : ℕ) (ack : Text) → at nat_cmp n k.acks ≡ Some ack
      → EndStep chains w h v f → IsWritten (hs ++ h ∷ []) f n ack
  lemma_written_after f k stands n ack is (untouched quiet back) = lemma_still_written f n ack (acks.written f k (back k stands) n ack is)
  lemma_written_after f k stands n ack is (opened chain silent end now none) =
      absurd (nothing end (ap (λ (x : Channel). at nat_cmp n x.acks) (stands_same f _ k now stands) ∙ is))
    where
      nothing : (end : ChannelEnd) → at nat_cmp n (new_channel end).acks ≡ Some ack → ⊥
      nothing end e = absurd (cc e)
  lemma_written_after f k stands n ack is (stepped chain m j was now s) = go (told_of h) refl j now s (stands_same f k j stands now)
    where
      same : (told : Told) (j : Channel) → ChannelStep w (host_of chains f.chain was.chain) was.chain.records.core f.port f.channel m told j
          → ((p : Packet) (a : Text) → told ≡ Received p (Some a) → ⊥) → k ≡ j → IsWritten (hs ++ h ∷ []) f n ack
      same told j s other new =
          let kept = keeps_receiving w (host_of chains f.chain was.chain) was.chain.records.core f.port f.channel m told j s other in
          lemma_still_written f n ack (acks.written f m was n ack (ap (λ x. at nat_cmp n x) (sym kept.acks) ∙ ap (λ (x : Channel). at nat_cmp n x.acks) (sym new) ∙ is))

      go : (told : Told) → told_of h ≡ told → (j : Channel) → Stands v f j
          → ChannelStep w (host_of chains f.chain was.chain) was.chain.records.core f.port f.channel m told j → k ≡ j → IsWritten (hs ++ h ∷ []) f n ack
      go told tells j now (receives p a r) new =
          elim (acks_of_receive p.sequence a m n ack (ap (λ (x : Channel). at nat_cmp n x.acks) (sym new) ∙ is)) [
            | inl here ↦ subst (λ (x : ℕ × Text). IsWritten (hs ++ h ∷ []) f x.0 x.1) (λ i. (sym here.0 i, here.1 i)) (lemma_now_written f m was p a chain r tells)
            | inr old ↦ lemma_still_written f n ack (acks.written f m was n ack old)
          ]
      go told tells j now (answers peer s) new = same told j (answers peer s) (λ p a e. absurd (cc e)) new
      go told tells j now (follows state s) new = same told j (follows state s) (λ p a e. absurd (cc e)) new
      go told tells j now (closes s may) new = same told j (closes s may) (λ p a e. absurd (cc e)) new
      go told tells j now (sends c s) new = same told j (sends c s) (λ p a e. absurd (cc e)) new
      go told tells j now (acknowledges p s) new = same told j (acknowledges p s) (λ p a e. absurd (cc e)) new
      go told tells j now (times_out p s) new = same told j (times_out p s) (λ p a e. absurd (cc e)) new

  -- ---- what is taken

  abbrev IsTakenSo : World → List Happened → End → Packet × Text → Type 0
  IsTakenSo v hs e x = (f : End) × Peers v e f × IsWritten hs f x.0.sequence x.1

  lemma_on : (e : End) (x : Packet × Text) → IsTakenSo w hs e x → IsTakenSo v (hs ++ h ∷ []) e x
  lemma_on e x was = (was.0, (peers_on e was.0 (stepped_grows chains w h v inv step) was.1).peers, lemma_still_written was.0 x.0.sequence x.1 was.2)

  lemma_seen_so : (e : End) (m : Channel) (was : Stands w e m) (p : Packet) (s : Acks w was.chain.records.core e.port e.channel m p) → IsTakenSo w hs e (p, s.ack)
  lemma_seen_so e m was p s =
      let seen = peer_seen w inv e m was s.settles.settled p.destination_port p.destination_channel s.settles.peer s.height (HadAck p s.ack) s.sees in
      let had = s.sees.had in
      let theirs = (seen.grows had.0 had.1).receiving.acks p.sequence s.ack had.2 in
      (seen.peer.other, peers_of w e m was seen.peer, acks.written seen.peer.other seen.peer.theirs seen.peer.there p.sequence s.ack theirs)

  lemma_taken_after : (e : End) (p : Packet) (ack : Text) → Contains (taken_acks e (hs ++ h ∷ [])) (p, ack) → EndStep chains w h v e → IsTakenSo v (hs ++ h ∷ []) e (p, ack)
  lemma_taken_after e p ack has step_ = go step_
    where
      as_before : (chain_of h.0 ≡ e.chain → taken_in e (told_of h) ≡ None) → IsTakenSo v (hs ++ h ∷ []) e (p, ack)
      as_before none = lemma_on e (p, ack) (acks.taken_so e p ack
          (subst (λ xs. Contains xs (p, ack)) (about-same (ack_taken_by e) e.chain hs h (λ chain. (is_told h).took e ∙ none chain)) has))

      of_label : (m : Channel) (was : Stands w e m) (told : Told) → told_of h ≡ told → (j : Channel)
          → ChannelStep w (host_of chains e.chain was.chain) was.chain.records.core e.port e.channel m told j → IsTakenSo v (hs ++ h ∷ []) e (p, ack)
      of_label m was told tells j (acknowledges q s) =
          let here : is_source e q ≡ true = lemma_is_at_itself e q.source_port q.source_channel s.settles.from_port s.settles.from_channel in
          elim (Contains-append_cases (taken_acks e hs) (about (ack_taken_by e) e.chain (h ∷ [])) (p, ack) (subst (λ xs. Contains xs (p, ack)) (about-append (ack_taken_by e) e.chain hs h) has)) [
            | inl old ↦ lemma_on e (p, ack) (acks.taken_so e p ack old)
            | inr new ↦ (
                let takes : ack_taken_by e h ≡ Some (q, s.ack) = (is_told h).took e ∙ ap (λ t. taken_in e t) tells ∙ ap (λ b. pair_if b q s.ack) here in
                lemma_on e (p, ack) (subst (IsTakenSo w hs e) (lemma_only_one (ack_taken_by e) e.chain hs h (q, s.ack) (p, ack) takes new) (lemma_seen_so e m was q s))
                )
          ]
      of_label m was told tells j (answers peer s) = as_before (λ chain. ap (λ t. taken_in e t) tells)
      of_label m was told tells j (follows state s) = as_before (λ chain. ap (λ t. taken_in e t) tells)
      of_label m was told tells j (closes s may) = as_before (λ chain. ap (λ t. taken_in e t) tells)
      of_label m was told tells j (sends c s) = as_before (λ chain. ap (λ t. taken_in e t) tells)
      of_label m was told tells j (receives q a r) = as_before (λ chain. ap (λ t. taken_in e t) tells)
      of_label m was told tells j (times_out q s) = as_before (λ chain. ap (λ t. taken_in e t) tells)

      go : EndStep chains w h v e → IsTakenSo v (hs ++ h ∷ []) e (p, ack)
      go (untouched quiet back) = as_before (λ chain. lemma_none_taken e (told_of h) (quiet chain).acknowledged)
      go (opened chain silent end now none) = as_before (λ chain. ap (λ t. taken_in e t) silent)
      go (stepped chain m j was now s) = of_label m was (told_of h) refl j s

  lemma_acks_written_step : AcksWritten (hs ++ h ∷ []) v
  lemma_acks_written_step = record {
    once = once_step chains hs w h v acks.once step;
    written = λ f m stands n ack is. lemma_written_after f m stands n ack is (at_end chains w h v inv step f);
    taken_so = λ e p ack has. lemma_taken_after e p ack has (at_end chains w h v inv step e);
  }

lemma_acks_written_start : (genesis : GenesisState) → AcksWritten [] (start genesis)
lemma_acks_written_start genesis = record {
  once = once_start genesis;
  written = λ f m s n ack is. absurd (no_channel s.chain (starts_empty genesis f.chain s.chain s.there) f.port f.channel m s.is);
  taken_so = λ e p ack has. absurd (let lt = has.1 in omega arith);
}

lemma_acks_written : (genesis : GenesisState) (happened : List Happened) (world : World) → IsPast genesis happened world → AcksWritten happened world
lemma_acks_written genesis = past_has genesis AcksWritten
    (λ happened old h new typed acks step. lemma_acks_written_step (length genesis.chains) old happened h new (did_step genesis old h new step) acks)
    (lemma_acks_written_start genesis)

pub lemma_taken_as_written : TakenAsWritten
lemma_taken_as_written genesis happened world e f past are_peers p ack has =
    let x = (lemma_acks_written genesis happened world past).taken_so e p ack has in
    let same : x.0 ≡ f = one_peer_only world e x.0 f x.1 (true_peers world e f are_peers) in
    subst (λ (g : End). IsWritten happened g p.sequence ack) same x.2
