-- A CLOSED end is silent: sending, receiving and acknowledging ask for OPEN. A timeout alone doesn't.
use Rattle.std.proofs.Common.{◌≡◌, ℕ, ◌≤◌, Bool, true, false, refl, ap, sym, ◌∙◌, subst, [], length, Option, Some, inl, inr, arith}
use Rattle.std.specs.Option.{option_map_or}
use Rattle.ibc_ids.proofs.Texts.{same_text_itself}
use Rattle.ibc_wire.specs.declared.packet.Packet.{Packet}
use Rattle.ibc_wire.specs.declared.records.ChannelState.{ChannelState}
use Rattle.ibc_wire.specs.declared.records.ChannelState.TheVariants as chan
use Rattle.ibc_machine.specs.chain.Records.{Channel, Commitment, commitment_of}
use Rattle.ibc_machine.specs.ics24.Values.{same_commitment}
use Rattle.ibc_machine.specs.chain.Handlers.{host_of}
use Rattle.ibc_machine.specs.ics04.Channels.{in_state}
use Rattle.ibc_machine.specs.ics04.Packets.{is_ordered, without_commitment, after_timeout}
use Rattle.ibc_machine.specs.chain.Machine.{World}
use Rattle.ibc_machine.specs.ledger.Ledgers.{chain_of}
use Rattle.ibc_machine.specs.promises.Histories.{Happened, End, packet_if, sent_by, received_by, acknowledged_by, timed_out_by}
use Rattle.ibc_machine.specs.promises.Peers.{end_at}
use Rattle.ibc_laws.specs.Ends.{IsSilent, ClosedIsSilent}
use Rattle.ibc_laws.proofs.basics.PassedTests.{and_true, number-self}
use Rattle.ibc_laws.proofs.steps.Told.{Told, told_of, is_told, sent_in, received_in, acknowledged_in, timed_out_in}
use Rattle.ibc_laws.proofs.steps.CoreSteps.{rank, ChannelStep, answers, follows, closes, sends, receives, acknowledges, times_out}
use Rattle.ibc_laws.proofs.steps.EndSteps.{over}
use Rattle.ibc_laws.proofs.steps.MachineSteps.{Stepped, stepped as did_step}
use Rattle.ibc_laws.proofs.steps.AtEnds.{IsQuietAt, EndStep, untouched, opened, stepped, at_end, quiet}
use Rattle.ibc_laws.proofs.steps.Happenings.{about-more, about-same, lemma_is_at_itself}
use Rattle.ibc_laws.proofs.peers.Invariant.{Inv, inv_of_past, stepped_grows}
use Rattle.ibc_laws.proofs.peers.Peers.{Stands, stands, stands_at, stands_same, stands_on}

lemma_last : (s : ChannelState) → 2 ≤ rank s → s ≡ chan.Closed
lemma_last chan.Init ranks = absurd (omega arith)
lemma_last chan.TryOpen ranks = absurd (omega arith)
lemma_last chan.Open ranks = absurd (omega arith)
lemma_last chan.Closed ranks = refl

lemma_is_committed : (m : Channel) (p : Packet) (o : Option Commitment) → o ≡ Some (commitment_of p)
    → option_map_or (λ c. same_commitment c (commitment_of p)) o false ≡ true
lemma_is_committed m p o is =
    ap (λ (x : Option Commitment). option_map_or (λ c. same_commitment c (commitment_of p)) x false) is
    ∙ and_true (and_true (same_text_itself p.payload) (number-self p.timeout_height)) (number-self p.timeout_time)

-- the end in the state that it has
lemma_same_state : (state : ChannelState) (m : Channel) → m.end.state ≡ state → in_state state m ≡ m
lemma_same_state state m is = λ i. record m { end = record m.end { state = sym is i } }

lemma_over : (n : ℕ) (m : Channel) → m.end.state ≡ chan.Closed → after_timeout n m ≡ without_commitment n m
lemma_over n m closed = go (is_ordered m)
  where
    go : (b : Bool) → over n m b ≡ without_commitment n m
    go true = lemma_same_state chan.Closed (without_commitment n m) closed
    go false = refl

module _ (chains : ℕ) (w : World) (h : Happened) (v : World) (inv : Inv w) (step : Stepped chains w h v) (e : End) where
  lemma_quiet : (m : Channel) → (chain_of h.0 ≡ e.chain → IsQuietAt e (told_of h)) → end_at v e ≡ Some m → IsSilent h e m v
  lemma_quiet m quiet_ at_ = record {
    sends = λ named. about-same (sent_by e named) e.chain [] h (λ chain. (is_told h).sent e named ∙ (quiet_ chain).sent named);
    receives = about-same (received_by e) e.chain [] h (λ chain. (is_told h).received e ∙ (quiet_ chain).received);
    acknowledges = about-same (acknowledged_by e) e.chain [] h (λ chain. (is_told h).acknowledged e ∙ (quiet_ chain).acknowledged);
    settles = inl (about-same (timed_out_by e) e.chain [] h (λ chain. (is_told h).timed_out e ∙ (quiet_ chain).timed_out), at_);
  }

  module _ (m : Channel) (closed : m.end.state ≡ chan.Closed) (was : Stands w e m) (chain : chain_of h.0 ≡ e.chain) where
    lemma_by_label : (told : Told) → told_of h ≡ told → (n : Channel) → Stands v e n
        → ChannelStep w (host_of chains e.chain was.chain) was.chain.records.core e.port e.channel m told n → IsSilent h e m v
    lemma_by_label told is n now (answers peer s) = absurd (cc (s.state, closed))
    lemma_by_label told is n now (follows state s) =
        let two : rank m.end.state ≡ 2 = ap rank closed in
        let up = s.higher in
        let same : state ≡ chan.Closed = lemma_last state (omega arith) in
        lemma_quiet m (λ c. quiet e (told_of h) is) (stands_at v e n now ∙ ap Some (lemma_same_state state m (closed ∙ sym same)))
    lemma_by_label told is n now (closes state may) = absurd (cc (state, closed))
    lemma_by_label told is n now (sends c state) = absurd (cc (state, closed))
    lemma_by_label told is n now (receives p ack s) = absurd (let state = s.state in cc (state, closed))
    lemma_by_label told is n now (acknowledges p s) = absurd (let state = s.state in cc (state, closed))
    lemma_by_label told is n now (times_out p s) = record {
      sends = λ named. about-same (sent_by e named) e.chain [] h (λ c. (is_told h).sent e named ∙ ap (λ t. sent_in e named t) is);
      receives = about-same (received_by e) e.chain [] h (λ c. (is_told h).received e ∙ ap (λ t. received_in e t) is);
      acknowledges = about-same (acknowledged_by e) e.chain [] h (λ c. (is_told h).acknowledged e ∙ ap (λ t. acknowledged_in e t) is);
      settles = inr (
        p,
        about-more (timed_out_by e) e.chain [] h p chain ((is_told h).timed_out e ∙ ap (λ t. timed_out_in e t) is
            ∙ ap (λ b. packet_if b p) (lemma_is_at_itself e p.source_port p.source_channel s.settles.from_port s.settles.from_channel)),
        lemma_is_committed m p _ s.settles.committed,
        stands_at v e n now ∙ ap Some (lemma_over p.sequence m closed),
      );
    }

  lemma_silent : (m : Channel) → m.end.state ≡ chan.Closed → Stands w e m → EndStep chains w h v e → IsSilent h e m v
  lemma_silent m closed was (untouched quiet_ back) =
      let on = stands_on e m (stepped_grows chains w h v inv step) was in
      let same : on.now ≡ m = stands_same e on.now m (back on.now on.stands) was in
      lemma_quiet m quiet_ (stands_at v e on.now on.stands ∙ ap Some same)
  lemma_silent m closed was (opened chain silent end now none) = absurd (none m was)
  lemma_silent m closed was (stepped chain k n stood now s) =
      let same : k ≡ m = stands_same e k m stood was in
      subst (λ (x : Channel). IsSilent h e x v) same
      (lemma_by_label k (ap (λ (x : Channel). x.end.state) same ∙ closed) stood chain (told_of h) refl n now s)

pub lemma_closed_is_silent : ClosedIsSilent
lemma_closed_is_silent genesis happened world before h old new moment e mine is closed =
    let chains : ℕ = length genesis.chains in
    let inv = inv_of_past genesis before old moment.past in
    let step = did_step genesis old h new moment.step in
    lemma_silent chains old h new inv step e mine closed (stands old e mine is) (at_end chains old h new inv step e)
