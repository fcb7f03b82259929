-- What an end took as acknowledged or timed out is what it sent under that number, equal in every field: the commitment
-- that stood was of the packet's payload and timeouts, and the end names the packet's destination.
use Rattle.std.proofs.Common.{◌≡◌, ℕ, ◌≤◌, ◌==◌, ap, sym, ◌∙◌, subst, List, [], ◌∷◌, ◌++◌, length, Some, inl, inr, arith, Contains}
use Rattle.std.specs.List.{find}
use Rattle.std.proofs.lemmas.List.Elements.{Contains-append_cases}
use Rattle.ibc_ids.specs.Texts.{same_text}
use Rattle.ibc_ids.proofs.Texts.{text_same}
use Rattle.ibc_wire.specs.declared.packet.Packet.{Packet}
use Rattle.ibc_machine.specs.chain.Records.{Channel, commitment_of}
use Rattle.ibc_machine.specs.ics24.Values.{same_optional}
use Rattle.ibc_machine.specs.chain.Genesis.{GenesisState}
use Rattle.ibc_machine.specs.chain.Machine.{World}
use Rattle.ibc_machine.specs.promises.Histories.{Happened, End, packet_from, packet_sent, sent_packets, received_packets, acknowledged_packets, timed_out_packets}
use Rattle.ibc_machine.specs.promises.Laws.{IsPast}
use Rattle.ibc_machine.proofs.SameValues.{same_optional_is}
use Rattle.ibc_laws.specs.Ends.{IsSentFrom, SettledWasSent}
use Rattle.ibc_laws.proofs.basics.Lists.{lemma_contains_one}
use Rattle.ibc_laws.proofs.basics.ListPlaces.{some_is}
use Rattle.ibc_laws.proofs.basics.PassedTests.{both}
use Rattle.ibc_laws.proofs.steps.CoreSteps.{rank, Settles}
use Rattle.ibc_laws.proofs.steps.MachineSteps.{Stepped, stepped}
use Rattle.ibc_laws.proofs.steps.AtEnds.{at_end}
use Rattle.ibc_laws.proofs.steps.Happenings.{Sending, sent_nothing, sent_one, sending, Settling, settled_nothing, acknowledged_one, timed_out_one, settling}
use Rattle.ibc_laws.proofs.steps.Induction.{past_has}
use Rattle.ibc_laws.proofs.peers.Invariant.{Inv, stepped_grows}
use Rattle.ibc_laws.proofs.peers.Peers.{Stands, stands_at, stands_on}
use Rattle.ibc_laws.proofs.packets.SentInOrder.{IsNth, got_in_longer}
use Rattle.ibc_laws.proofs.packets.ReceivedInOrder.{toward}
use Rattle.ibc_laws.proofs.packets.ThirdLaw.{Ordering, ordering_start, ordering_step, sent_toward}
use Rattle.ibc_laws.proofs.packets.SecondLaw.{exactly_once}
use Rattle.ibc_laws.proofs.packets.ReceivedWasSent.{lemma_received_was_sent}
use Rattle.ibc_laws.proofs.ends.SentNumbered.{SentNumbered, lemma_numbered_step, lemma_sent_at, lemma_contains_got, lemma_number_of, lemma_of_number}

-- the end that a packet goes to, whatever its chain
abbrev pub far : Packet → End
far p = record { chain = 0; port = p.destination_port; channel = p.destination_channel }

-- the end is OPEN or CLOSED, names the packet's destination, and sent the packet under its number
pub record SentSo (hs : List Happened) (w : World) (e : End) (p : Packet) : Type 0 where
  pub mine : Channel
  pub here : Stands w e mine
  pub opened : 1 ≤ rank mine.end.state
  pub port : mine.end.peer_port ≡ p.destination_port
  pub channel : mine.end.peer_channel ≡ Some p.destination_channel
  pub nth : IsNth (sent_packets e (toward (far p)) hs) p.sequence p

pub record AllSettled (hs : List Happened) (w : World) : Type 0 where
  pub ordering : Ordering hs w
  pub numbered : (e : End) → SentNumbered hs e
  pub acknowledged : (e : End) (p : Packet) → Contains (acknowledged_packets e hs) p → SentSo hs w e p
  pub timed_out : (e : End) (p : Packet) → Contains (timed_out_packets e hs) p → SentSo hs w e p

module _ (chains : ℕ) (w : World) (hs : List Happened) (h : Happened) (v : World) (step : Stepped chains w h v) (was : AllSettled hs w) where
  abbrev inv : Inv w
  inv = was.ordering.inv

  -- what was sent under a number stays so
  lemma_still_nth : (e : End) (p : Packet) → IsNth (sent_packets e (toward (far p)) hs) p.sequence p
      → IsNth (sent_packets e (toward (far p)) (hs ++ h ∷ [])) p.sequence p
  lemma_still_nth e p nth = go (sending chains w hs h v e inv (at_end chains w h v inv step e))
    where
      go : Sending chains w hs h v e → IsNth (sent_packets e (toward (far p)) (hs ++ h ∷ [])) p.sequence p
      go (sent_nothing same before) = subst (λ ps. IsNth ps p.sequence p) (sym (same (toward (far p)))) nth
      go (sent_one c m stood now more) = subst (λ ps. IsNth ps p.sequence p) (sym (more (toward (far p))))
          (record { index = nth.index; number = nth.number; got = got_in_longer (sent_packets e (toward (far p)) hs) _ nth.index p nth.got })

  lemma_on : (e : End) (p : Packet) → SentSo hs w e p → SentSo (hs ++ h ∷ []) v e p
  lemma_on e p x =
      let on = stands_on e x.mine (stepped_grows chains w h v inv step) x.here in
      record {
        mine = on.now;
        here = on.stands;
        opened = let low = x.opened in let up = on.grows.end.ranks in omega arith;
        port = on.grows.end.peer_port ∙ x.port;
        channel = on.grows.end.named p.destination_channel x.channel;
        nth = lemma_still_nth e p x.nth;
      }

  -- a packet that is settled now
  lemma_now : (e : End) (m : Channel) → Stands w e m → (p : Packet) → Settles e.port e.channel m p → SentSo hs w e p
  lemma_now e m stood p s =
      let tests = both (same_text p.destination_port m.end.peer_port) (same_optional m.end.peer_channel (Some p.destination_channel)) s.peer in
      let nth = (was.ordering.sent e).now m stood p.sequence (commitment_of p) s.committed (toward (far p)) in
      let same : packet_from e (toward (far p)) p.sequence (commitment_of p) ≡ p = (λ i. record {
        sequence = p.sequence;
        timeout_height = p.timeout_height;
        timeout_time = p.timeout_time;
        source_port = sym s.from_port i;
        source_channel = sym s.from_channel i;
        destination_port = p.destination_port;
        destination_channel = p.destination_channel;
        payload = p.payload;
      }) in
      record {
        mine = m;
        here = stood;
        opened = s.settled;
        port = sym (text_same p.destination_port m.end.peer_port tests.0);
        channel = same_optional_is m.end.peer_channel (Some p.destination_channel) tests.1;
        nth = record { index = nth.index; number = nth.number; got = nth.got ∙ ap Some same };
      }

  lemma_one_more : (e : End) (m : Channel) → Stands w e m → (q : Packet) → Settles e.port e.channel m q → (ps : List Packet)
      → ((p : Packet) → Contains ps p → SentSo hs w e p) → (p : Packet) → Contains (ps ++ q ∷ []) p → SentSo (hs ++ h ∷ []) v e p
  lemma_one_more e m stood q s ps old p has = lemma_on e p (elim (Contains-append_cases ps (q ∷ []) p has) [
    | inl before ↦ old p before
    | inr new ↦ subst (SentSo hs w e) (lemma_contains_one q p new) (lemma_now e m stood q s)
  ])

  abbrev AllSo : End → List Packet → Type 0
  AllSo e ps = (p : Packet) → Contains ps p → SentSo (hs ++ h ∷ []) v e p

  lemma_acknowledged_after : (e : End) → Settling chains w hs h v e → AllSo e (acknowledged_packets e (hs ++ h ∷ []))
  lemma_acknowledged_after e (settled_nothing a t before) = subst (AllSo e) (sym a) (λ p has. lemma_on e p (was.acknowledged e p has))
  lemma_acknowledged_after e (acknowledged_one q m stood now s a t) =
      subst (AllSo e) (sym a) (lemma_one_more e m stood q s.settles (acknowledged_packets e hs) (was.acknowledged e))
  lemma_acknowledged_after e (timed_out_one q m stood now s told a t) = subst (AllSo e) (sym a) (λ p has. lemma_on e p (was.acknowledged e p has))

  lemma_timed_out_after : (e : End) → Settling chains w hs h v e → AllSo e (timed_out_packets e (hs ++ h ∷ []))
  lemma_timed_out_after e (settled_nothing a t before) = subst (AllSo e) (sym t) (λ p has. lemma_on e p (was.timed_out e p has))
  lemma_timed_out_after e (acknowledged_one q m stood now s a t) = subst (AllSo e) (sym t) (λ p has. lemma_on e p (was.timed_out e p has))
  lemma_timed_out_after e (timed_out_one q m stood now s told a t) =
      subst (AllSo e) (sym t) (lemma_one_more e m stood q s.settles (timed_out_packets e hs) (was.timed_out e))

  lemma_all_settled_step : AllSettled (hs ++ h ∷ []) v
  lemma_all_settled_step = record {
    ordering = ordering_step chains hs w h v was.ordering step;
    numbered = λ e. lemma_numbered_step chains w hs h v inv step e (was.ordering.sent e) (was.numbered e);
    acknowledged = λ e. lemma_acknowledged_after e (settling chains w hs h v e (at_end chains w h v inv step e));
    timed_out = λ e. lemma_timed_out_after e (settling chains w hs h v e (at_end chains w h v inv step e));
  }

pub lemma_all_settled : (genesis : GenesisState) (happened : List Happened) (world : World) → IsPast genesis happened world → AllSettled happened world
lemma_all_settled genesis = past_has genesis AllSettled
    (λ happened old h new typed was step. lemma_all_settled_step (length genesis.chains) old happened h new (stepped genesis old h new step) was)
    (record {
      ordering = ordering_start genesis;
      numbered = λ e mine i q is. absurd (cc is);
      acknowledged = λ e p has. absurd (let lt = has.1 in omega arith);
      timed_out = λ e p has. absurd (let lt = has.1 in omega arith);
    })

-- ---- the law

-- what an end's own record says of its peer is all that counts
pub lemma_sent_as : (hs : List Happened) (w : World) (e : End) (p : Packet) (x : SentSo hs w e p)
    → sent_packets e x.mine hs ≡ sent_packets e (toward (far p)) hs
lemma_sent_as hs w e p x = sent_toward e (far p) x.mine x.port x.channel hs

lemma_is_sent : (hs : List Happened) (w : World) (e : End) (p : Packet) → SentNumbered hs e → SentSo hs w e p → IsSentFrom e hs w p
lemma_is_sent hs w e p numbered x = (
  x.mine,
  stands_at w e x.mine x.here,
  ap (λ ps. find (λ (q : Packet). q.sequence == p.sequence) ps) (lemma_sent_as hs w e p x)
      ∙ lemma_sent_at hs e numbered (toward (far p)) x.nth.index p x.nth.got,
)

pub lemma_settled_was_sent : SettledWasSent
lemma_settled_was_sent genesis happened world past =
    let all = lemma_all_settled genesis happened world past in
    record {
      acknowledged = λ e p has. lemma_is_sent happened world e p (all.numbered e) (all.acknowledged e p has);
      timed_out = λ e p has. lemma_is_sent happened world e p (all.numbered e) (all.timed_out e p has);
      received = λ e f p peers has.
          let sent = lemma_is_sent happened world e p (all.numbered e) (all.acknowledged e p has) in
          let once = exactly_once genesis happened world e f past peers in
          let it = lemma_of_number (received_packets f happened) p.sequence (once.acknowledged_received p.sequence (lemma_number_of (acknowledged_packets e happened) p has)) in
          let q : Packet = it.0 in
          let place = lemma_contains_got (sent_packets e sent.0 happened) q (lemma_received_was_sent genesis happened world e f past peers sent.0 q sent.1 it.1) in
          let found = lemma_sent_at happened e (all.numbered e) sent.0 place.0 q place.1 in
          let same : q ≡ p = some_is (subst (λ n. packet_sent e sent.0 happened n ≡ Some q) it.2 found) sent.2 in
          subst (λ (x : Packet). Contains (received_packets f happened) x) same it.1;
    }
