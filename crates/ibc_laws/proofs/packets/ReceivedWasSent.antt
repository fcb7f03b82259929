-- Whatever an end received, its peer sent, equal in every field: a receive has seen the peer's commitment, which is
-- that of the packet that the peer sent under the number.
use Rattle.std.proofs.Common.{◌≡◌, ℕ, sym, subst, List, [], ◌∷◌, ◌++◌, length, inl, inr, arith, Contains}
use Rattle.std.proofs.lemmas.List.Elements.{Contains-append_cases, Contains-append_left}
use Rattle.ibc_wire.specs.declared.packet.Packet.{Packet}
use Rattle.ibc_machine.specs.chain.Genesis.{GenesisState}
use Rattle.ibc_machine.specs.chain.Machine.{World}
use Rattle.ibc_machine.specs.promises.Histories.{Happened, End, sent_packets, received_packets}
use Rattle.ibc_machine.specs.promises.Laws.{IsPast}
use Rattle.ibc_laws.specs.Packets.{ReceivedWasSent}
use Rattle.ibc_laws.proofs.basics.Lists.{lemma_contains_one, lemma_got_contains}
use Rattle.ibc_laws.proofs.steps.MachineSteps.{Stepped, stepped}
use Rattle.ibc_laws.proofs.steps.AtEnds.{at_end}
use Rattle.ibc_laws.proofs.steps.Happenings.{Receiving, received_nothing, received_one, receiving, Sending, sent_nothing, sent_one, sending}
use Rattle.ibc_laws.proofs.steps.Induction.{past_has}
use Rattle.ibc_laws.proofs.peers.Invariant.{Inv, stepped_grows}
use Rattle.ibc_laws.proofs.peers.Peers.{Peers, peers_on, peers_flip, one_peer_only, true_peers}
use Rattle.ibc_laws.proofs.peers.FirstLaw.{peers_of}
use Rattle.ibc_laws.proofs.packets.ReceiptsAndTimeouts.{sender_seen}
use Rattle.ibc_laws.proofs.packets.ReceivedInOrder.{toward, lemma_sent_so}
use Rattle.ibc_laws.proofs.packets.ThirdLaw.{Ordering, ordering_start, ordering_step, lemma_sent_to_peer}

-- the packet was sent by the end's peer
pub record WasSent (hs : List Happened) (w : World) (f : End) (p : Packet) : Type 0 where
  pub other : End
  pub peers : Peers w f other
  pub was_sent : Contains (sent_packets other (toward f) hs) p

pub record AllSent (hs : List Happened) (w : World) : Type 0 where
  pub ordering : Ordering hs w
  pub each : (f : End) (p : Packet) → Contains (received_packets f hs) p → WasSent hs w f p

module _ (chains : ℕ) (w : World) (hs : List Happened) (h : Happened) (v : World) (step : Stepped chains w h v) (was : AllSent hs w) where
  abbrev inv : Inv w
  inv = was.ordering.inv

  -- what was sent stays sent
  lemma_still_sent : (e f : End) (p : Packet) → Contains (sent_packets e (toward f) hs) p → Contains (sent_packets e (toward f) (hs ++ h ∷ [])) p
  lemma_still_sent e f p has = go (sending chains w hs h v e inv (at_end chains w h v inv step e))
    where
      go : Sending chains w hs h v e → Contains (sent_packets e (toward f) (hs ++ h ∷ [])) p
      go (sent_nothing same before) = subst (λ ps. Contains ps p) (sym (same (toward f))) has
      go (sent_one c m stood now more) =
          subst (λ ps. Contains ps p) (sym (more (toward f))) (Contains-append_left (sent_packets e (toward f) hs) _ p has)

  lemma_on : (f : End) (p : Packet) → WasSent hs w f p → WasSent (hs ++ h ∷ []) v f p
  lemma_on f p x = record {
    other = x.other;
    peers = (peers_on f x.other (stepped_grows chains w h v inv step) x.peers).peers;
    was_sent = lemma_still_sent x.other f p x.was_sent;
  }

  lemma_each_after : (f : End) (p : Packet) → Contains (received_packets f (hs ++ h ∷ [])) p → Receiving chains w hs h v f → WasSent (hs ++ h ∷ []) v f p
  lemma_each_after f p has (received_nothing same acks) = lemma_on f p (was.each f p (subst (λ ps. Contains ps p) same has))
  lemma_each_after f p has (received_one q ack m stood now r told more) =
      elim (Contains-append_cases (received_packets f hs) (q ∷ []) p (subst (λ ps. Contains ps p) more has)) [
        | inl old ↦ lemma_on f p (was.each f p old)
        | inr new ↦ (
            let grows = stepped_grows chains w h v inv step in
            let seen = sender_seen w v inv grows chains f m stood q r in
            let nth = lemma_sent_so w v inv grows hs was.ordering.sent chains f m stood q r in
            lemma_on f p (subst (WasSent hs w f) (lemma_contains_one q p new) (record {
              other = seen.peer.other;
              peers = peers_of w f m stood seen.peer;
              was_sent = lemma_got_contains (sent_packets seen.peer.other (toward f) hs) nth.index q nth.got;
            }))
            )
      ]

  lemma_all_sent_step : AllSent (hs ++ h ∷ []) v
  lemma_all_sent_step = record {
    ordering = ordering_step chains hs w h v was.ordering step;
    each = λ f p has. lemma_each_after f p has (receiving chains w hs h v f (at_end chains w h v inv step f));
  }

pub lemma_all_sent : (genesis : GenesisState) (happened : List Happened) (world : World) → IsPast genesis happened world → AllSent happened world
lemma_all_sent genesis = past_has genesis AllSent
    (λ happened old h new typed was step. lemma_all_sent_step (length genesis.chains) old happened h new (stepped genesis old h new step) was)
    (record { ordering = ordering_start genesis; each = λ f p has. absurd (let lt = has.1 in omega arith) })

pub lemma_received_was_sent : ReceivedWasSent
lemma_received_was_sent genesis happened world e f past are_peers mine p is has =
    let peers = true_peers world e f are_peers in
    let x = (lemma_all_sent genesis happened world past).each f p has in
    let same : x.other ≡ e = one_peer_only world f x.other e x.peers (peers_flip e f peers) in
    subst (λ ps. Contains ps p) (sym (lemma_sent_to_peer world e f peers mine is happened))
    (subst (λ (g : End). Contains (sent_packets g (toward f) happened) p) same x.was_sent)
