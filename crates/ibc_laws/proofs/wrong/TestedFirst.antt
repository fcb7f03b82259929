-- The four laws in a computed run, with what follows from the fourth, by tests that compute. That an escrow equals vouchers
-- and flight is of every denomination, so it is shown of each run on its own.
use Rattle.std.proofs.Common.{◌≡◌, ℕ, Bool, true, false, refl, ap, sym, ◌∙◌, subst, List, [], ◌∷◌, ◌++◌, Option, Some, None, inl, inr, ◌+◌, ◌==◌, ◌&&◌, ◌||◌, not, nat_le, nat_eq, eqb-true, leb-true, unwrap_or, if◌then◌else◌, Contains}
use Rattle.std.specs.List.{IsDistinct, list_all}
use Rattle.std.specs.Option.{option_map_or, option_and_then}
use Rattle.ibc_ids.specs.Texts.{Text, same_text, text_cmp}
use Rattle.ibc_ids.specs.Maps.{at}
use Rattle.ibc_ids.specs.declared.refusal.Refusal.TheVariants.{Poor}
use Rattle.ibc_ids.proofs.Texts.{text_same, same_text_itself, same_text_from}
use Rattle.ibc_wire.specs.declared.packet.Packet.{Packet}
use Rattle.ibc_wire.specs.declared.token.Token.{Token}
use Rattle.ibc_wire.specs.declared.messages.Message.TheVariants as message
use Rattle.ibc_machine.specs.declared.event.Event.{Event}
use Rattle.ibc_machine.specs.declared.event.Event.TheVariants as event
use Rattle.ibc_machine.specs.declared.reply.Reply.TheVariants as reply
use Rattle.ibc_machine.specs.chain.Records.{Channel, is_one_of}
use Rattle.ibc_machine.specs.chain.Machine.{World}
use Rattle.ibc_machine.specs.ics04.Channels.{is_established}
use Rattle.ibc_machine.specs.ics04.Packets.{is_ordered}
use Rattle.ibc_machine.specs.ics20.TokenData.{Data, data_of}
use Rattle.ibc_machine.specs.ics20.Bank.{balance, escrow}
use Rattle.ibc_machine.specs.ics20.Transfers.{transfer_port, came_over, without_hop}
use Rattle.ibc_machine.specs.promises.Histories.{Happened, End, sent_packets, received_packets, acknowledged_packets, timed_out_packets, sequences}
use Rattle.ibc_machine.specs.promises.Peers.{are_peers}
use Rattle.ibc_machine.specs.promises.Totals.{balances_of, escrow_balance, vouchers, flight, denom_with_hop}
use Rattle.ibc_machine.specs.promises.Laws.{HasOnePeer, IsExactlyOnce, settles}
use Rattle.ibc_machine.proofs.FiniteMaps.{by_text, found_in_with, at-with_same}
use Rattle.ibc_laws.specs.Payments.{data_at}
use Rattle.ibc_laws.specs.Runs.{WorldStep, FirstLaws, FindsEnough, all_of}
use Rattle.ibc_laws.proofs.basics.PassedTests.{both, either, implied, no_longer}
use Rattle.ibc_laws.proofs.basics.Lists.{among-contains, contains-among, distinct-none, distinct-push}
use Rattle.ibc_laws.proofs.basics.ListTests.{lemma_passes, is_front, lemma_is_front}
use Rattle.ibc_laws.proofs.peers.Peers.{stands_at, true_peers, one_peer_only}
use Rattle.ibc_laws.proofs.wrong.EachEnd.{each_end, lemma_each_end, each_pair, lemma_of_peers, lemma_at_own, has_a_peer, lemma_has_a_peer}
use Rattle.ibc_laws.proofs.wrong.TestedPackets.{same_packet, lemma_same_packet}

-- ---- one peer

abbrev pub is_paired : World → End → Channel → Bool
is_paired world e m = not (is_established m) || has_a_peer world e

lemma_one_peer : (world : World) → each_end world (is_paired world) ≡ true → HasOnePeer world
lemma_one_peer world passed = record {
  one = λ e m own established. lemma_has_a_peer world e
      (implied (is_established m) (has_a_peer world e) established (lemma_each_end world (is_paired world) passed e m own));
  no_two = λ e f g one other. one_peer_only world e f g (true_peers world e f one) (true_peers world e g other);
}

-- ---- each packet once

abbrev pub are_apart : List ℕ → Bool
are_apart [] = true
are_apart (n ∷ ns) = not (is_one_of ns n) && are_apart ns

lemma_apart : (ns : List ℕ) → are_apart ns ≡ true → IsDistinct nat_eq ns
lemma_apart [] apart = distinct-none
lemma_apart (n ∷ ns) apart =
    let parts = both (not (is_one_of ns n)) (are_apart ns) apart in
    distinct-push [] ns n (lemma_apart ns parts.1) (no_longer (is_one_of ns n) parts.0)

abbrev pub are_some_of : List ℕ → List ℕ → Bool
are_some_of ns all = list_all (is_one_of all) ns

abbrev pub are_none_of : List ℕ → List ℕ → Bool
are_none_of ns all = list_all (λ n. not (is_one_of all n)) ns

abbrev pub is_once : List Happened → End → End → Bool
is_once happened e f =
    are_none_of (sequences (timed_out_packets e happened)) (sequences (received_packets f happened))
    && (are_apart (sequences (received_packets f happened))
    && (are_apart (sequences (acknowledged_packets e happened) ++ sequences (timed_out_packets e happened))
    && are_some_of (sequences (acknowledged_packets e happened)) (sequences (received_packets f happened))))

lemma_is_once : (happened : List Happened) (e f : End) → is_once happened e f ≡ true → IsExactlyOnce happened e f
lemma_is_once happened e f passed =
    let gone : List ℕ = sequences (timed_out_packets e happened) in
    let got : List ℕ = sequences (received_packets f happened) in
    let taken : List ℕ = sequences (acknowledged_packets e happened) in
    let a = both (are_none_of gone got) _ passed in
    let b = both (are_apart got) _ a.1 in
    let c = both (are_apart (taken ++ gone)) _ b.1 in
    record {
      not_both = λ n out in_. absurd (cc (no_longer (is_one_of got n) (lemma_passes (λ n. not (is_one_of got n)) gone n a.0 out), among-contains got n in_));
      received_once = lemma_apart got b.0;
      settled_once = lemma_apart (taken ++ gone) c.0;
      acknowledged_received = λ n was. contains-among got n (lemma_passes (is_one_of got) taken n c.1 was);
    }

-- ---- in order, where the channel is

abbrev pub receives_in_order : List Happened → End → Channel → End → Bool
receives_in_order happened e m f = not (is_ordered m) || is_front same_packet (received_packets f happened) (sent_packets e m happened)

abbrev pub keeps_packets : List Happened → End → Channel → End → Channel → Bool
keeps_packets happened e m f n = is_once happened e f && receives_in_order happened e m f

-- ---- no refund is refused

abbrev pub is_not_poor : Happened → Bool
is_not_poor (event, reply.No Poor) = false
is_not_poor _ = true

lemma_none_poor : (happened : List Happened) → list_all is_not_poor happened ≡ true → (event : Event) → settles event ≡ true
    → Contains happened (event, reply.No Poor) → ⊥
lemma_none_poor happened all event settling has = absurd (cc (lemma_passes is_not_poor happened (event, reply.No Poor) all has))

-- ---- no escrow is short at a receive

abbrev pub is_held : World → ℕ → Packet → Token → Bool
is_held world chain p token =
    not (came_over p.source_port p.source_channel token.denom)
    || nat_le token.amount (balance (balances_of world chain) (escrow p.destination_channel) (without_hop p token).denom)

abbrev pub are_held : World → ℕ → Packet → Option Data → Bool
are_held world chain p o = option_map_or (λ (d : Data). list_all (is_held world chain p) d.tokens) o true

abbrev pub finds_enough : WorldStep → Bool
finds_enough (old, (event.Message k (message.RecvPacket m), reply.Ok given), new) =
    not (same_text m.packet.destination_port transfer_port)
    || are_held old k m.packet (data_at old k m.packet.destination_channel m.packet.payload)
finds_enough _ = true

lemma_of_step : (step : WorldStep) → finds_enough step ≡ true → FindsEnough step.0 step.1
lemma_of_step (old, (event.Message k (message.RecvPacket m), reply.Ok given), new) passed = λ token brings over.
    let p : Packet = m.packet in
    let said : data_at old k p.destination_channel p.payload ≡ Some brings.3 =
    ap (λ (o : Option Channel). option_and_then (λ (mine : Channel). data_of mine.end.version p.payload) o) brings.2 ∙ brings.4 in
    let held = implied (same_text p.destination_port transfer_port) (are_held old k p (data_at old k p.destination_channel p.payload))
    (same_text_from p.destination_port transfer_port brings.0) passed in
    let each : list_all (is_held old k p) (brings.3).tokens ≡ true = subst (λ (o : Option Data). are_held old k p o ≡ true) said held in
    leb-true token.amount (balance (balances_of old k) (escrow p.destination_channel) (without_hop p token).denom)
    (implied (came_over p.source_port p.source_channel token.denom) _ over (lemma_passes (is_held old k p) (brings.3).tokens token each brings.5))
lemma_of_step (old, (event.Message k (message.RecvPacket m), reply.No why), new) passed = tt
lemma_of_step (old, (event.Message k _, reply.Ok given), new) passed = tt
lemma_of_step (old, (event.Message k _, reply.No why), new) passed = tt
lemma_of_step (old, (event.Block k t, given), new) passed = tt

-- ---- escrow, vouchers and flight

abbrev pub IsConserved : World → End → End → Type 0
IsConserved w e f = (denom : Text) → came_over e.port e.channel denom ≡ false
    → escrow_balance w e denom ≡ vouchers w f denom + flight w e f denom + flight w f e (denom_with_hop f denom)

abbrev pub AreConserved : World → Type 0
AreConserved world = (e f : End) → are_peers world e f ≡ true → e.port ≡ transfer_port → IsConserved world e f

-- what one entry has of a denomination
pub lemma_entry_of : (denom here : Text) (n : ℕ) → unwrap_or (at text_cmp denom ((here, n) ∷ [])) 0 ≡ (if same_text here denom then n else 0)
lemma_entry_of denom here n = go (same_text here denom) refl (at text_cmp denom ((here, n) ∷ [])) refl
  where
    go : (b : Bool) → same_text here denom ≡ b → (o : Option ℕ) → at text_cmp denom ((here, n) ∷ []) ≡ o → unwrap_or o 0 ≡ (if b then n else 0)
    go true is o found =
        let self : at text_cmp here ((here, n) ∷ []) ≡ Some n = at-with_same by_text here n [] in
        let there = subst (λ d. at text_cmp d ((here, n) ∷ []) ≡ Some n) (text_same here denom is) self in
        ap (λ x. unwrap_or x 0) (sym found ∙ there)
    go false other None found = refl
    go false other (Some k) found = elim (found_in_with by_text here denom n k [] found) [
      | inl same ↦ absurd (cc (other, subst (λ d. same_text here d ≡ true) (sym same.0) (same_text_itself here)))
      | inr never ↦ absurd (cc never)
    ]

-- where no end has tokens there is nothing to show
abbrev pub has_no_tokens : End → Channel → Bool
has_no_tokens e m = not (same_text e.port transfer_port)

pub lemma_no_tokens : (world : World) → each_end world has_no_tokens ≡ true → AreConserved world
lemma_no_tokens world none e f peers port =
    let p = true_peers world e f peers in
    let other = no_longer (same_text e.port transfer_port) (lemma_each_end world has_no_tokens none e p.mine (stands_at world e p.mine p.here)) in
    absurd (cc (other, same_text_from e.port transfer_port port))

-- where two ends are the only peers it is shown of them, either way round
abbrev pub same_end : End → End → Bool
same_end e f = (e.chain == f.chain) && (same_text e.port f.port && same_text e.channel f.channel)

lemma_same_end : (e f : End) → same_end e f ≡ true → e ≡ f
lemma_same_end e f alike =
    let one = both (e.chain == f.chain) _ alike in
    let two = both (same_text e.port f.port) (same_text e.channel f.channel) one.1 in
    let chain = eqb-true e.chain f.chain one.0 in
    let port = text_same e.port f.port two.0 in
    let channel = text_same e.channel f.channel two.1 in
    λ i. record { chain = chain i; port = port i; channel = channel i }

abbrev pub are_the_two : End → End → End → Channel → End → Channel → Bool
are_the_two x y e m f n = (same_end e x && same_end f y) || (same_end e y && same_end f x)

pub lemma_two_ends : (world : World) (x y : End) → each_pair world (are_the_two x y) ≡ true → IsConserved world x y → IsConserved world y x → AreConserved world
lemma_two_ends world x y two there back e f peers port =
    elim (either (same_end e x && same_end f y) (same_end e y && same_end f x) (lemma_of_peers world (are_the_two x y) two e f peers).passed) [
      | inl so ↦ of_two x y there so
      | inr so ↦ of_two y x back so
    ]
  where
    of_two : (g h : End) → IsConserved world g h → (same_end e g && same_end f h) ≡ true → IsConserved world e f
    of_two g h holds so =
        let parts = both (same_end e g) (same_end f h) so in
        let one = lemma_same_end e g parts.0 in
        let other = lemma_same_end f h parts.1 in
        subst (λ (z : End × End). IsConserved world z.0 z.1) (λ i. (sym one i, sym other i)) holds

-- ---- all of them

abbrev pub keeps_first_laws : List WorldStep → World → Bool
keeps_first_laws steps world =
    each_end world (is_paired world)
    && (each_pair world (keeps_packets (all_of steps)) && (list_all is_not_poor (all_of steps) && list_all finds_enough steps))

pub lemma_first_laws : (steps : List WorldStep) (world : World) → keeps_first_laws steps world ≡ true → AreConserved world → FirstLaws steps world
lemma_first_laws steps world passed conserved =
    let a = both (each_end world (is_paired world)) _ passed in
    let b = both (each_pair world (keeps_packets (all_of steps))) _ a.1 in
    let c = both (list_all is_not_poor (all_of steps)) (list_all finds_enough steps) b.1 in
    record {
      one_peer = lemma_one_peer world a.0;
      exactly_once = λ e f peers. lemma_is_once (all_of steps) e f
          (both (is_once (all_of steps) e f) _ (lemma_of_peers world (keeps_packets (all_of steps)) b.0 e f peers).passed).0;
      in_order = λ e f m peers own ordered.
          let kept = both (is_once (all_of steps) e f) (receives_in_order (all_of steps) e m f)
          (lemma_at_own world (keeps_packets (all_of steps)) b.0 e f m peers own).1 in
          lemma_is_front same_packet lemma_same_packet (received_packets f (all_of steps)) (sent_packets e m (all_of steps))
          (implied (is_ordered m) _ ordered kept.1);
      conserved = λ e f denom peers port over. conserved e f peers port denom over;
      never_poor = λ event settling has. lemma_none_poor (all_of steps) c.0 event settling has;
      never_short = λ step among. lemma_of_step step (lemma_passes finds_enough steps step c.1 among);
    }
