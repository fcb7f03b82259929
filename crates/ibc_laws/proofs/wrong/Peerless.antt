-- A note is sent and received over a channel that isn't OPEN at either end.
use Rattle.std.proofs.Common.{Bool, ◌≡◌, true, false, refl, sym, subst, List, [], ◌∷◌, ◌++◌, take, arith, Contains, Some, inl, inr, codes, not}
use Rattle.std.specs.Prelude.{IsTrue}
use Rattle.std.specs.List.{list_all}
use Rattle.ibc_wire.specs.declared.packet.Packet.{Packet}
use Rattle.ibc_machine.specs.declared.event.Event.{Event}
use Rattle.ibc_machine.specs.chain.Records.{Channel}
use Rattle.ibc_machine.specs.chain.Genesis.{GenesisState, start, is_allowed}
use Rattle.ibc_machine.specs.chain.Machine.{World}
use Rattle.ibc_machine.specs.ics04.Channels.{is_established}
use Rattle.ibc_machine.specs.ledger.Ledgers.{is_typed}
use Rattle.ibc_machine.specs.promises.Histories.{Happened, End, received_packets}
use Rattle.ibc_machine.specs.promises.Peers.{end_at, are_peers}
use Rattle.ibc_machine.proofs.Computing.{computing}
use Rattle.ibc_machine.proofs.Scripts.{a, b, a_and_b, for_notes, block, update}
use Rattle.ibc_machine.proofs.Openings.{opening}
use Rattle.ibc_machine.proofs.PacketScripts.{recv, note, noted}
use Rattle.ibc_laws.specs.StoredNotes.{note_end}
use Rattle.ibc_laws.specs.Runs.{Machine, WorldStep, steps_by, world_by, all_of, FirstLaws, HoldsOf, IsRefusedByAlone, TakenOfPeer}
use Rattle.ibc_laws.specs.WrongPackets.{machine_comparing}
use Rattle.ibc_laws.specs.WrongEnds.{machine_opening, is_unopened, ReceivesOfNobody}
use Rattle.ibc_laws.proofs.basics.PassedTests.{either, no_longer}
use Rattle.ibc_laws.proofs.peers.Peers.{stands_at, true_peers}
use Rattle.ibc_laws.proofs.wrong.TypedEvents.{typed}
use Rattle.ibc_laws.proofs.wrong.EachEnd.{each_end, lemma_each_end}
use Rattle.ibc_laws.proofs.wrong.TestedFirst.{keeps_first_laws, lemma_first_laws, has_no_tokens, lemma_no_tokens}
use Rattle.ibc_laws.proofs.wrong.TestedAll.{passes_all_but, lemma_others_hold}

abbrev genesis : GenesisState
genesis = a_and_b

abbrev machine : Machine
machine = machine_opening is_unopened genesis

abbrev of_nobody : Packet
of_nobody = noted 1 (codes "n1")

abbrev events : List Event
events = typed (take 14 (opening a b for_notes 0 0) ++ note a (codes "n1") ∷ block a ∷ update b a 3 ∷ recv b of_nobody 3 ∷ [])

abbrev steps : List WorldStep
steps = steps_by machine (start genesis) events

abbrev happened : List Happened
happened = all_of steps

abbrev world : World
world = world_by machine (start genesis) events

abbrev there_ : End
there_ = note_end 1 b.channel

lemma_allowed : IsTrue (is_allowed genesis)
unfolding computing
lemma_allowed = refl

lemma_typed : IsTrue (list_all is_typed events)
unfolding computing
lemma_typed = refl

lemma_first : keeps_first_laws steps world ≡ true
unfolding computing machine_comparing machine_opening
lemma_first = refl

lemma_none : each_end world has_no_tokens ≡ true
unfolding computing machine_comparing machine_opening
lemma_none = refl

lemma_laws : FirstLaws steps world
lemma_laws = lemma_first_laws steps world lemma_first (lemma_no_tokens world lemma_none)

-- ---- the other laws

lemma_pass : passes_all_but TakenOfPeer genesis steps world ≡ true
unfolding computing machine_comparing machine_opening
lemma_pass = refl

-- ---- the law that fails

abbrev stays_unopened : End → Channel → Bool
stays_unopened e m = not (is_established m)

lemma_unopened : each_end world stays_unopened ≡ true
unfolding computing machine_comparing machine_opening
lemma_unopened = refl

lemma_not_opened : (e : End) (m : Channel) → end_at world e ≡ Some m → is_established m ≡ false
lemma_not_opened e m own = no_longer (is_established m) (lemma_each_end world stays_unopened lemma_unopened e m own)

lemma_no_peers : (e f : End) → ¬ (IsTrue (are_peers world e f))
lemma_no_peers e f peers =
    let p = true_peers world e f peers in
    elim (either (is_established p.mine) (is_established p.theirs) p.established) [
      | inl opened ↦ absurd (cc (opened, lemma_not_opened e p.mine (stands_at world e p.mine p.here)))
      | inr opened ↦ absurd (cc (opened, lemma_not_opened f p.theirs (stands_at world f p.theirs p.there)))
    ]

lemma_received_it : Contains (received_packets there_ happened) of_nobody
unfolding computing machine_comparing machine_opening
lemma_received_it = let one : received_packets there_ happened ≡ of_nobody ∷ [] = refl in subst (λ ps. Contains ps of_nobody) (sym one) (0, omega arith, refl)

lemma_fails : ¬ (HoldsOf TakenOfPeer genesis steps world)
lemma_fails all = let x = all.received there_ of_nobody lemma_received_it in lemma_no_peers there_ x.0 x.1

pub lemma_peerless : IsRefusedByAlone TakenOfPeer (machine_opening is_unopened) ReceivesOfNobody
lemma_peerless = record {
  genesis = genesis;
  allowed = lemma_allowed;
  events = events;
  typed = lemma_typed;
  first_laws = lemma_laws;
  fails = lemma_fails;
  so = record { e = there_; packet = of_nobody; received_it = lemma_received_it; no_peer = λ f. lemma_no_peers there_ f };
  others = lemma_others_hold TakenOfPeer genesis steps world lemma_pass;
}
