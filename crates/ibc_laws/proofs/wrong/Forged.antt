-- A packet is received with another receiver than alice wrote, who gets the tokens.
use Rattle.std.proofs.Common.{◌≡◌, ◌+◌, true, false, refl, ap, sym, subst, List, [], ◌∷◌, ◌++◌, arith, Contains, Some, if◌then◌else◌}
use Rattle.std.specs.Prelude.{IsTrue}
use Rattle.std.specs.List.{list_all}
use Rattle.ibc_ids.specs.Texts.{same_text}
use Rattle.ibc_wire.specs.declared.packet.Packet.{Packet}
use Rattle.ibc_machine.specs.declared.event.Event.{Event}
use Rattle.ibc_machine.specs.chain.Genesis.{GenesisState, start, is_allowed}
use Rattle.ibc_machine.specs.chain.Machine.{World}
use Rattle.ibc_machine.specs.ledger.Ledgers.{is_typed}
use Rattle.ibc_machine.specs.promises.Histories.{Happened, End, sent_packets, received_packets}
use Rattle.ibc_machine.specs.promises.Peers.{end_at, are_peers}
use Rattle.ibc_machine.specs.promises.Totals.{escrow_balance, vouchers, flight, denom_with_hop}
use Rattle.ibc_machine.proofs.Computing.{computing}
use Rattle.ibc_machine.proofs.Scripts.{a, b, alice, bob, carol, atom, a_and_b, for_tokens, block, update}
use Rattle.ibc_machine.proofs.Openings.{opening}
use Rattle.ibc_machine.proofs.PacketScripts.{send, recv, tokens, there}
use Rattle.ibc_laws.specs.Tokens.{transfer_end}
use Rattle.ibc_laws.specs.Runs.{Machine, WorldStep, steps_by, world_by, all_of, FirstLaws, IsRefusedByAlone, ReceivedAsSent}
use Rattle.ibc_laws.specs.WrongPackets.{machine_comparing, alike_in_tokens, ReceivesWhatWasNotSent}
use Rattle.ibc_laws.proofs.basics.Lists.{lemma_contains_one}
use Rattle.ibc_laws.proofs.wrong.TypedEvents.{typed}
use Rattle.ibc_laws.proofs.wrong.EachEnd.{mine_in, each_pair}
use Rattle.ibc_laws.proofs.wrong.TestedFirst.{keeps_first_laws, lemma_first_laws, IsConserved, lemma_entry_of, are_the_two, lemma_two_ends}
use Rattle.ibc_laws.proofs.wrong.TestedAll.{passes_all_but, lemma_others_hold}

abbrev genesis : GenesisState
genesis = a_and_b

abbrev machine : Machine
machine = machine_comparing alike_in_tokens genesis

-- alice's 100 atom, for carol
abbrev for_carol : Packet
for_carol = tokens a b 1 alice 100 atom carol

abbrev events : List Event
events = typed (opening a b for_tokens 0 0 ++ send a alice 100 atom bob ∷ block a ∷ update b a 4 ∷ recv b for_carol 4 ∷ [])

abbrev steps : List WorldStep
steps = steps_by machine (start genesis) events

abbrev happened : List Happened
happened = all_of steps

abbrev world : World
world = world_by machine (start genesis) events

abbrev here : End
here = transfer_end 0 a.channel

abbrev there_ : End
there_ = transfer_end 1 b.channel

lemma_allowed : IsTrue (is_allowed genesis)
unfolding computing
lemma_allowed = refl

lemma_typed : IsTrue (list_all is_typed events)
unfolding computing
lemma_typed = refl

lemma_conserved : IsConserved world here there_
unfolding computing machine_comparing
lemma_conserved denom over =
    let held : escrow_balance world here denom ≡ (if same_text atom denom then 100 else 0) = lemma_entry_of denom atom 100 in
    let made : vouchers world there_ denom ≡ 0 + (if same_text atom denom then 100 else 0) = refl in
    let out : flight world here there_ denom ≡ 0 = refl in
    let back : flight world there_ here (denom_with_hop there_ denom) ≡ 0 = refl in
    omega arith

lemma_conserved_back : IsConserved world there_ here
unfolding computing machine_comparing
lemma_conserved_back denom over = refl

lemma_first : keeps_first_laws steps world ≡ true
unfolding computing machine_comparing
lemma_first = refl

lemma_two : each_pair world (are_the_two here there_) ≡ true
unfolding computing machine_comparing
lemma_two = refl

lemma_laws : FirstLaws steps world
lemma_laws = lemma_first_laws steps world lemma_first (lemma_two_ends world here there_ lemma_two lemma_conserved lemma_conserved_back)

-- ---- the other laws

lemma_pass : passes_all_but ReceivedAsSent genesis steps world ≡ true
unfolding computing machine_comparing
lemma_pass = refl

-- ---- the law that fails

lemma_peers : IsTrue (are_peers world here there_)
unfolding computing machine_comparing
lemma_peers = refl

lemma_own : end_at world here ≡ Some (mine_in world here)
unfolding computing machine_comparing
lemma_own = refl

lemma_received_it : Contains (received_packets there_ happened) for_carol
unfolding computing machine_comparing
lemma_received_it = let one : received_packets there_ happened ≡ for_carol ∷ [] = refl in subst (λ ps. Contains ps for_carol) (sym one) (0, omega arith, refl)

lemma_not_sent : ¬ (Contains (sent_packets here (mine_in world here) happened) for_carol)
unfolding computing machine_comparing
lemma_not_sent has =
    let one : sent_packets here (mine_in world here) happened ≡ there ∷ [] = refl in
    let same : there ≡ for_carol = lemma_contains_one there for_carol (subst (λ ps. Contains ps for_carol) one has) in
    let differ : same_text there.payload for_carol.payload ≡ false = refl in
    let alike : same_text there.payload there.payload ≡ true = refl in
    absurd (cc (differ, alike, ap (λ (p : Packet). same_text there.payload p.payload) same))

pub lemma_forged : IsRefusedByAlone ReceivedAsSent (machine_comparing alike_in_tokens) ReceivesWhatWasNotSent
lemma_forged = record {
  genesis = genesis;
  allowed = lemma_allowed;
  events = events;
  typed = lemma_typed;
  first_laws = lemma_laws;
  fails = λ all. lemma_not_sent (all here there_ (mine_in world here) for_carol lemma_peers lemma_own lemma_received_it);
  so = record { e = here; f = there_; mine = mine_in world here; packet = for_carol; peers = lemma_peers; own = lemma_own; received_it = lemma_received_it; not_sent = lemma_not_sent };
  others = lemma_others_hold ReceivedAsSent genesis steps world lemma_pass;
}
