-- A packet is refused over a limit, another for a bad receiver, and the one's acknowledgement is taken as the other's.
use Rattle.std.proofs.Common.{◌≡◌, ℕ, ◌+◌, ◌^◌, true, false, refl, ap, sym, subst, List, [], ◌∷◌, ◌++◌, arith, Contains, Some, codes}
use Rattle.std.specs.Prelude.{IsTrue}
use Rattle.std.specs.List.{list_all}
use Rattle.ibc_ids.specs.Texts.{Text, same_text}
use Rattle.ibc_wire.specs.declared.packet.Packet.{Packet}
use Rattle.ibc_machine.specs.declared.event.Event.{Event}
use Rattle.ibc_machine.specs.chain.Genesis.{GenesisState, start, is_allowed}
use Rattle.ibc_machine.specs.chain.Machine.{World}
use Rattle.ibc_machine.specs.ics20.TokenData.{error}
use Rattle.ibc_machine.specs.ledger.Ledgers.{is_typed}
use Rattle.ibc_machine.specs.promises.Histories.{Happened, End, ack_written}
use Rattle.ibc_machine.specs.promises.Peers.{are_peers}
use Rattle.ibc_machine.proofs.Computing.{computing}
use Rattle.ibc_machine.proofs.Scripts.{a, b, alice, bob, atom, atom_from_a, a_and_b, chain_with, for_tokens, block, update}
use Rattle.ibc_machine.proofs.Openings.{opening}
use Rattle.ibc_machine.proofs.PacketScripts.{send, recv, ack, tokens}
use Rattle.ibc_laws.specs.Packets.{taken_acks}
use Rattle.ibc_laws.specs.Tokens.{transfer_end}
use Rattle.ibc_laws.specs.Runs.{Machine, WorldStep, steps_by, world_by, all_of, FirstLaws, IsRefusedByAlone, TakenAsWritten}
use Rattle.ibc_laws.specs.WrongPackets.{machine_taking_any_ack, TakesWhatWasNotWritten}
use Rattle.ibc_laws.proofs.wrong.TypedEvents.{typed}
use Rattle.ibc_laws.proofs.wrong.EachEnd.{each_pair}
use Rattle.ibc_laws.proofs.wrong.TestedFirst.{keeps_first_laws, lemma_first_laws, IsConserved, are_the_two, lemma_two_ends}
use Rattle.ibc_laws.proofs.wrong.TestedAll.{passes_all_but, lemma_others_hold}

abbrev much : ℕ
much = 2 ^ 127

abbrev genesis : GenesisState
genesis = record a_and_b { chains = chain_with ((alice, atom, much + 100) ∷ []) ∷ chain_with [] ∷ [] }

abbrev machine : Machine
machine = machine_taking_any_ack genesis

-- no user's name
abbrev nobody : Text
nobody = codes "no body"

-- it came to bob and went back to alice, and isn't settled yet: so there is no room for as much again
abbrev came : Packet
came = tokens a b 1 alice much atom bob

abbrev returned : Packet
returned = tokens b a 1 bob much atom_from_a alice

abbrev again : Packet
again = tokens a b 2 alice much atom bob

abbrev for_nobody : Packet
for_nobody = tokens a b 3 alice 100 atom nobody

abbrev bad_receiver : Text
bad_receiver = error (codes "bad receiver")

abbrev events : List Event
events = typed (opening a b for_tokens 0 0 ++ send a alice much atom bob ∷ block a ∷ update b a 4 ∷ recv b came 4
    ∷ send b bob much atom_from_a alice ∷ block b ∷ update a b 3 ∷ recv a returned 3
    ∷ send a alice much atom bob ∷ send a alice 100 atom nobody ∷ block a ∷ update b a 5 ∷ recv b again 5 ∷ recv b for_nobody 5
    ∷ block b ∷ update a b 4 ∷ ack a again bad_receiver 4 ∷ ack a for_nobody bad_receiver 4 ∷ [])

abbrev steps : List WorldStep
steps = steps_by machine (start genesis) events

abbrev happened : List Happened
happened = all_of steps

abbrev world : World
world = world_by machine (start genesis) events

abbrev here : End
here = transfer_end 0 a.channel

abbrev there_ : End
there_ = transfer_end 1 b.channel

lemma_allowed : IsTrue (is_allowed genesis)
unfolding computing
lemma_allowed = refl

lemma_typed : IsTrue (list_all is_typed events)
unfolding computing
lemma_typed = refl

lemma_conserved : IsConserved world here there_
unfolding computing machine_taking_any_ack
lemma_conserved denom over = refl

lemma_conserved_back : IsConserved world there_ here
unfolding computing machine_taking_any_ack
lemma_conserved_back denom over = refl

lemma_first : keeps_first_laws steps world ≡ true
unfolding computing machine_taking_any_ack
lemma_first = refl

lemma_two : each_pair world (are_the_two here there_) ≡ true
unfolding computing machine_taking_any_ack
lemma_two = refl

lemma_laws : FirstLaws steps world
lemma_laws = lemma_first_laws steps world lemma_first (lemma_two_ends world here there_ lemma_two lemma_conserved lemma_conserved_back)

-- ---- the other laws

lemma_pass : passes_all_but TakenAsWritten genesis steps world ≡ true
unfolding computing machine_taking_any_ack
lemma_pass = refl

-- ---- the law that fails

lemma_peers : IsTrue (are_peers world here there_)
unfolding computing machine_taking_any_ack
lemma_peers = refl

lemma_took_it : Contains (taken_acks here happened) (again, bad_receiver)
unfolding computing machine_taking_any_ack
lemma_took_it =
    let two : taken_acks here happened ≡ (again, bad_receiver) ∷ (for_nobody, bad_receiver) ∷ [] = refl in
    subst (λ xs. Contains xs (again, bad_receiver)) (sym two) (0, omega arith, refl)

lemma_not_written : ¬ (ack_written there_ happened 2 ≡ Some bad_receiver)
unfolding computing machine_taking_any_ack
lemma_not_written is =
    let written : ack_written there_ happened 2 ≡ Some (error (codes "over limit")) = refl in
    let same : error (codes "over limit") ≡ bad_receiver = cc (written, is) in
    let differ : same_text (error (codes "over limit")) bad_receiver ≡ false = refl in
    let alike : same_text bad_receiver bad_receiver ≡ true = refl in
    absurd (cc (differ, alike, ap (λ x. same_text x bad_receiver) same))

pub lemma_unwritten : IsRefusedByAlone TakenAsWritten machine_taking_any_ack TakesWhatWasNotWritten
lemma_unwritten = record {
  genesis = genesis;
  allowed = lemma_allowed;
  events = events;
  typed = lemma_typed;
  first_laws = lemma_laws;
  fails = λ all. lemma_not_written (all here there_ again bad_receiver lemma_peers lemma_took_it);
  so = record { e = here; f = there_; packet = again; ack = bad_receiver; peers = lemma_peers; took_it = lemma_took_it; not_written = lemma_not_written };
  others = lemma_others_hold TakenAsWritten genesis steps world lemma_pass;
}
