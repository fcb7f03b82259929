-- A note times out at its sender with other words than were sent.
use Rattle.std.proofs.Common.{◌≡◌, true, false, refl, ap, sym, subst, List, [], ◌∷◌, ◌++◌, arith, Contains, Some, codes}
use Rattle.std.specs.Prelude.{IsTrue}
use Rattle.std.specs.List.{list_all}
use Rattle.ibc_ids.specs.Texts.{Text, same_text}
use Rattle.ibc_wire.specs.declared.packet.Packet.{Packet}
use Rattle.ibc_machine.specs.declared.event.Event.{Event}
use Rattle.ibc_machine.specs.chain.Records.{Channel}
use Rattle.ibc_machine.specs.chain.Genesis.{GenesisState, start, is_allowed}
use Rattle.ibc_machine.specs.chain.Machine.{World}
use Rattle.ibc_machine.specs.ledger.Ledgers.{is_typed}
use Rattle.ibc_machine.specs.promises.Histories.{Happened, End, packet_sent, timed_out_packets}
use Rattle.ibc_machine.specs.promises.Peers.{end_at}
use Rattle.ibc_machine.proofs.Computing.{computing}
use Rattle.ibc_machine.proofs.Scripts.{a, b, a_and_b, for_notes, block, update}
use Rattle.ibc_machine.proofs.Openings.{opening}
use Rattle.ibc_machine.proofs.PacketScripts.{time_out, note_until, noted_until}
use Rattle.ibc_laws.specs.Ends.{IsSentFrom}
use Rattle.ibc_laws.specs.StoredNotes.{note_end}
use Rattle.ibc_laws.specs.Runs.{Machine, WorldStep, steps_by, world_by, all_of, FirstLaws, IsRefusedByAlone, SettledAsSent}
use Rattle.ibc_laws.specs.WrongPackets.{machine_comparing, machine_reading_numbers, SettlesWhatWasNotSent}
use Rattle.ibc_laws.proofs.basics.ListPlaces.{some_is}
use Rattle.ibc_laws.proofs.wrong.TypedEvents.{typed}
use Rattle.ibc_laws.proofs.wrong.EachEnd.{mine_in, each_end}
use Rattle.ibc_laws.proofs.wrong.TestedFirst.{keeps_first_laws, lemma_first_laws, has_no_tokens, lemma_no_tokens}
use Rattle.ibc_laws.proofs.wrong.TestedAll.{passes_all_but, lemma_others_hold}

abbrev genesis : GenesisState
genesis = a_and_b

abbrev machine : Machine
machine = machine_reading_numbers genesis

abbrev written : Text
written = codes "n1"

abbrev other : Text
other = codes "n2"

-- what was sent, and what is timed out
abbrev as_sent : Packet
as_sent = noted_until 3 0 1 written

abbrev reworded : Packet
reworded = noted_until 3 0 1 other

abbrev events : List Event
events = typed (opening a b for_notes 0 0 ++ note_until 3 0 a written ∷ block b ∷ update a b 3 ∷ time_out a reworded 1 3 ∷ [])

abbrev steps : List WorldStep
steps = steps_by machine (start genesis) events

abbrev happened : List Happened
happened = all_of steps

abbrev world : World
world = world_by machine (start genesis) events

abbrev here : End
here = note_end 0 a.channel

lemma_allowed : IsTrue (is_allowed genesis)
unfolding computing
lemma_allowed = refl

lemma_typed : IsTrue (list_all is_typed events)
unfolding computing
lemma_typed = refl

lemma_first : keeps_first_laws steps world ≡ true
unfolding computing machine_comparing machine_reading_numbers
lemma_first = refl

lemma_none : each_end world has_no_tokens ≡ true
unfolding computing machine_comparing machine_reading_numbers
lemma_none = refl

lemma_laws : FirstLaws steps world
lemma_laws = lemma_first_laws steps world lemma_first (lemma_no_tokens world lemma_none)

-- ---- the other laws

lemma_pass : passes_all_but SettledAsSent genesis steps world ≡ true
unfolding computing machine_comparing machine_reading_numbers
lemma_pass = refl

-- ---- the law that fails

lemma_own : end_at world here ≡ Some (mine_in world here)
unfolding computing machine_comparing machine_reading_numbers
lemma_own = refl

lemma_timed_out_it : Contains (timed_out_packets here happened) reworded
unfolding computing machine_comparing machine_reading_numbers
lemma_timed_out_it = let one : timed_out_packets here happened ≡ reworded ∷ [] = refl in subst (λ ps. Contains ps reworded) (sym one) (0, omega arith, refl)

lemma_not_sent : ¬ (IsSentFrom here happened world reworded)
unfolding computing machine_comparing machine_reading_numbers
lemma_not_sent x =
    let own : x.0 ≡ mine_in world here = some_is x.1 lemma_own in
    let said : packet_sent here (mine_in world here) happened 1 ≡ Some reworded = subst (λ (m : Channel). packet_sent here m happened 1 ≡ Some reworded) own x.2 in
    let was : packet_sent here (mine_in world here) happened 1 ≡ Some as_sent = refl in
    let same : reworded ≡ as_sent = some_is said was in
    let never : true ≡ false = ap (λ (p : Packet). same_text other p.payload) same in
    absurd (cc never)

pub lemma_reworded : IsRefusedByAlone SettledAsSent machine_reading_numbers SettlesWhatWasNotSent
lemma_reworded = record {
  genesis = genesis;
  allowed = lemma_allowed;
  events = events;
  typed = lemma_typed;
  first_laws = lemma_laws;
  fails = λ all. lemma_not_sent (all.timed_out here reworded lemma_timed_out_it);
  so = record { e = here; packet = reworded; timed_out_it = lemma_timed_out_it; not_sent = lemma_not_sent };
  others = lemma_others_hold SettledAsSent genesis steps world lemma_pass;
}
