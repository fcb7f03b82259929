-- The second note is acknowledged, and the first is not.
use Rattle.std.proofs.Common.{◌≡◌, ℕ, true, refl, ap, List, [], ◌∷◌, ◌++◌, arith, Some, codes}
use Rattle.std.specs.Prelude.{IsTrue}
use Rattle.std.specs.List.{list_all}
use Rattle.ibc_ids.proofs.Texts.{heads_same}
use Rattle.ibc_wire.specs.declared.packet.Packet.{Packet}
use Rattle.ibc_machine.specs.declared.event.Event.{Event}
use Rattle.ibc_machine.specs.chain.Genesis.{GenesisState, start, is_allowed}
use Rattle.ibc_machine.specs.chain.Machine.{World}
use Rattle.ibc_machine.specs.ics04.Packets.{is_ordered}
use Rattle.ibc_machine.specs.ics20.TokenData.{success}
use Rattle.ibc_machine.specs.ledger.Ledgers.{is_typed}
use Rattle.ibc_machine.specs.promises.Histories.{Happened, End, sent_packets, acknowledged_packets}
use Rattle.ibc_machine.specs.promises.Peers.{end_at}
use Rattle.ibc_machine.specs.promises.Laws.{IsBeginning}
use Rattle.ibc_machine.proofs.Computing.{computing}
use Rattle.ibc_machine.proofs.Scripts.{a, b, a_and_b, for_notes, block, update}
use Rattle.ibc_machine.proofs.Openings.{opening}
use Rattle.ibc_machine.proofs.PacketScripts.{recv, ack, note, noted}
use Rattle.ibc_laws.specs.StoredNotes.{note_end}
use Rattle.ibc_laws.specs.Runs.{Machine, WorldStep, steps_by, world_by, all_of, FirstLaws, IsRefusedByAlone, AcknowledgedInOrder}
use Rattle.ibc_laws.specs.WrongPackets.{machine_comparing, machine_acknowledging_any, LeavesOutAnAck}
use Rattle.ibc_laws.proofs.wrong.TypedEvents.{typed}
use Rattle.ibc_laws.proofs.wrong.EachEnd.{mine_in, each_end}
use Rattle.ibc_laws.proofs.wrong.TestedFirst.{keeps_first_laws, lemma_first_laws, has_no_tokens, lemma_no_tokens}
use Rattle.ibc_laws.proofs.wrong.TestedAll.{passes_all_but, lemma_others_hold}

abbrev genesis : GenesisState
genesis = a_and_b

abbrev machine : Machine
machine = machine_acknowledging_any genesis

abbrev first_note : Packet
first_note = noted 1 (codes "n1")

abbrev second_note : Packet
second_note = noted 2 (codes "n2")

abbrev events : List Event
events = typed (opening a b for_notes 0 0 ++ note a (codes "n1") ∷ note a (codes "n2") ∷ block a ∷ update b a 4 ∷ recv b first_note 4
    ∷ recv b second_note 4 ∷ block b ∷ update a b 3 ∷ ack a second_note success 3 ∷ [])

abbrev steps : List WorldStep
steps = steps_by machine (start genesis) events

abbrev happened : List Happened
happened = all_of steps

abbrev world : World
world = world_by machine (start genesis) events

abbrev here : End
here = note_end 0 a.channel

lemma_allowed : IsTrue (is_allowed genesis)
unfolding computing
lemma_allowed = refl

lemma_typed : IsTrue (list_all is_typed events)
unfolding computing
lemma_typed = refl

lemma_first : keeps_first_laws steps world ≡ true
unfolding computing machine_comparing machine_acknowledging_any
lemma_first = refl

lemma_none : each_end world has_no_tokens ≡ true
unfolding computing machine_comparing machine_acknowledging_any
lemma_none = refl

lemma_laws : FirstLaws steps world
lemma_laws = lemma_first_laws steps world lemma_first (lemma_no_tokens world lemma_none)

-- ---- the other laws

lemma_pass : passes_all_but AcknowledgedInOrder genesis steps world ≡ true
unfolding computing machine_comparing machine_acknowledging_any
lemma_pass = refl

-- ---- the law that fails

lemma_own : end_at world here ≡ Some (mine_in world here)
unfolding computing machine_comparing machine_acknowledging_any
lemma_own = refl

lemma_ordered : IsTrue (is_ordered (mine_in world here))
unfolding computing machine_comparing machine_acknowledging_any
lemma_ordered = refl

lemma_no_beginning : ¬ (IsBeginning (acknowledged_packets here happened) (sent_packets here (mine_in world here) happened))
unfolding computing machine_comparing machine_acknowledging_any
lemma_no_beginning begins =
    let front : IsBeginning (second_note ∷ []) (first_note ∷ second_note ∷ []) = begins in
    let same : second_note ≡ first_note = heads_same second_note first_note front.0 (second_note ∷ []) front.1 in
    let number : ◌≡◌ {A = ℕ} 2 1 = ap (λ (p : Packet). p.sequence) same in
    absurd (omega arith)

pub lemma_left_out : IsRefusedByAlone AcknowledgedInOrder machine_acknowledging_any LeavesOutAnAck
lemma_left_out = record {
  genesis = genesis;
  allowed = lemma_allowed;
  events = events;
  typed = lemma_typed;
  first_laws = lemma_laws;
  fails = λ all. lemma_no_beginning (all here (mine_in world here) lemma_own lemma_ordered);
  so = record { e = here; mine = mine_in world here; own = lemma_own; ordered = lemma_ordered; no_beginning = lemma_no_beginning };
  others = lemma_others_hold AcknowledgedInOrder genesis steps world lemma_pass;
}
