-- A note is received at an end that is CLOSED.
use Rattle.std.proofs.Common.{◌≡◌, true, refl, sym, ◌∙◌, List, [], ◌∷◌, ◌++◌, Contains, Some, codes}
use Rattle.std.specs.Prelude.{IsTrue}
use Rattle.std.specs.List.{list_all}
use Rattle.ibc_wire.specs.declared.packet.Packet.{Packet}
use Rattle.ibc_wire.specs.declared.records.ChannelState.TheVariants.{Closed}
use Rattle.ibc_machine.specs.declared.event.Event.{Event}
use Rattle.ibc_machine.specs.chain.Genesis.{GenesisState, start, is_allowed}
use Rattle.ibc_machine.specs.chain.Machine.{World}
use Rattle.ibc_machine.specs.ledger.Ledgers.{is_typed}
use Rattle.ibc_machine.specs.promises.Histories.{End, received_packets}
use Rattle.ibc_machine.specs.promises.Peers.{end_at}
use Rattle.ibc_machine.proofs.Computing.{computing}
use Rattle.ibc_machine.proofs.Scripts.{a, b, a_and_b, for_notes, block, update}
use Rattle.ibc_machine.proofs.Openings.{opening, close_channel}
use Rattle.ibc_machine.proofs.PacketScripts.{recv, note, noted}
use Rattle.ibc_laws.specs.StoredNotes.{note_end}
use Rattle.ibc_laws.specs.Runs.{Machine, WorldStep, steps_by, world_by, FirstLaws, HoldsOf, IsRefusedByAlone, ClosedIsSilent}
use Rattle.ibc_laws.specs.WrongPackets.{machine_comparing}
use Rattle.ibc_laws.specs.WrongEnds.{machine_opening, is_closed, ReceivesClosed}
use Rattle.ibc_laws.proofs.wrong.TypedEvents.{typed}
use Rattle.ibc_laws.proofs.wrong.LastStep.{last_step, lemma_last_step}
use Rattle.ibc_laws.proofs.wrong.EachEnd.{mine_in, each_end}
use Rattle.ibc_laws.proofs.wrong.TestedFirst.{keeps_first_laws, lemma_first_laws, has_no_tokens, lemma_no_tokens}
use Rattle.ibc_laws.proofs.wrong.TestedAll.{passes_all_but, lemma_others_hold}

abbrev genesis : GenesisState
genesis = a_and_b

abbrev machine : Machine
machine = machine_opening is_closed genesis

abbrev sent_before : Packet
sent_before = noted 1 (codes "n1")

abbrev last : Event
last = recv b sent_before 4

abbrev earlier : List Event
earlier = typed (opening a b for_notes 0 0 ++ note a (codes "n1") ∷ block a ∷ update b a 4 ∷ close_channel b for_notes ∷ [])

abbrev events : List Event
events = earlier ++ last ∷ []

abbrev steps : List WorldStep
steps = steps_by machine (start genesis) events

abbrev world : World
world = world_by machine (start genesis) events

abbrev before : World
before = world_by machine (start genesis) earlier

abbrev step : WorldStep
step = last_step machine (start genesis) earlier last

abbrev there_ : End
there_ = note_end 1 b.channel

lemma_allowed : IsTrue (is_allowed genesis)
unfolding computing
lemma_allowed = refl

lemma_typed : IsTrue (list_all is_typed events)
unfolding computing
lemma_typed = refl

lemma_first : keeps_first_laws steps world ≡ true
unfolding computing machine_comparing machine_opening
lemma_first = refl

lemma_none : each_end world has_no_tokens ≡ true
unfolding computing machine_comparing machine_opening
lemma_none = refl

lemma_laws : FirstLaws steps world
lemma_laws = lemma_first_laws steps world lemma_first (lemma_no_tokens world lemma_none)

-- ---- the other laws

lemma_pass : passes_all_but ClosedIsSilent genesis steps world ≡ true
unfolding computing machine_comparing machine_opening
lemma_pass = refl

-- ---- the law that fails

lemma_among : Contains steps step
lemma_among = lemma_last_step machine (start genesis) earlier last

lemma_own : end_at before there_ ≡ Some (mine_in before there_)
unfolding computing machine_comparing machine_opening
lemma_own = refl

lemma_closed : (mine_in before there_).end.state ≡ Closed
unfolding computing machine_comparing machine_opening
lemma_closed = refl

lemma_received_it : received_packets there_ (step.1 ∷ []) ≡ sent_before ∷ []
unfolding computing machine_comparing machine_opening
lemma_received_it = refl

lemma_fails : ¬ (HoldsOf ClosedIsSilent genesis steps world)
lemma_fails all =
    let silent = all step lemma_among there_ (mine_in before there_) lemma_own lemma_closed in
    let none : sent_before ∷ [] ≡ [] = sym lemma_received_it ∙ silent.receives in
    absurd (cc none)

pub lemma_woken : IsRefusedByAlone ClosedIsSilent (machine_opening is_closed) ReceivesClosed
lemma_woken = record {
  genesis = genesis;
  allowed = lemma_allowed;
  events = events;
  typed = lemma_typed;
  first_laws = lemma_laws;
  fails = lemma_fails;
  so = record { step = step; among = lemma_among; e = there_; mine = mine_in before there_; own = lemma_own; closed = lemma_closed; packet = sent_before; received_it = lemma_received_it };
  others = lemma_others_hold ClosedIsSilent genesis steps world lemma_pass;
}
