-- A note is received in the block whose height is its timeout.
use Rattle.std.proofs.Common.{◌≡◌, ◌<◌, true, refl, ap, List, [], ◌∷◌, ◌++◌, arith, Contains, Some, inl, inr, codes, slice_get}
use Rattle.std.specs.Prelude.{IsTrue}
use Rattle.std.specs.List.{list_all}
use Rattle.ibc_wire.specs.declared.packet.Packet.{Packet}
use Rattle.ibc_machine.specs.declared.event.Event.{Event}
use Rattle.ibc_machine.specs.chain.Records.{MachineChain}
use Rattle.ibc_machine.specs.chain.Genesis.{GenesisState, start, is_allowed}
use Rattle.ibc_machine.specs.chain.Handlers.{working_height}
use Rattle.ibc_machine.specs.chain.Machine.{World}
use Rattle.ibc_machine.specs.ledger.Ledgers.{is_typed}
use Rattle.ibc_machine.proofs.Computing.{computing}
use Rattle.ibc_machine.proofs.Scripts.{a, b, a_and_b, for_notes, block, update}
use Rattle.ibc_machine.proofs.Openings.{opening}
use Rattle.ibc_machine.proofs.PacketScripts.{recv, note_until, noted_until}
use Rattle.ibc_laws.specs.Ends.{IsInTime, ReceivesInTime}
use Rattle.ibc_laws.specs.Runs.{Machine, WorldStep, steps_by, world_by, FirstLaws, IsRefusedByAlone, ReceivedInTime}
use Rattle.ibc_laws.specs.WrongPackets.{machine_comparing, machine_without_clock, ReceivesLate}
use Rattle.ibc_laws.proofs.basics.ListPlaces.{some_is}
use Rattle.ibc_laws.proofs.wrong.TypedEvents.{typed}
use Rattle.ibc_laws.proofs.wrong.LastStep.{last_step, lemma_last_step}
use Rattle.ibc_laws.proofs.wrong.EachEnd.{chain_in, each_end}
use Rattle.ibc_laws.proofs.wrong.TestedFirst.{keeps_first_laws, lemma_first_laws, has_no_tokens, lemma_no_tokens}
use Rattle.ibc_laws.proofs.wrong.TestedAll.{passes_all_but, lemma_others_hold}

abbrev genesis : GenesisState
genesis = a_and_b

abbrev machine : Machine
machine = machine_without_clock genesis

-- b works at height 3
abbrev late : Packet
late = noted_until 3 0 1 (codes "n1")

abbrev last : Event
last = recv b late 4

abbrev earlier : List Event
earlier = typed (opening a b for_notes 0 0 ++ note_until 3 0 a (codes "n1") ∷ block a ∷ update b a 4 ∷ [])

abbrev events : List Event
events = earlier ++ last ∷ []

abbrev steps : List WorldStep
steps = steps_by machine (start genesis) events

abbrev world : World
world = world_by machine (start genesis) events

abbrev before : World
before = world_by machine (start genesis) earlier

abbrev step : WorldStep
step = last_step machine (start genesis) earlier last

lemma_allowed : IsTrue (is_allowed genesis)
unfolding computing
lemma_allowed = refl

lemma_typed : IsTrue (list_all is_typed events)
unfolding computing
lemma_typed = refl

lemma_first : keeps_first_laws steps world ≡ true
unfolding computing machine_comparing machine_without_clock
lemma_first = refl

lemma_none : each_end world has_no_tokens ≡ true
unfolding computing machine_comparing machine_without_clock
lemma_none = refl

lemma_laws : FirstLaws steps world
lemma_laws = lemma_first_laws steps world lemma_first (lemma_no_tokens world lemma_none)

-- ---- the other laws

lemma_pass : passes_all_but ReceivedInTime genesis steps world ≡ true
unfolding computing machine_comparing machine_without_clock
lemma_pass = refl

-- ---- the law that fails

lemma_among : Contains steps step
lemma_among = lemma_last_step machine (start genesis) earlier last

lemma_too_late : ¬ (ReceivesInTime step.0 step.1)
unfolding computing machine_comparing machine_without_clock
lemma_too_late received =
    let in_time : IsInTime before 1 late = received in
    let there : slice_get before 1 ≡ Some (chain_in before 1) = refl in
    let same : in_time.chain ≡ chain_in before 1 = some_is in_time.there there in
    let height : working_height in_time.chain ≡ 3 = ap (λ (c : MachineChain). working_height c) same in
    elim (in_time.height) [
      | inl none ↦ absurd (let three : 3 ≡ 0 = none in omega arith)
      | inr ahead ↦ absurd (let low : working_height in_time.chain < 3 = ahead in omega arith)
    ]

pub lemma_late : IsRefusedByAlone ReceivedInTime machine_without_clock ReceivesLate
lemma_late = record {
  genesis = genesis;
  allowed = lemma_allowed;
  events = events;
  typed = lemma_typed;
  first_laws = lemma_laws;
  fails = λ all. lemma_too_late (all step lemma_among);
  so = record { step = step; among = lemma_among; late = lemma_too_late };
  others = lemma_others_hold ReceivedInTime genesis steps world lemma_pass;
}
