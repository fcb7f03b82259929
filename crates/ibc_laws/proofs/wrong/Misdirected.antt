-- What is received for bob is paid to carol.
use Rattle.std.proofs.Common.{◌≡◌, ℕ, ◌+◌, true, refl, List, [], ◌∷◌, ◌++◌, arith, Contains, if◌then◌else◌}
use Rattle.std.specs.Prelude.{IsTrue}
use Rattle.std.specs.List.{list_all}
use Rattle.ibc_ids.specs.Texts.{same_text}
use Rattle.ibc_machine.specs.declared.event.Event.{Event}
use Rattle.ibc_machine.specs.chain.Genesis.{GenesisState, start, is_allowed}
use Rattle.ibc_machine.specs.chain.Machine.{World}
use Rattle.ibc_machine.specs.ledger.Ledgers.{is_typed}
use Rattle.ibc_machine.specs.promises.Histories.{End}
use Rattle.ibc_machine.specs.promises.Totals.{escrow_balance, vouchers, flight, denom_with_hop}
use Rattle.ibc_machine.proofs.Computing.{computing}
use Rattle.ibc_machine.proofs.Scripts.{a, b, alice, bob, atom, atom_from_a, a_and_b, for_tokens, block, update}
use Rattle.ibc_machine.proofs.Openings.{opening}
use Rattle.ibc_machine.proofs.PacketScripts.{send, recv, there}
use Rattle.ibc_laws.specs.Tokens.{transfer_end, balance_at, amount_paid_by}
use Rattle.ibc_laws.specs.Payments.{amount_received_by, amount_refunded_to}
use Rattle.ibc_laws.specs.Runs.{Machine, WorldStep, steps_by, world_by, FirstLaws, HoldsOf, IsRefusedByAlone, Payments}
use Rattle.ibc_laws.specs.WrongPackets.{machine_comparing}
use Rattle.ibc_laws.specs.WrongTokens.{machine_telling, for_carol, AnotherIsPaid}
use Rattle.ibc_laws.proofs.wrong.TypedEvents.{typed}
use Rattle.ibc_laws.proofs.wrong.LastStep.{last_step, lemma_last_step}
use Rattle.ibc_laws.proofs.wrong.EachEnd.{each_pair}
use Rattle.ibc_laws.proofs.wrong.TestedFirst.{keeps_first_laws, lemma_first_laws, IsConserved, lemma_entry_of, are_the_two, lemma_two_ends}
use Rattle.ibc_laws.proofs.wrong.TestedTokens.{senders_pay, lemma_only_senders_pay}
use Rattle.ibc_laws.proofs.wrong.TestedAll.{passes_all_but, lemma_others_hold}

abbrev genesis : GenesisState
genesis = a_and_b

abbrev machine : Machine
machine = machine_telling for_carol genesis

abbrev last : Event
last = recv b there 4

abbrev earlier : List Event
earlier = typed (opening a b for_tokens 0 0 ++ send a alice 100 atom bob ∷ block a ∷ update b a 4 ∷ [])

abbrev events : List Event
events = earlier ++ last ∷ []

abbrev steps : List WorldStep
steps = steps_by machine (start genesis) events

abbrev world : World
world = world_by machine (start genesis) events

abbrev before : World
before = world_by machine (start genesis) earlier

abbrev step : WorldStep
step = last_step machine (start genesis) earlier last

abbrev here : End
here = transfer_end 0 a.channel

abbrev there_ : End
there_ = transfer_end 1 b.channel

lemma_allowed : IsTrue (is_allowed genesis)
unfolding computing
lemma_allowed = refl

lemma_typed : IsTrue (list_all is_typed events)
unfolding computing
lemma_typed = refl

lemma_conserved : IsConserved world here there_
unfolding computing machine_comparing machine_telling
lemma_conserved denom over =
    let held : escrow_balance world here denom ≡ (if same_text atom denom then 100 else 0) = lemma_entry_of denom atom 100 in
    let made : vouchers world there_ denom ≡ 0 + (if same_text atom denom then 100 else 0) = refl in
    let out : flight world here there_ denom ≡ 0 = refl in
    let back : flight world there_ here (denom_with_hop there_ denom) ≡ 0 = refl in
    omega arith

lemma_conserved_back : IsConserved world there_ here
unfolding computing machine_comparing machine_telling
lemma_conserved_back denom over = refl

lemma_first : keeps_first_laws steps world ≡ true
unfolding computing machine_comparing machine_telling
lemma_first = refl

lemma_two : each_pair world (are_the_two here there_) ≡ true
unfolding computing machine_comparing machine_telling
lemma_two = refl

lemma_laws : FirstLaws steps world
lemma_laws = lemma_first_laws steps world lemma_first (lemma_two_ends world here there_ lemma_two lemma_conserved lemma_conserved_back)

-- ---- the other laws

lemma_pass : passes_all_but Payments genesis steps world ≡ true
unfolding computing machine_comparing machine_telling
lemma_pass = refl

-- ---- the law that fails

lemma_among : Contains steps step
lemma_among = lemma_last_step machine (start genesis) earlier last

abbrev IsPaid : ℕ → Type 0
IsPaid due = balance_at step.2 1 bob atom_from_a + amount_paid_by 1 bob atom_from_a step.1 ≡ balance_at before 1 bob atom_from_a + due

lemma_due : amount_received_by before 1 bob atom_from_a step.1 + amount_refunded_to before 1 bob atom_from_a step.1 ≡ 100
unfolding computing machine_comparing machine_telling
lemma_due = refl

lemma_not_paid : ¬ (IsPaid 100)
unfolding computing machine_comparing machine_telling
lemma_not_paid paid =
    let new : balance_at step.2 1 bob atom_from_a ≡ 0 = refl in
    let old : balance_at before 1 bob atom_from_a ≡ 0 = refl in
    let own : amount_paid_by 1 bob atom_from_a step.1 ≡ 0 = refl in
    absurd (omega arith)

lemma_fails : ¬ (HoldsOf Payments genesis steps world)
lemma_fails all =
    let named = all.who_is_paid step 1 bob atom_from_a lemma_among refl in
    let due = lemma_due in
    absurd (lemma_not_paid (omega arith))

lemma_senders : list_all senders_pay steps ≡ true
unfolding computing machine_comparing machine_telling
lemma_senders = refl

pub lemma_misdirected : IsRefusedByAlone Payments (machine_telling for_carol) AnotherIsPaid
lemma_misdirected = record {
  genesis = genesis;
  allowed = lemma_allowed;
  events = events;
  typed = lemma_typed;
  first_laws = lemma_laws;
  fails = lemma_fails;
  so = record { step = step; among = lemma_among; chain = 1; user = bob; denom = atom_from_a; is_one = refl; due = 100; is_due = lemma_due; not_paid = lemma_not_paid; who_pays = lemma_only_senders_pay steps lemma_senders };
  others = lemma_others_hold Payments genesis steps world lemma_pass;
}
