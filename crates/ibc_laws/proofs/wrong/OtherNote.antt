-- A note is received, and another one is kept.
use Rattle.std.proofs.Common.{◌≡◌, true, false, refl, ap, sym, subst, List, [], ◌∷◌, ◌++◌, arith, Contains, codes}
use Rattle.std.specs.Prelude.{IsTrue}
use Rattle.std.specs.List.{list_all}
use Rattle.ibc_ids.specs.Texts.{Text, same_text}
use Rattle.ibc_machine.specs.declared.event.Event.{Event}
use Rattle.ibc_machine.specs.chain.Genesis.{GenesisState, start, is_allowed}
use Rattle.ibc_machine.specs.chain.Machine.{World}
use Rattle.ibc_machine.specs.ledger.Ledgers.{is_typed}
use Rattle.ibc_machine.specs.promises.Histories.{Happened, End, received_packets}
use Rattle.ibc_machine.proofs.Computing.{computing}
use Rattle.ibc_machine.proofs.Scripts.{a, b, a_and_b, for_notes, block, update}
use Rattle.ibc_machine.proofs.Openings.{opening}
use Rattle.ibc_machine.proofs.PacketScripts.{recv, note, noted}
use Rattle.ibc_laws.specs.StoredNotes.{note_end, notes_at, payloads}
use Rattle.ibc_laws.specs.Runs.{Machine, WorldStep, steps_by, world_by, all_of, FirstLaws, HoldsOf, IsRefusedByAlone, Notes}
use Rattle.ibc_laws.specs.WrongPackets.{machine_comparing}
use Rattle.ibc_laws.specs.WrongTokens.{machine_telling, with_other_note, KeepsAnotherNote}
use Rattle.ibc_laws.proofs.basics.Lists.{lemma_contains_one}
use Rattle.ibc_laws.proofs.wrong.TypedEvents.{typed}
use Rattle.ibc_laws.proofs.wrong.EachEnd.{each_end}
use Rattle.ibc_laws.proofs.wrong.TestedFirst.{keeps_first_laws, lemma_first_laws, has_no_tokens, lemma_no_tokens}
use Rattle.ibc_laws.proofs.wrong.TestedAll.{passes_all_but, lemma_others_hold}

abbrev genesis : GenesisState
genesis = a_and_b

abbrev machine : Machine
machine = machine_telling with_other_note genesis

abbrev hello : Text
hello = codes "hello"

abbrev forged : Text
forged = codes "forged"

abbrev events : List Event
events = typed (opening a b for_notes 0 0 ++ note a hello ∷ block a ∷ update b a 4 ∷ recv b (noted 1 hello) 4 ∷ [])

abbrev steps : List WorldStep
steps = steps_by machine (start genesis) events

abbrev happened : List Happened
happened = all_of steps

abbrev world : World
world = world_by machine (start genesis) events

abbrev there_ : End
there_ = note_end 1 b.channel

lemma_allowed : IsTrue (is_allowed genesis)
unfolding computing
lemma_allowed = refl

lemma_typed : IsTrue (list_all is_typed events)
unfolding computing
lemma_typed = refl

lemma_first : keeps_first_laws steps world ≡ true
unfolding computing machine_comparing machine_telling
lemma_first = refl

lemma_none : each_end world has_no_tokens ≡ true
unfolding computing machine_comparing machine_telling
lemma_none = refl

lemma_laws : FirstLaws steps world
lemma_laws = lemma_first_laws steps world lemma_first (lemma_no_tokens world lemma_none)

-- ---- the other laws

lemma_pass : passes_all_but Notes genesis steps world ≡ true
unfolding computing machine_comparing machine_telling
lemma_pass = refl

-- ---- the law that fails

lemma_kept : notes_at world 1 b.channel ≡ forged ∷ []
unfolding computing machine_comparing machine_telling
lemma_kept = refl

lemma_came : payloads (received_packets there_ happened) ≡ hello ∷ []
unfolding computing machine_comparing machine_telling
lemma_came = refl

lemma_never_came : ¬ (Contains (payloads (received_packets there_ happened)) forged)
lemma_never_came has =
    let same : hello ≡ forged = lemma_contains_one hello forged (subst (λ xs. Contains xs forged) lemma_came has) in
    let differ : same_text hello forged ≡ false = refl in
    let alike : same_text forged forged ≡ true = refl in
    absurd (cc (differ, alike, ap (λ x. same_text x forged) same))

lemma_is_kept : Contains (notes_at world 1 b.channel) forged
lemma_is_kept = subst (λ xs. Contains xs forged) (sym lemma_kept) (0, omega arith, refl)

lemma_fails : ¬ (HoldsOf Notes genesis steps world)
lemma_fails all = absurd (lemma_never_came (subst (λ xs. Contains xs forged) (all.are_received 1 b.channel) lemma_is_kept))

pub lemma_other_note : IsRefusedByAlone Notes (machine_telling with_other_note) KeepsAnotherNote
lemma_other_note = record {
  genesis = genesis;
  allowed = lemma_allowed;
  events = events;
  typed = lemma_typed;
  first_laws = lemma_laws;
  fails = lemma_fails;
  so = record { chain = 1; channel = b.channel; note = forged; kept = lemma_is_kept; never_came = lemma_never_came };
  others = lemma_others_hold Notes genesis steps world lemma_pass;
}
