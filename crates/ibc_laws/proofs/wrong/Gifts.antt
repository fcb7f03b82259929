-- One block is ended, and an escrow has an atom more.
use Rattle.std.proofs.Common.{◌≡◌, ◌<◌, true, refl, List, [], ◌∷◌, arith}
use Rattle.std.specs.Prelude.{IsTrue}
use Rattle.std.specs.List.{list_all}
use Rattle.ibc_machine.specs.declared.event.Event.{Event}
use Rattle.ibc_machine.specs.chain.Genesis.{GenesisState, start, is_allowed}
use Rattle.ibc_machine.specs.chain.Machine.{World}
use Rattle.ibc_machine.specs.ledger.Ledgers.{is_typed}
use Rattle.ibc_machine.proofs.Computing.{computing}
use Rattle.ibc_machine.proofs.Scripts.{a, atom, a_and_b, block}
use Rattle.ibc_laws.specs.Tokens.{supply_at}
use Rattle.ibc_laws.specs.Runs.{Machine, WorldStep, steps_by, world_by, FirstLaws, HoldsOf, IsRefusedByAlone, Supplies}
use Rattle.ibc_laws.specs.WrongPackets.{machine_comparing}
use Rattle.ibc_laws.specs.WrongTokens.{machine_with_gifts, SupplyGrew}
use Rattle.ibc_laws.proofs.wrong.EachEnd.{each_end}
use Rattle.ibc_laws.proofs.wrong.TestedFirst.{keeps_first_laws, lemma_first_laws, has_no_tokens, lemma_no_tokens}
use Rattle.ibc_laws.proofs.wrong.TestedAll.{passes_all_but, lemma_others_hold}

abbrev genesis : GenesisState
genesis = a_and_b

abbrev machine : Machine
machine = machine_with_gifts genesis

abbrev events : List Event
events = block a ∷ []

abbrev steps : List WorldStep
steps = steps_by machine (start genesis) events

abbrev world : World
world = world_by machine (start genesis) events

lemma_allowed : IsTrue (is_allowed genesis)
unfolding computing
lemma_allowed = refl

lemma_typed : IsTrue (list_all is_typed events)
unfolding computing
lemma_typed = refl

lemma_first : keeps_first_laws steps world ≡ true
unfolding computing machine_comparing machine_with_gifts
lemma_first = refl

lemma_none : each_end world has_no_tokens ≡ true
unfolding computing machine_comparing machine_with_gifts
lemma_none = refl

lemma_laws : FirstLaws steps world
lemma_laws = lemma_first_laws steps world lemma_first (lemma_no_tokens world lemma_none)

-- ---- the other laws

lemma_pass : passes_all_but Supplies genesis steps world ≡ true
unfolding computing machine_comparing machine_with_gifts
lemma_pass = refl

-- ---- the law that fails

lemma_grew : supply_at (start genesis) 0 atom < supply_at world 0 atom
unfolding computing machine_comparing machine_with_gifts
lemma_grew =
    let old : supply_at (start genesis) 0 atom ≡ 1000 = refl in
    let new : supply_at world 0 atom ≡ 1001 = refl in
    omega arith

lemma_fails : ¬ (HoldsOf Supplies genesis steps world)
lemma_fails all = let same = all.stays 0 atom refl in let grew = lemma_grew in absurd (omega arith)

pub lemma_gifts : IsRefusedByAlone Supplies machine_with_gifts SupplyGrew
lemma_gifts = record {
  genesis = genesis;
  allowed = lemma_allowed;
  events = events;
  typed = lemma_typed;
  first_laws = lemma_laws;
  fails = lemma_fails;
  so = record { chain = 0; denom = atom; base = refl; grew = lemma_grew };
  others = lemma_others_hold Supplies genesis steps world lemma_pass;
}
