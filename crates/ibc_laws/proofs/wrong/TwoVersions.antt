-- The ends of a channel are opened with two versions.
use Rattle.std.proofs.Common.{◌≡◌, true, false, refl, List, ◌∷◌, ◌++◌, take, drop, Some}
use Rattle.std.specs.Prelude.{IsTrue}
use Rattle.std.specs.List.{list_all}
use Rattle.ibc_ids.specs.Texts.{same_text}
use Rattle.ibc_ids.proofs.Texts.{same_text_from}
use Rattle.ibc_machine.specs.declared.event.Event.{Event}
use Rattle.ibc_machine.specs.chain.Genesis.{GenesisState, start, is_allowed}
use Rattle.ibc_machine.specs.chain.Machine.{World}
use Rattle.ibc_machine.specs.ledger.Ledgers.{is_typed}
use Rattle.ibc_machine.specs.promises.Histories.{End}
use Rattle.ibc_machine.specs.promises.Peers.{end_at, are_peers}
use Rattle.ibc_machine.proofs.Computing.{computing}
use Rattle.ibc_machine.proofs.Scripts.{a, b, a_and_b, for_tokens, for_several}
use Rattle.ibc_machine.proofs.Openings.{opening, try_channel}
use Rattle.ibc_laws.specs.Tokens.{transfer_end}
use Rattle.ibc_laws.specs.Runs.{Machine, WorldStep, steps_by, world_by, FirstLaws, IsRefusedByAlone, PeersAgree}
use Rattle.ibc_laws.specs.WrongPackets.{machine_comparing}
use Rattle.ibc_laws.specs.WrongEnds.{alike_but_version, PeersDisagree}
use Rattle.ibc_laws.proofs.wrong.TypedEvents.{typed}
use Rattle.ibc_laws.proofs.wrong.EachEnd.{mine_in, each_pair}
use Rattle.ibc_laws.proofs.wrong.TestedFirst.{keeps_first_laws, lemma_first_laws, IsConserved, are_the_two, lemma_two_ends}
use Rattle.ibc_laws.proofs.wrong.TestedAll.{passes_all_but, lemma_others_hold}

abbrev genesis : GenesisState
genesis = a_and_b

abbrev machine : Machine
machine = machine_comparing alike_but_version genesis

abbrev events : List Event
events = typed (take 13 (opening a b for_tokens 0 0) ++ try_channel b a for_several 2 ∷ drop 14 (opening a b for_tokens 0 0))

abbrev steps : List WorldStep
steps = steps_by machine (start genesis) events

abbrev world : World
world = world_by machine (start genesis) events

abbrev here : End
here = transfer_end 0 a.channel

abbrev there_ : End
there_ = transfer_end 1 b.channel

lemma_allowed : IsTrue (is_allowed genesis)
unfolding computing
lemma_allowed = refl

lemma_typed : IsTrue (list_all is_typed events)
unfolding computing
lemma_typed = refl

lemma_conserved : IsConserved world here there_
unfolding computing machine_comparing
lemma_conserved denom over = refl

lemma_conserved_back : IsConserved world there_ here
unfolding computing machine_comparing
lemma_conserved_back denom over = refl

lemma_first : keeps_first_laws steps world ≡ true
unfolding computing machine_comparing
lemma_first = refl

lemma_two : each_pair world (are_the_two here there_) ≡ true
unfolding computing machine_comparing
lemma_two = refl

lemma_laws : FirstLaws steps world
lemma_laws = lemma_first_laws steps world lemma_first (lemma_two_ends world here there_ lemma_two lemma_conserved lemma_conserved_back)

-- ---- the other laws

lemma_pass : passes_all_but PeersAgree genesis steps world ≡ true
unfolding computing machine_comparing
lemma_pass = refl

-- ---- the law that fails

lemma_peers : IsTrue (are_peers world here there_)
unfolding computing machine_comparing
lemma_peers = refl

lemma_own : end_at world here ≡ Some (mine_in world here)
unfolding computing machine_comparing
lemma_own = refl

lemma_other : end_at world there_ ≡ Some (mine_in world there_)
unfolding computing machine_comparing
lemma_other = refl

lemma_differ : ¬ ((mine_in world here).end.version ≡ (mine_in world there_).end.version)
unfolding computing machine_comparing
lemma_differ same =
    let one : for_tokens.version ≡ for_several.version = same in
    let differ : same_text for_tokens.version for_several.version ≡ false = refl in
    absurd (cc (differ, same_text_from for_tokens.version for_several.version one))

pub lemma_two_versions : IsRefusedByAlone PeersAgree (machine_comparing alike_but_version) PeersDisagree
lemma_two_versions = record {
  genesis = genesis;
  allowed = lemma_allowed;
  events = events;
  typed = lemma_typed;
  first_laws = lemma_laws;
  fails = λ all. lemma_differ (all here there_ (mine_in world here) (mine_in world there_) lemma_peers lemma_own lemma_other).version;
  so = record { e = here; f = there_; mine = mine_in world here; theirs = mine_in world there_; peers = lemma_peers; own = lemma_own; other = lemma_other; differ = lemma_differ };
  others = lemma_others_hold PeersAgree genesis steps world lemma_pass;
}
