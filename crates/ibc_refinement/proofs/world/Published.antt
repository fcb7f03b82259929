-- A list that has each ledger's entries in their order, and whose blocks are of the chains that published,
-- publishes what the ledgers published.
use Rattle.std.proofs.Common.{◌≡◌, ℕ, List, length, map, filter, drop, refl, sym, ap, ◌∙◌, subst, Some, option_map, unwrap_or, slice_get}
use Rattle.std.proofs.lemmas.Option.{slice_get-map}
use Rattle.ibc_ids.specs.declared.publication.Publication.{Publication}
use Rattle.ibc_machine.specs.declared.entry.Entry.{Entry}
use Rattle.ibc_machine.specs.chain.Records.{MachineChain}
use Rattle.ibc_machine.specs.chain.Genesis.{GenesisState, start, starting_chain}
use Rattle.ibc_machine.specs.ledger.Replay.{starting_state, empty_chain}
use Rattle.ibc_machine.specs.ledger.Ledgers.{Ledger, published_as, state_of}
use Rattle.ibc_machine.specs.ledger.Merge.{is_of_chain, published_along}
use Rattle.ibc_machine.specs.promises.Worlds.{entries}
use Rattle.ibc_refinement.proofs.ChangedPlaces.{get_there}
use Rattle.ibc_refinement.proofs.Typed.{IsTyped}
use Rattle.ibc_refinement.proofs.EntrySteps.{ledger_of}
use Rattle.ibc_refinement.proofs.RunStates.{AreOfWorld, ledger_from}
use Rattle.ibc_refinement.proofs.MergedRun.{AreWithin, typed_start}
use Rattle.ibc_refinement.proofs.PublishedLists.{published_list}
use Rattle.ibc_refinement.proofs.PublishedAlong.{AllPublishing}
use Rattle.ibc_refinement.specs.World.{block_chains}

module _ (genesis : GenesisState) (ledgers : List Ledger) (publications : List Publication) (are : AreOfWorld genesis ledgers publications) where
  abbrev times : List ℕ
  times = map (λ (c : MachineChain). c.time) (start genesis)

  all_publishing : (list : List Entry) → ((k : ℕ) (ledger : Ledger) → slice_get ledgers k ≡ Some ledger → filter (is_of_chain k) list ≡ entries ledger) → AllPublishing genesis ledgers publications are times publications list
  all_publishing list each k history seen there =
      let L = ledger_of genesis k history seen in
      let f = ledger_from genesis ledgers are.of k L there in
      let c = get_there genesis.chains k f.1.number in
      let first : slice_get (start genesis) k ≡ Some (starting_chain c.0) = slice_get-map starting_chain genesis.chains k ∙ ap (option_map starting_chain) c.1 in
      let chain : (starting_state genesis k).chain ≡ starting_chain c.0 = ap (λ o. unwrap_or o empty_chain) first in
      let none : length (starting_state genesis k).chain.committed ≡ 0 = ap (λ (x : MachineChain). length x.committed) chain in
      record {
        state = starting_state genesis k;
        left = history;
        remaining = sym (each k L there);
        own = f.1.entries;
        ends = refl;
        typed = subst (λ (x : MachineChain). IsTyped x.records.core) (sym chain) typed_start;
        time = slice_get-map (λ (c : MachineChain). c.time) (start genesis) k ∙ ap (option_map (λ (c : MachineChain). c.time)) (first ∙ ap Some (sym chain));
        upcoming = sym (are.table.own k L there) ∙ f.1.published ∙ ap (λ n. map (published_as k) (drop n (state_of L).chain.committed)) (sym none);
      }

  pub published : (list : List Entry) → ((k : ℕ) (ledger : Ledger) → slice_get ledgers k ≡ Some ledger → filter (is_of_chain k) list ≡ entries ledger) → AreWithin (length ledgers) list
      → block_chains list ≡ map (λ (p : Publication). p.chain) publications → published_along times list ≡ publications
  published list each within turns = published_list genesis ledgers publications are list times publications (all_publishing list each) within turns
