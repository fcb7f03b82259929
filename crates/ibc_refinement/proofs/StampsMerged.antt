-- The stamps merge the histories of ledgers of one genesis and one table.
use Rattle.std.proofs.Common.{◌≡◌, ℕ, true, false, cond, nat_lt, List, [], ◌∷◌, length, map, filter, refl, sym, ap, ◌∙◌, Some, option_map, slice_get, arith, drop, unwrap_or, ◌+◌}
use Rattle.std.specs.List.{list_all}
use Rattle.std.proofs.lemmas.List.{length-map}
use Rattle.std.proofs.lemmas.Option.{slice_get-map}
use Rattle.ibc_ids.specs.declared.publication.Publication.{Publication}
use Rattle.ibc_machine.specs.declared.entry.Entry.{Entry}
use Rattle.ibc_machine.specs.chain.Records.{MachineChain}
use Rattle.ibc_machine.specs.chain.Genesis.{GenesisState, start, starting_chain}
use Rattle.ibc_machine.specs.ledger.Replay.{StampedEntry, starting_state, empty_chain}
use Rattle.ibc_machine.specs.ledger.Ledgers.{Ledger, chain_of, published_as, state_of}
use Rattle.ibc_machine.specs.ledger.Merge.{is_of_chain, Merges}
use Rattle.ibc_machine.specs.promises.Worlds.{entries}
use Rattle.ibc_refinement.specs.Stamps.{by_stamps, merged_by_stamps, StampsMerge, StampedIsRun}
use Rattle.ibc_refinement.proofs.ChangedPlaces.{get_within, get_there}
use Rattle.ibc_refinement.proofs.EntrySteps.{ledger_of}
use Rattle.ibc_refinement.proofs.RunStates.{AreOfWorld, IsLedgerAt, ledger_at, ledger_from}
use Rattle.ibc_refinement.proofs.MergedRun.{AreWithin}
use Rattle.ibc_refinement.proofs.Refined.{merged_is_run}
use Rattle.ibc_refinement.proofs.StageLists.{Histories, history_at, own}
use Rattle.ibc_refinement.proofs.MergeStages.{entries_of, own_merged}
use Rattle.ibc_refinement.proofs.MergeReadings.{Reads, merged_reads}
use Rattle.ibc_refinement.proofs.PlacedLedgers.{at_place, typed_begin, staged_start}
use Rattle.ibc_refinement.proofs.PublishedLists.{published_list}
use Rattle.ibc_refinement.proofs.PublishedAlong.{AllPublishing}

own_entries : (k : ℕ) (xs : List StampedEntry) → filter (is_of_chain k) (entries_of xs) ≡ entries_of (own k xs)
own_entries k [] = refl
own_entries k (x ∷ xs) =
    elim (is_of_chain k x.entry) as (λ b. cond b (x.entry ∷ filter (is_of_chain k) (entries_of xs)) (filter (is_of_chain k) (entries_of xs)) ≡ entries_of (cond b (x ∷ own k xs) (own k xs))) [
      | true ↦ ap (λ ys. x.entry ∷ ys) (own_entries k xs)
      | false ↦ own_entries k xs
    ]

module _ (genesis : GenesisState) (ledgers : List Ledger) (publications : List Publication) (are : AreOfWorld genesis ledgers publications) where
  abbrev times : List ℕ
  times = map (λ (c : MachineChain). c.time) (start genesis)

  all_publishing : (list : List Entry) → ((k : ℕ) (at : IsLedgerAt genesis ledgers k) → filter (is_of_chain k) list ≡ entries (ledger_of genesis k at.history at.seen)) → AllPublishing genesis ledgers publications are times publications list
  all_publishing list each k history seen there =
      let L = ledger_of genesis k history seen in
      let f = ledger_from genesis ledgers are.of k L there in
      let t = typed_begin genesis ledgers publications are k f.1.number in
      let c = get_there genesis.chains k f.1.number in
      let first : slice_get (start genesis) k ≡ Some (starting_chain c.0) = slice_get-map starting_chain genesis.chains k ∙ ap (option_map starting_chain) c.1 in
      let chain : (starting_state genesis k).chain ≡ starting_chain c.0 = ap (λ o. unwrap_or o empty_chain) first in
      let at : IsLedgerAt genesis ledgers k = record { history = history; seen = seen; there = there; is = f.1 } in
      record {
        state = starting_state genesis k;
        left = history;
        remaining = sym (each k at);
        own = f.1.entries;
        ends = refl;
        typed = t.0;
        time = slice_get-map (λ (c : MachineChain). c.time) (start genesis) k ∙ ap (option_map (λ (c : MachineChain). c.time)) (first ∙ ap Some (sym chain));
        upcoming = sym (are.table.own k L there) ∙ f.1.published ∙ ap (λ n. map (published_as k) (drop n (state_of L).chain.committed)) (sym t.1);
      }

  -- ---- the merge

  abbrev histories : Histories
  histories = map (λ (l : Ledger). l.history) ledgers

  abbrev list : List Entry
  list = merged_by_stamps publications ledgers

  reads : Reads genesis.window publications (length histories) [] (by_stamps publications 0 histories) (map (λ (p : Publication). p.chain) publications)
  reads = merged_reads genesis.window publications publications 0 histories [] refl (staged_start genesis ledgers publications are) (λ c. refl)

  each_own : (k : ℕ) (at : IsLedgerAt genesis ledgers k) → filter (is_of_chain k) list ≡ entries (ledger_of genesis k at.history at.seen)
  each_own k at =
      let sum : k ≡ 0 + k = omega arith in
      own_entries k (by_stamps publications 0 histories) ∙ ap entries_of (own_merged genesis.window publications publications 0 histories refl (staged_start genesis ledgers publications are) k
      ∙ ap (λ x. history_at x 0 histories) sum ∙ at_place k 0 histories at.history (slice_get-map (λ (l : Ledger). l.history) ledgers k ∙ ap (option_map (λ (l : Ledger). l.history)) at.there))

  within : AreWithin (length ledgers) list
  within = ap (λ n. list_all (λ (entry : Entry). nat_lt (chain_of entry.event) n) list) (sym (length-map ledgers (λ (l : Ledger). l.history))) ∙ reads.within

  pub merges : Merges genesis.window times (map entries ledgers) publications list
  merges = record {
    each = λ k history there.
        let low = get_within (map entries ledgers) k history there in
        let at = ledger_at genesis ledgers are.of k (omega (arith, low, length-map ledgers entries)) in
        let both : Some (entries (ledger_of genesis k at.history at.seen)) ≡ Some history = sym (slice_get-map entries ledgers k ∙ ap (option_map entries) at.there) ∙ there in
        let one : entries (ledger_of genesis k at.history at.seen) ≡ history = cc in
        each_own k at ∙ one;
    no_others = ap (λ n. list_all (λ (entry : Entry). nat_lt (chain_of entry.event) n) list) (length-map ledgers entries) ∙ within;
    blocks = published_list genesis ledgers publications are list times publications (all_publishing list each_own) within reads.blocks;
    readings = reads.reads;
  }

pub stamps_merge : StampsMerge
stamps_merge genesis ledgers publications of table = merges genesis ledgers publications (record { of = of; table = table })

pub stamped_is_run : StampedIsRun
stamped_is_run genesis ledgers publications of table allowed clash =
    merged_is_run genesis ledgers publications (merged_by_stamps publications ledgers) of table allowed clash
    (stamps_merge genesis ledgers publications of table)
