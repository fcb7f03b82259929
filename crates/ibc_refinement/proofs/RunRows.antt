-- What a ledger read of another chain fits what that chain has committed by now, and its row is of its block.
use Rattle.std.proofs.Common.{◌≡◌, ℕ, zero, suc, ◌+◌, ◌<◌, ◌≤◌, true, ◌&&◌, eqb, nat_le, nat_lt, List, [], ◌++◌, length, map, take, drop, filter, refl, sym, ap, ◌∙◌, Some, option_map, slice_get, arith, leb-true, inl, inr, take-append-drop}
use Rattle.std.specs.Option.{option_map_or}
use Rattle.std.proofs.lemmas.Bool.{and_parts, cases_lt}
use Rattle.std.proofs.lemmas.Option.{slice_get-map, slice_get_past}
use Rattle.std.proofs.lemmas.List.Elements.{filter-append}
use Rattle.ibc_ids.specs.Publications.{published_by, height_of, height_among, row_at}
use Rattle.ibc_ids.specs.declared.publication.Publication.{Publication}
use Rattle.ibc_wire.specs.declared.header.Header.{Header}
use Rattle.ibc_machine.specs.declared.entry.Entry.{Entry}
use Rattle.ibc_machine.specs.declared.entry.Reading.{Reading}
use Rattle.ibc_machine.specs.chain.Records.{MachineChain}
use Rattle.ibc_machine.specs.chain.Genesis.{GenesisState}
use Rattle.ibc_machine.specs.chain.Machine.{World, block_at, committed_of}
use Rattle.ibc_machine.specs.ledger.Ledgers.{Ledger, published_as, fits, reading_fits}
use Rattle.ibc_machine.specs.ledger.Merge.{blocks_of}
use Rattle.ibc_machine.proofs.Members.{get_left}
use Rattle.ibc_machine.proofs.SeenMore.{height_grows}
use Rattle.ibc_refinement.proofs.LedgerSteps.{SeesRow}
use Rattle.ibc_refinement.proofs.EntrySteps.{ledger_of, replay_grows}
use Rattle.ibc_refinement.proofs.Hashed.{Among}
use Rattle.ibc_refinement.proofs.RunStates.{Runs, AllRun, AreOfWorld, IsLedgerAt, ledger_at}

-- a chain's publications among the first of a list
published_front : (chain n i : ℕ) (publications : List Publication) → i < length (published_by chain (take n publications))
    → slice_get (published_by chain (take n publications)) i ≡ slice_get (published_by chain publications) i
published_front chain n i publications h =
    let test = λ (p : Publication). eqb p.chain chain in
    sym (ap (λ xs. slice_get (filter test xs) i) (sym (take-append-drop n publications)) ∙ ap (λ xs. slice_get xs i) (filter-append test (take n publications) (drop n publications))
    ∙ get_left (filter test (take n publications)) (filter test (drop n publications)) i h)

module _ (genesis : GenesisState) (ledgers : List Ledger) (publications : List Publication) (world : World) (before rest : List Entry)
    (are : AreOfWorld genesis ledgers publications) (run : AllRun genesis ledgers world before rest) where
  pub runs_at : (k : ℕ) (at : IsLedgerAt genesis ledgers k) → Runs (Among ledgers) genesis world before rest k at.history at.seen
  runs_at k at = run.each k at.history at.seen at.there

  pub committed_is : (k : ℕ) (at : IsLedgerAt genesis ledgers k) → committed_of world k ≡ (runs_at k at).state.chain.committed
  committed_is k at = ap (λ o. option_map_or (λ (c : MachineChain). c.committed) o []) (runs_at k at).there

  pub counts : (k : ℕ) → length (committed_of world k) ≡ blocks_of k before
  counts k =
      elim (cases_lt k (length ledgers)) [
        | inl within ↦ let at = ledger_at genesis ledgers are.of k within in ap length (committed_is k at) ∙ (runs_at k at).blocks
        | inr past ↦ ap (λ o. length (option_map_or (λ (c : MachineChain). c.committed) o [])) (slice_get_past world k (omega (arith, run.as_many))) ∙ sym (run.others k past)
      ]

  -- what a chain published is what it committed
  published_is : (k i : ℕ) → i < length (committed_of world k) → slice_get (published_by k publications) i ≡ option_map (published_as k) (slice_get (committed_of world k) i)
  published_is k i low =
      elim (cases_lt k (length ledgers)) [
        | inl within ↦
            let at = ledger_at genesis ledgers are.of k within in
            let r = runs_at k at in
            let more = replay_grows (ledger_of genesis k at.history at.seen) genesis k at.seen r.state r.left r.typed r.own in
            let last = sym (ap (λ s. s.chain.committed) r.ends) ∙ more.1 in
            let all : published_by k publications ≡ map (published_as k) (r.state.chain.committed ++ more.0) =
            sym (are.table.own k (ledger_of genesis k at.history at.seen) at.there) ∙ at.is.published ∙ ap (map (published_as k)) last
            in
            let committed = committed_is k at in
            ap (λ xs. slice_get xs i) all ∙ slice_get-map (published_as k) (r.state.chain.committed ++ more.0) i
            ∙ ap (option_map (published_as k)) (get_left r.state.chain.committed more.0 i (omega (arith, ap length committed)) ∙ ap (λ xs. slice_get xs i) (sym committed))
        | inr past ↦ absurd (none (ap (λ o. length (option_map_or (λ (c : MachineChain). c.committed) o [])) (slice_get_past world k (omega (arith, run.as_many)))))
      ]
    where
      none : length (committed_of world k) ≡ 0 → ⊥
      none e = omega arith

  row_now : (k n h : ℕ) (seen : List Publication) → seen ≡ take n publications → h ≤ height_of k seen → h ≤ length (committed_of world k)
      → row_at seen k h ≡ option_map (published_as k) (block_at world k h)
  row_now k n zero seen front low now = refl
  row_now k n (suc i) seen front low now =
      let short = ap (height_of k) front in
      ap (λ xs. slice_get (published_by k xs) i) front ∙ published_front k n i publications (omega arith) ∙ published_is k i (omega arith)

  -- the row that was there was published, and is committed by now
  there_bounds : (window a b h read : ℕ) → fits window a h read (Some true) ≡ true → fits window b h read (Some true) ≡ true → (h ≤ a) × (h ≤ b)
  there_bounds window a b h read f g =
      let p = and_parts (nat_le h read) (nat_le read a) (and_parts (nat_le h read && nat_le read a) (nat_lt a (h + window)) f).0 in
      let q = and_parts (nat_le h read) (nat_le read b) (and_parts (nat_le h read && nat_le read b) (nat_lt b (h + window)) g).0 in
      let low = leb-true h read p.0 in
      let one = leb-true read a p.1 in
      let two = leb-true read b q.1 in
      (omega arith, omega arith)

  pub sees_row : (k : ℕ) (ledger : Ledger) (header : Header) (r : Reading) (n : ℕ) → slice_get ledgers k ≡ Some ledger
      → reading_fits genesis.window (height_among header.chain n ledger.seen) header.height r ≡ true
      → reading_fits genesis.window (blocks_of header.chain before) header.height r ≡ true
      → SeesRow genesis.window world ledger.seen header r
  sees_row k ledger header r n there then now = record {
    fits_now = ap (λ p. reading_fits genesis.window p header.height r) (counts header.chain) ∙ now;
    row = λ was.
        let w = are.table.beginnings k ledger there in
        let f = ap (fits genesis.window (height_among header.chain n ledger.seen) header.height r.published) (sym was) ∙ then in
        let g = ap (fits genesis.window (blocks_of header.chain before) header.height r.published) (sym was) ∙ now in
        let bounds = there_bounds genesis.window _ _ header.height r.published f g in
        let grows = height_grows header.chain n ledger.seen in
        let count = counts header.chain in
        row_now header.chain w.0 header.height ledger.seen w.1 (omega arith) (omega arith);
  }
