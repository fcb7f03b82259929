-- Ledgers in the middle of a list that merges their histories: each has replayed its entries so far.
use Rattle.std.proofs.Common.{◌≡◌, ◌++◌, ℕ, ◌≤◌, ◌<◌, List, length, map, filter, Some, slice_get, ap, ◌∙◌, subst}
use Rattle.std.specs.List.{AllByRecursion}
use Rattle.ibc_ids.specs.Texts.{Text}
use Rattle.ibc_ids.specs.declared.publication.Publication.{Publication}
use Rattle.ibc_machine.specs.declared.entry.Entry.{Entry}
use Rattle.ibc_machine.specs.chain.Records.{Block}
use Rattle.ibc_machine.specs.chain.Genesis.{GenesisState}
use Rattle.ibc_machine.specs.chain.Machine.{World, block_of}
use Rattle.ibc_machine.specs.ledger.Replay.{LedgerState, StampedEntry, replay, met_states, starting_state}
use Rattle.ibc_machine.specs.ledger.Ledgers.{Ledger, IsOwnEntry, IsLedger, met_by, state_of}
use Rattle.ibc_machine.specs.ledger.Merge.{is_of_chain, blocks_of}
use Rattle.ibc_machine.specs.promises.Worlds.{AreLedgersOf, AreOfOneTable}
use Rattle.ibc_machine.proofs.Members.{Is_in}
use Rattle.ibc_refinement.proofs.ChangedPlaces.{get_there}
use Rattle.ibc_refinement.proofs.Clear.{AreFit}
use Rattle.ibc_refinement.proofs.LedgerSteps.{KnowsBlocks}
use Rattle.ibc_refinement.proofs.Typed.{IsTyped}
use Rattle.ibc_refinement.proofs.EntrySteps.{ledger_of}
use Rattle.ibc_refinement.proofs.Hashed.{Among}

-- ledger k in the world after some entries, and before the rest
pub record Runs (S : Text → Type 0) (genesis : GenesisState) (world : World) (before rest : List Entry) (k : ℕ) (history : List StampedEntry) (seen : List Publication) : Type 0 where
  pub state : LedgerState
  -- what is done of its history, and what is left
  pub done : List StampedEntry
  pub left : List StampedEntry
  pub whole : history ≡ done ++ left
  pub replayed : replay genesis k seen (starting_state genesis k) done ≡ state
  pub consumed : map (λ (s : StampedEntry). s.entry) done ≡ filter (is_of_chain k) before
  pub there : slice_get world k ≡ Some state.chain
  pub remaining : map (λ (s : StampedEntry). s.entry) left ≡ filter (is_of_chain k) rest
  pub own : AllByRecursion (IsOwnEntry (ledger_of genesis k history seen)) (met_states genesis k seen state left)
  pub met : (at : LedgerState × StampedEntry) → Is_in at (met_states genesis k seen state left) → Is_in at (met_by (ledger_of genesis k history seen))
  pub ends : replay genesis k seen state left ≡ state_of (ledger_of genesis k history seen)
  pub typed : IsTyped state.chain.records.core
  pub fit : (height : ℕ) (block : Block) → block_of height state.chain.committed ≡ Some block → AreFit S block.records.core
  pub blocks : length state.chain.committed ≡ blocks_of k before
  pub knows : KnowsBlocks world state

pub record AllRun (genesis : GenesisState) (ledgers : List Ledger) (world : World) (before rest : List Entry) : Type 0 where
  pub as_many : length world ≡ length ledgers
  pub each : (k : ℕ) (history : List StampedEntry) (seen : List Publication) → slice_get ledgers k ≡ Some (ledger_of genesis k history seen)
      → Runs (Among ledgers) genesis world before rest k history seen
  pub others : (k : ℕ) → length ledgers ≤ k → blocks_of k before ≡ 0

-- ledgers of one genesis and one table
pub record AreOfWorld (genesis : GenesisState) (ledgers : List Ledger) (publications : List Publication) : Type 0 where
  pub of : AreLedgersOf genesis ledgers
  pub table : AreOfOneTable publications ledgers

-- ledger k of a world
pub record IsLedgerAt (genesis : GenesisState) (ledgers : List Ledger) (k : ℕ) : Type 0 where
  pub history : List StampedEntry
  pub seen : List Publication
  pub there : slice_get ledgers k ≡ Some (ledger_of genesis k history seen)
  pub is : IsLedger (ledger_of genesis k history seen)

same_ledger : (genesis : GenesisState) (k : ℕ) (ledger : Ledger) → ledger.genesis ≡ genesis → ledger.chain ≡ k → ledger ≡ ledger_of genesis k ledger.history ledger.seen
same_ledger genesis k ledger g c = λ i. record { genesis = g i; chain = c i; history = ledger.history; seen = ledger.seen }

pub ledger_from : (genesis : GenesisState) (ledgers : List Ledger) → AreLedgersOf genesis ledgers → (k : ℕ) (ledger : Ledger) → slice_get ledgers k ≡ Some ledger
    → (ledger ≡ ledger_of genesis k ledger.history ledger.seen) × IsLedger (ledger_of genesis k ledger.history ledger.seen)
ledger_from genesis ledgers of k ledger there =
    let w = of.each k ledger there in
    let same = same_ledger genesis k ledger w.0 w.1 in
    (same, subst IsLedger same w.2)

pub ledger_at : (genesis : GenesisState) (ledgers : List Ledger) → AreLedgersOf genesis ledgers → (k : ℕ) → k < length ledgers → IsLedgerAt genesis ledgers k
ledger_at genesis ledgers of k within =
    let w = get_there ledgers k within in
    let f = ledger_from genesis ledgers of k w.0 w.1 in
    record { history = w.0.history; seen = w.0.seen; there = w.1 ∙ ap Some f.0; is = f.1 }
