-- What a ledger has committed is what its types promise, so each proof of it has a spelling.
use Rattle.ibc_ledger.proofs.Common.{◌≡◌, ℕ, ◌^◌, ◌<◌, List, [], ◌∷◌, length, refl, sym, ap, ◌∙◌, subst, Option, Some, None, option_map, unwrap_or, slice_get, inl, inr, arith, ⊤, AllByRecursion, slice_get-map, Text}
use Rattle.ibc_ledger.proofs.Common.{Publication, Core, Block, MachineChain, image, GenesisState, starting_chain, LedgerState, StampedEntry, entry_answer, met_states, starting_state, empty_chain, Ledger, IsLedger, IsOwnEntry, state_of}
use Rattle.std.specs.List.{last_or}
use Rattle.ibc_machine.specs.ics24.Image.{IsKeyed}
use Rattle.ibc_machine.specs.chain.Genesis.{start}
use Rattle.ibc_machine.specs.ledger.Replay.{replay}
use Rattle.ibc_refinement.proofs.ChangedPlaces.{get_there}
use Rattle.ibc_refinement.proofs.Typed.{IsTyped}
use Rattle.ibc_refinement.proofs.TypedLook.{stands, fit_from}
use Rattle.ibc_refinement.proofs.TypedValues.{path_fits}
use Rattle.ibc_refinement.proofs.ShortTexts.{FitsPair}
use Rattle.ibc_refinement.proofs.WrittenForm.{written_has_form}
use Rattle.ibc_refinement.proofs.Clear.{all_of_image}
use Rattle.ibc_refinement.proofs.EntrySteps.{working, answer_commits, own_typed}
use Rattle.ibc_refinement.proofs.MergedRun.{typed_start}
use Rattle.ibc_records.proofs.NewRecords.{keyed-counters}
use Rattle.ibc_ledger.specs.ProvedView.{HasSpellings}
use Rattle.ibc_refinement.proofs.Growing.{all_last}
use Rattle.ibc_ledger.specs.ReplayedState.{last_block}

abbrev pub AreTyped : List Block → Type 0
AreTyped = AllByRecursion (λ (block : Block). IsTyped block.records.core)

-- all blocks of a history are typed
replay_typed : (ledger : Ledger) (genesis : GenesisState) (k : ℕ) (seen : List Publication) (state : LedgerState) (history : List StampedEntry) → IsTyped state.chain.records.core → AreTyped state.chain.committed
    → AllByRecursion (IsOwnEntry ledger) (met_states genesis k seen state history)
    → AreTyped (replay genesis k seen state history).chain.committed
replay_typed ledger genesis k seen state [] typed all own = all
replay_typed ledger genesis k seen state (e ∷ history) typed all own =
    let next = (entry_answer genesis k seen state e).1 in
    let c = answer_commits genesis k seen e.entry.reading state e.entry.event typed (own_typed ledger state e own.0) in
    let blocks : AreTyped next.chain.committed =
    elim (c.blocks) [
      | inl w ↦ subst AreTyped (sym w.1) all
      | inr w ↦ subst AreTyped (sym w.1) (all_last (λ (block : Block). IsTyped block.records.core) state.chain.committed (working state.chain) all typed)
    ] in
    replay_typed ledger genesis k seen next history c.typed blocks own.1

starts : (genesis : GenesisState) (k : ℕ) → k < length genesis.chains → IsTyped (starting_state genesis k).chain.records.core × AreTyped (starting_state genesis k).chain.committed
starts genesis k low =
    let c = get_there genesis.chains k low in
    let first : slice_get (start genesis) k ≡ Some (starting_chain c.0) = slice_get-map starting_chain genesis.chains k ∙ ap (option_map starting_chain) c.1 in
    subst (λ (x : MachineChain). IsTyped x.records.core × AreTyped x.committed) (sym (ap (λ o. unwrap_or o empty_chain) first)) (typed_start, tt)

pub committed_typed : (ledger : Ledger) → IsLedger ledger → AreTyped (state_of ledger).chain.committed
committed_typed ledger is =
    let s = starts ledger.genesis ledger.chain is.number in
    replay_typed ledger ledger.genesis ledger.chain ledger.seen (starting_state ledger.genesis ledger.chain) ledger.history s.0 s.1 is.entries

pub spelled : (core : Core) → IsTyped core → length (image core) < 2 ^ 64 → HasSpellings core
spelled core typed small k named =
    let fit = fit_from (λ (x : Text). ⊤) core typed (λ x i. tt) small (λ x i. tt) in
    written_has_form (image core) _ (all_of_image FitsPair core fit.fit) (omega (arith, small)) (path_fits k named)

keyed : (core : Core) → IsTyped core → IsKeyed core
keyed core typed = record { keyed = λ k v e. (stands (λ (x : Text). ⊤) core typed (λ x i. tt) k v e).key_is }

-- the last of blocks, each of which is so
last_is : (P : Block → Type 0) (o : Option Block) (blocks : List Block) (block : Block) → ((b : Block) → o ≡ Some b → P b) → AllByRecursion P blocks → last_or o blocks ≡ Some block → P block
last_is P o [] block first all is = first block is
last_is P o (b ∷ blocks) block first all is = last_is P (Some b) blocks block (λ c e. let same : b ≡ c = cc in subst P same all.0) all.1 is

-- each proof of the last block has a spelling
pub last_spelled : (ledger : Ledger) → IsLedger ledger → (block : Block) → last_or None (state_of ledger).chain.committed ≡ Some block → HasSpellings block.records.core
last_spelled ledger is block last =
    let blocks = (state_of ledger).chain.committed in
    spelled block.records.core
    (last_is (λ b. IsTyped b.records.core) None blocks block (λ b e. absurd (cc)) (committed_typed ledger is) last)
    (last_is (λ b. length (image b.records.core) < 2 ^ 64) None blocks block (λ b e. absurd (cc)) is.small last)

-- what was committed last has names for its names
pub last_keyed : (ledger : Ledger) → IsLedger ledger → IsKeyed (last_block (last_or None (state_of ledger).chain.committed)).core
last_keyed ledger is =
    let blocks = (state_of ledger).chain.committed in
    elim (last_or None blocks) as (λ o. last_or None blocks ≡ o → IsKeyed (last_block o).core) [
      | None ↦ λ e. keyed-counters (record { client = 0; connection = 0; channel = 0 })
      | Some block ↦ λ e. keyed block.records.core (last_is (λ b. IsTyped b.records.core) None blocks block (λ b e. absurd (cc)) (committed_typed ledger is) e)
    ] refl
