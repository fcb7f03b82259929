-- Ledgers that are gathered, in any order: what they hold, and that they did what the machine does.
use Rattle.std.specs.Prelude.{◌≡◌, ◌==◌, ◌++◌, ℕ, Bool, false, List, [], ◌∷◌, length, map, Some, slice_get, IsTrue}
use Rattle.std.specs.List.{flat_map, list_all, range_with_len}
use Rattle.ibc_ids.specs.Texts.{Text}
use Rattle.ibc_ids.specs.Maps.{Map}
use Rattle.ibc_machine.specs.ics20.Bank.{Balances}
use Rattle.ibc_machine.specs.chain.Genesis.{is_allowed}
use Rattle.ibc_machine.specs.ledger.Ledgers.{Ledger, state_of}
use Rattle.ibc_machine.specs.promises.Worlds.{Audited, by_number, is_complete, of_chain}
use Rattle.ibc_bank.specs.ListedHoldings.{abstract_holding}
use Rattle.ibc_note.specs.AbstractNotes.{abstract_notes}
use Rattle.ibc_ledger.specs.LedgerModel.{LedgerModel}
use Rattle.ibc_world_core.specs.declared.holdings.Audit.{Audit}
use Rattle.ibc_refinement.specs.Steps.{AllSeeMore}
use Rattle.ibc_world_core.specs.WorldModel.{ledgers_alone, SameTables}

-- ledgers of one table and one genesis, or none
abbrev pub AreOfOneWorld : List LedgerModel → Type 0
AreOfOneWorld ledgers = (first : LedgerModel) → slice_get ledgers 0 ≡ Some first → (k : ℕ) (h : LedgerModel)
    → slice_get ledgers k ≡ Some h → (h.table ≡ first.table) × (h.ledger.genesis ≡ first.ledger.genesis)

-- the same ledgers at the same tables, which have at most seen more
pub record HaveStayed (old new : List LedgerModel) : Type 0 where
  pub as_many : length new ≡ length old
  pub tables : SameTables old new
  pub more : AllSeeMore (ledgers_alone old) (ledgers_alone new)

-- each chain of their genesis has a ledger there, and none has two
abbrev pub is_whole : List LedgerModel → Bool
is_whole [] = false
is_whole (first ∷ others) = is_complete first.ledger.genesis (ledgers_alone (first ∷ others))

-- each of so many chains from a number on has a ledger there, and none has two
abbrev pub has_each_from : List LedgerModel → ℕ → ℕ → Bool
has_each_from ledgers from chains = list_all (λ k. length (of_chain k (ledgers_alone ledgers)) == 1) (range_with_len from chains)

abbrev pub balances_of : Ledger → Balances
balances_of ledger = (state_of ledger).chain.records.apps.balances

abbrev pub notes_of : Ledger → Map Text (List Text)
notes_of ledger = (state_of ledger).chain.records.apps.notes

-- what is told of balances and of notes
abbrev pub balances_in : Audit → List Balances
balances_in audit = map (λ chain. map abstract_holding chain.items) audit.balances.items

abbrev pub notes_in : Audit → List (Map Text (List Text))
notes_in audit = map (λ chain. map abstract_notes chain.items) audit.notes.items

-- the balances of a ledger are told too
abbrev pub AddsBalances : Ledger → Audit → Audit → Type 0
AddsBalances ledger old new = balances_in new ≡ balances_in old ++ balances_of ledger ∷ []

-- the notes of a ledger are told too
abbrev pub AddsNotes : Ledger → Audit → Audit → Type 0
AddsNotes ledger old new = notes_in new ≡ notes_in old ++ notes_of ledger ∷ []

-- the balances of a chain's ledgers are told too
abbrev pub AddsBalancesOfChain : List LedgerModel → ℕ → Audit → Audit → Type 0
AddsBalancesOfChain ledgers chain old new =
    balances_in new ≡ balances_in old ++ map balances_of (of_chain chain (ledgers_alone ledgers))

-- the notes of a chain's ledgers are told too
abbrev pub AddsNotesOfChain : List LedgerModel → ℕ → Audit → Audit → Type 0
AddsNotesOfChain ledgers chain old new =
    notes_in new ≡ notes_in old ++ map notes_of (of_chain chain (ledgers_alone ledgers))

-- the balances of the ledgers of so many chains from a number on are told too
abbrev pub AddsBalancesFrom : List LedgerModel → ℕ → ℕ → Audit → Audit → Type 0
AddsBalancesFrom ledgers from chains old new = balances_in new
    ≡ balances_in old ++ map balances_of (flat_map (λ k. of_chain k (ledgers_alone ledgers)) (range_with_len from chains))

-- the notes of the ledgers of so many chains from a number on are told too
abbrev pub AddsNotesFrom : List LedgerModel → ℕ → ℕ → Audit → Audit → Type 0
AddsNotesFrom ledgers from chains old new = notes_in new
    ≡ notes_in old ++ map notes_of (flat_map (λ k. of_chain k (ledgers_alone ledgers)) (range_with_len from chains))

-- what is told is what the ledgers hold, by the numbers of the chains of the first one's genesis
abbrev pub TellsAll : List LedgerModel → Audit → Type 0
TellsAll ledgers audit = (first : LedgerModel) → slice_get ledgers 0 ≡ Some first
    → (balances_in audit ≡ map balances_of (by_number first.ledger.genesis (ledgers_alone ledgers)))
    × (notes_in audit ≡ map notes_of (by_number first.ledger.genesis (ledgers_alone ledgers)))

-- There is one list of publications, along which the histories of the ledgers merge into one list. Where no texts clash,
-- that list is a run of the machine since genesis, with the replies in the histories and with the balances and notes that
-- are told at its end.
abbrev pub IsAudit : List LedgerModel → Audit → Type 0
IsAudit [] audit = ⊥
IsAudit (first ∷ others) audit =
    IsTrue (is_allowed first.ledger.genesis)
    × Audited first.ledger.genesis (ledgers_alone (first ∷ others)) (balances_in audit) (notes_in audit)
