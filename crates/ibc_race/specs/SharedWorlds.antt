-- Ledgers that threads shared, with the receipts of what they were asked and the readings of what they had.
use Rattle.std.specs.Prelude.{◌≡◌, ◌⊎◌, ◌==◌, ℕ, Bool, false, List, [], ◌∷◌, length, map, slice_get}
use Rattle.std.specs.Option.{option_map_or}
use Rattle.std.specs.List.{All, filter, list_all, range_with_len}
use Rattle.logbook.specs.Pages.{Book}
use Rattle.ibc_machine.specs.chain.Genesis.{GenesisState}
use Rattle.ibc_root_table.specs.Passes.{TableName}
use Rattle.ibc_ledger.specs.LedgerModel.{LedgerModel}
use Rattle.ibc_ledger_lock.specs.Books.{no_book}
use Rattle.ibc_ledger_lock.specs.ReceiptsAndReadings.{HasAnswered, IsEarlierOnItsChain, IsOfWorld, ReceiptModel, no_table}
use Rattle.ibc_world_core.specs.WorldAudits.{IsAudit}
use Rattle.ibc_world_core.specs.declared.holdings.Audit.{Audit}
use Rattle.ibc_world_core.specs.EveryAudit.{AreLawful}

-- the ledger is of this table and this genesis, and the book is the one of its chain's number
abbrev pub HasItsBook : TableName → GenesisState → (ℕ → Book) → LedgerModel × Book → Type 0
HasItsBook table genesis book (held, opened) = IsOfWorld table genesis held × (opened ≡ book held.ledger.chain)

-- the table of the first of the ledgers
abbrev pub table_of : List (LedgerModel × Book) → TableName
table_of [] = no_table
table_of ((held, opened) ∷ rest) = held.table

-- the book of a chain's number, where the ledgers stand by their numbers
abbrev pub book_of : List (LedgerModel × Book) → ℕ → Book
book_of ledgers n = option_map_or (λ p. p.1) (slice_get ledgers n) no_book

-- the numbers of the chains of these ledgers
abbrev pub numbers_of : List LedgerModel → List ℕ
numbers_of ledgers = map (λ held. held.ledger.chain) ledgers

-- each chain of the genesis is among the numbers once
abbrev pub has_each : GenesisState → List ℕ → Bool
has_each genesis numbers = list_all (λ k. length (filter (λ (n : ℕ). n == k) numbers) == 1) (range_with_len 0 (length genesis.chains))

-- there is no number, or a chain of the genesis is missing among them or stands there twice
abbrev pub AreBroken : GenesisState → List ℕ → Type 0
AreBroken genesis numbers = (numbers ≡ []) ⊎ (has_each genesis numbers ≡ false)

-- Ledgers of this table and this genesis, which have answered as the receipts tell, and which were once as they were read.
abbrev pub AreGathered : TableName → GenesisState → List ReceiptModel → List LedgerModel → List LedgerModel → Type 0
AreGathered table genesis receipts readings ledgers =
    All (IsOfWorld table genesis) ledgers × All (HasAnswered receipts) ledgers
    × All (λ held. All (IsEarlierOnItsChain held) readings) ledgers

-- There are such ledgers, of chains of these numbers, which hold what is told, and which together did a lawful run of the
-- machine.
abbrev pub IsAuditOf : TableName → GenesisState → List ℕ → List ReceiptModel → List LedgerModel → Audit → Type 0
IsAuditOf table genesis numbers receipts readings audit =
    (ledgers : List LedgerModel) × (numbers_of ledgers ≡ numbers) × AreGathered table genesis receipts readings ledgers
    × IsAudit ledgers audit × AreLawful ledgers audit
