-- What calls do to a connection, and what a crash at any moment of one may leave beside what it could leave before.
use Rattle.std.specs.Prelude.{◌≡◌, ℕ, false, List, [], ◌++◌, length, IsTrue}
use Rattle.sqlite.specs.Tree.{Trees}
use Rattle.sqlite.specs.State.{State, HasCleanDisk}
use Rattle.ibc_journal.specs.Tables.{no_schema, JournalItem, HasRows, IsJournal}

-- ---- transactions

-- a transaction has begun, and nothing else has changed
pub record HasBegun (old new : State) : Type 0 where
  pub outside : old.in_transaction ≡ false
  pub inside : IsTrue new.in_transaction
  pub now : new.now ≡ old.now
  pub committed : new.committed ≡ old.committed

-- the transaction goes on: nothing is committed
pub record GoesOn (old new : State) : Type 0 where
  pub inside : IsTrue new.in_transaction
  pub committed : new.committed ≡ old.committed

-- what the transaction saw is committed
pub record HasCommitted (old new : State) : Type 0 where
  pub outside : new.in_transaction ≡ false
  pub now : new.now ≡ old.now
  pub committed : new.committed ≡ old.now
  pub is_open : IsTrue new.is_open

-- nothing is committed, as far as the connection is still open
abbrev pub KeepsCommitted : State → State → Type 0
KeepsCommitted old new = IsTrue new.is_open → new.committed ≡ old.committed

-- inside a transaction a journal has these entries behind its own
abbrev pub PutsBehind : State → State → ℕ → List JournalItem → Type 0
PutsBehind old new place more =
    (genesis : List ℕ) (items : List JournalItem) → IsJournal old.now genesis items → place ≡ length items
    → IsTrue old.in_transaction → HasCleanDisk new → IsJournal new.now genesis (items ++ more) × GoesOn old new

-- ---- crashes

-- of a journal, outside a transaction: all of its entries, and these behind them
abbrev pub LeavesWith : State → ℕ → List JournalItem → Trees → Type 0
LeavesWith old place more trees =
    (genesis : List ℕ) (items : List JournalItem) → IsJournal old.now genesis items → place ≡ length items
    → HasRows genesis (items ++ more) trees

-- of a journal, inside a transaction: nothing
abbrev pub LeavesOutside : State → ℕ → Trees → Type 0
LeavesOutside old place trees =
    (genesis : List ℕ) (items : List JournalItem) → IsJournal old.now genesis items → place ≡ length items
    → old.in_transaction ≡ false

-- of a database with no table: a journal that began so, with no entries
abbrev pub LeavesBegun : State → List ℕ → Trees → Type 0
LeavesBegun old genesis trees = old.now.schema ≡ no_schema → HasRows genesis [] trees

-- until the next call a crash leaves a journal that began so and has these entries, and nothing else
abbrev pub Lasts : State → List ℕ → List JournalItem → Type 0
Lasts s genesis items = (trees : Trees) → s.may_leave trees → HasRows genesis items trees

-- of a journal: nothing
abbrev pub LeavesNothing : State → Trees → Type 0
LeavesNothing old trees = (genesis : List ℕ) (items : List JournalItem) → ¬ IsJournal old.now genesis items
