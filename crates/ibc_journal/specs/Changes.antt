-- What calls change of a journal, by what a connection shows before and after, and by the result.
use Rattle.std.specs.Prelude.{◌≡◌, ◌++◌, ◌∷◌, ℕ, false, List, [], length, Result, IsTrue, OnErr, OnOk}
use Rattle.sqlite.specs.Held.{Held}
use Rattle.sqlite.specs.Schema.{Schema}
use Rattle.sqlite.specs.State.{State, HasCleanDisk, Survives}
use Rattle.sqlite.specs.Tree.{Trees}
use Rattle.ibc_journal.specs.Crashes.{GoesOn, HasBegun, HasCommitted, KeepsCommitted, Lasts, LeavesWith, PutsBehind}
use Rattle.ibc_journal.specs.Entries.{item, items_of}
use Rattle.ibc_journal.specs.Tables.{IsJournal, JournalItem, journal_schema, meta_schema, no_schema}
use Rattle.ibc_journal.specs.declared.entry.JournalEntry.{JournalEntry}

-- ---- calls that change a file

-- where it goes well, the connection sees what is committed
abbrev pub SeesCommitted : {S A E : Type 0} → (Held S → State) → Held S → Result A E → Type 0
SeesCommitted shows new result = HasCleanDisk (shows new) → OnOk result ((shows new).now ≡ (shows new).committed)

-- where it goes well, no transaction is open
abbrev pub EndsOutside : {S A E : Type 0} → (Held S → State) → Held S → Result A E → Type 0
EndsOutside shows new result = HasCleanDisk (shows new) → OnOk result ((shows new).in_transaction ≡ false)

-- where it goes well, the connection is open
abbrev pub EndsOpen : {S A E : Type 0} → (Held S → State) → Held S → Result A E → Type 0
EndsOpen shows new result = HasCleanDisk (shows new) → OnOk result (IsTrue (shows new).is_open)

-- after an error nothing of it is committed, as far as the connection is still open
abbrev pub CommitsNone : {S A E : Type 0} → (Held S → State) → Held S → Held S → Result A E → Type 0
CommitsNone shows old new result = HasCleanDisk (shows new) → OnErr result (KeepsCommitted (shows old) (shows new))

-- a crash at any moment of it leaves what it could leave before, or what may be left of the state before
abbrev pub CrashLeaves : {S : Type 0} → (Held S → State) → Held S → Held S → (State → Trees → Type 0) → Type 0
CrashLeaves shows old new leaves = Survives (shows old) (shows new) (leaves (shows old))

-- ---- transactions

-- where it goes well, a transaction has begun
abbrev pub BeginsTransaction : {S A E : Type 0} → (Held S → State) → Held S → Held S → Result A E → Type 0
BeginsTransaction shows old new result = HasCleanDisk (shows new) → OnOk result (HasBegun (shows old) (shows new))

-- where it goes well, what the transaction saw is committed
abbrev pub EndsTransaction : {S A E : Type 0} → (Held S → State) → Held S → Held S → Result A E → Type 0
EndsTransaction shows old new result = HasCleanDisk (shows new) → OnOk result (HasCommitted (shows old) (shows new))

-- of a transaction: what it saw
abbrev pub LeavesSeen : State → Trees → Type 0
LeavesSeen s = λ trees. trees ≡ s.now.trees

-- of a database with these tables: nothing, inside a transaction
abbrev pub LeavesOutsideOf : Schema → State → Trees → Type 0
LeavesOutsideOf schema s = λ _. s.now.schema ≡ schema → ¬ IsTrue s.in_transaction

-- ---- entries behind those of a journal

-- a journal with so many entries is committed with these behind them
abbrev pub CommitsBehind : {S A E : Type 0} → (Held S → State) → Held S → Held S → ℕ → List JournalEntry → Result A E → Type 0
CommitsBehind shows old new first added result =
    (genesis : List ℕ) (items : List JournalItem) → IsJournal (shows old).now genesis items → first ≡ length items
    → HasCleanDisk (shows new) → OnOk result (IsJournal (shows new).committed genesis (items ++ items_of added))

-- once it has told that they are committed, a crash leaves all of them
abbrev pub LastsBehind : {S A E : Type 0} → (Held S → State) → Held S → Held S → ℕ → List JournalEntry → Result A E → Type 0
LastsBehind shows old new first added result =
    (genesis : List ℕ) (items : List JournalItem) → IsJournal (shows old).now genesis items → first ≡ length items
    → HasCleanDisk (shows new) → OnOk result (Lasts (shows new) genesis (items ++ items_of added))

-- after an error nothing is committed behind a journal with so many entries
abbrev pub CommitsNoneBehind : {S A E : Type 0} → (Held S → State) → Held S → Held S → ℕ → Result A E → Type 0
CommitsNoneBehind shows old new first result =
    (genesis : List ℕ) (items : List JournalItem) → IsJournal (shows old).now genesis items → first ≡ length items
    → HasCleanDisk (shows new) → OnErr result (KeepsCommitted (shows old) (shows new))

-- so it is inside a transaction
abbrev pub CommitsNoneInside : {S A E : Type 0} → (Held S → State) → Held S → Held S → ℕ → Result A E → Type 0
CommitsNoneInside shows old new first result =
    (genesis : List ℕ) (items : List JournalItem) → IsJournal (shows old).now genesis items → first ≡ length items
    → IsTrue (shows old).in_transaction → HasCleanDisk (shows new) → OnErr result (KeepsCommitted (shows old) (shows new))

-- where it goes well, a journal has these entries behind its own, inside a transaction
abbrev pub InsertsBehind : {S A E : Type 0} → (Held S → State) → Held S → Held S → ℕ → List JournalEntry → Result A E → Type 0
InsertsBehind shows old new first added result = OnOk result (PutsBehind (shows old) (shows new) first (items_of added))

-- the same of one entry
abbrev pub InsertsOne : {S A E : Type 0} → (Held S → State) → Held S → Held S → ℕ → JournalEntry → Result A E → Type 0
InsertsOne shows old new place added result = OnOk result (PutsBehind (shows old) (shows new) place (item added ∷ []))

-- of a journal, outside a transaction: all of its entries, and these behind them
abbrev pub LeavesAdded : ℕ → List JournalEntry → State → Trees → Type 0
LeavesAdded first added = λ s. LeavesWith s first (items_of added)

-- ---- a file with no table

-- a journal that begins so is committed, with no entries
abbrev pub CommitsBeginning : {S A E : Type 0} → (Held S → State) → Held S → Held S → List ℕ → Result A E → Type 0
CommitsBeginning shows old new genesis result =
    (shows old).now.schema ≡ no_schema → HasCleanDisk (shows new)
    → OnOk result (IsJournal (shows new).committed genesis [])

-- once it has told that it is committed, a crash leaves all of it
abbrev pub LastsAsBegun : {S A E : Type 0} → (Held S → State) → Held S → Held S → List ℕ → Result A E → Type 0
LastsAsBegun shows old new genesis result =
    (shows old).now.schema ≡ no_schema → HasCleanDisk (shows new)
    → OnOk result (Lasts (shows new) genesis [])

-- after an error nothing is committed of a file with no table
abbrev pub CommitsNoneOfEmpty : {S A E : Type 0} → (Held S → State) → Held S → Held S → Result A E → Type 0
CommitsNoneOfEmpty shows old new result =
    (shows old).now.schema ≡ no_schema → HasCleanDisk (shows new)
    → OnErr result (KeepsCommitted (shows old) (shows new))

-- so it is inside a transaction
abbrev pub CommitsNoneOfEmptyInside : {S A E : Type 0} → (Held S → State) → Held S → Held S → Result A E → Type 0
CommitsNoneOfEmptyInside shows old new result =
    (shows old).now.schema ≡ no_schema → IsTrue (shows old).in_transaction → HasCleanDisk (shows new)
    → OnErr result (KeepsCommitted (shows old) (shows new))

-- where it goes well, the transaction sees a journal that begins so, with no entries
abbrev pub FillsEmpty : {S A E : Type 0} → (Held S → State) → Held S → Held S → List ℕ → Result A E → Type 0
FillsEmpty shows old new genesis result =
    HasCleanDisk (shows new) → OnOk result ((shows old).now.schema ≡ no_schema → IsTrue (shows old).in_transaction
    → IsJournal (shows new).now genesis [] × GoesOn (shows old) (shows new))

-- where it goes well, there is the first table, and it has no rows
abbrev pub MakesMetaTable : {S A E : Type 0} → (Held S → State) → Held S → Held S → Result A E → Type 0
MakesMetaTable shows old new result =
    HasCleanDisk (shows new) → OnOk result ((shows old).now.schema ≡ no_schema → ((shows new).now.schema ≡ meta_schema)
    × ((shows new).now.trees 0 ≡ []) × (IsTrue (shows old).in_transaction → GoesOn (shows old) (shows new)))

-- where it goes well, there are both tables, and they have no rows
abbrev pub MakesEntryTable : {S A E : Type 0} → (Held S → State) → Held S → Held S → Result A E → Type 0
MakesEntryTable shows old new result =
    HasCleanDisk (shows new) → OnOk result ((shows old).now.schema ≡ meta_schema → (shows old).now.trees 0 ≡ []
    → ((shows new).now.schema ≡ journal_schema) × ((shows new).now.trees 0 ≡ []) × ((shows new).now.trees 1 ≡ [])
    × (IsTrue (shows old).in_transaction → GoesOn (shows old) (shows new)))

-- where it goes well, two tables with no rows are a journal that begins so
abbrev pub PutsBeginning : {S A E : Type 0} → (Held S → State) → Held S → Held S → List ℕ → Result A E → Type 0
PutsBeginning shows old new genesis result =
    HasCleanDisk (shows new) → OnOk result ((shows old).now.schema ≡ journal_schema → (shows old).now.trees 0 ≡ []
    → (shows old).now.trees 1 ≡ [] → IsJournal (shows new).now genesis []
    × (IsTrue (shows old).in_transaction → GoesOn (shows old) (shows new)))
