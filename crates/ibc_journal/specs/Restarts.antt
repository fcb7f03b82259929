-- What is found of a journal after a restart.
use Rattle.std.specs.Prelude.{◌≡◌, ℕ, false, List, IsTrue}
use Rattle.sqlite.specs.Recovery.{Image}
use Rattle.sqlite.specs.Tree.{Trees}
use Rattle.sqlite.specs.State.{State}
use Rattle.sqlite.specs.Files.{HoldsDatabase}
use Rattle.ibc_journal.specs.Tables.{journal_schema, JournalItem, HasRows, IsJournal}

-- the two files hold the rows of a journal that began so and has these entries
pub record HoldsJournal (image : Image) (genesis : List ℕ) (items : List JournalItem) : Type 0 where
  pub db : Trees
  pub holds : HoldsDatabase image db
  pub rows : HasRows genesis items db

-- the journal is all that is committed, and the connection is open and sees just that
pub record IsAtRest (s : State) (genesis : List ℕ) (items : List JournalItem) : Type 0 where
  pub journal : IsJournal s.now genesis items
  pub seen : s.now ≡ s.committed
  pub outside : s.in_transaction ≡ false
  pub is_open : IsTrue s.is_open

-- Where the files hold the rows of a journal, and the connection has its tables, it is over just that journal.
abbrev pub FindsJournal : Image → State → Type 0
FindsJournal image s =
    (genesis : List ℕ) (items : List JournalItem) → HoldsJournal image genesis items → s.now.schema ≡ journal_schema
    → IsAtRest s genesis items
