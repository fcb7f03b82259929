-- How a node starts on a connection, and what an audit comes to, by what the connection shows before and after.
use Rattle.std.specs.Prelude.{◌≡◌, ◌⊎◌, ◌≤◌, ℕ, List, [], Option, Some, option_copied, Result, IfErr, IfOk, IsTrue, OnOk}
use Rattle.std.specs.Borrow.{Bor}
use Rattle.sqlite.specs.Held.{Held}
use Rattle.sqlite.specs.Recovery.{Image}
use Rattle.sqlite.specs.Start.{FindsIn}
use Rattle.sqlite.specs.State.{State, HasCleanDisk}
use Rattle.sqlite.specs.View.{doubt}
use Rattle.ibc_machine.specs.chain.Genesis.{GenesisState, is_allowed}
use Rattle.ibc_refinement.specs.World.{WorldState}
use Rattle.ibc_replay.specs.Replays.{IsBeginning}
use Rattle.ibc_journal.specs.Restarts.{HoldsJournal, IsAtRest}
use Rattle.ibc_journal.specs.Tables.{IsJournal, JournalItem, journal_schema, no_schema}
use Rattle.ibc_journal.specs.declared.looking.Beginning.{Beginning}
use Rattle.ibc_node.specs.Audits.{IsAuditOfJournal}
use Rattle.ibc_node.specs.Faults.{IsOfOther, IsUnaudited}
use Rattle.ibc_node.specs.Marks.{IsMarked, marks_from}
use Rattle.ibc_node.specs.Nodes.{BeginsAsGiven, GoesOnWith, HasJournal, HoldsWholeJournal, IsBegun, IsGenesisText, IsGiven, IsRestarted, node_genesis, node_journal}
use Rattle.ibc_node.specs.declared.auditing.JournalAudit.{JournalAudit}
use Rattle.ibc_node.specs.declared.fault.NodeFault.{NodeFault}
use Rattle.ibc_node.specs.declared.node.Node.{Node}
use Rattle.ibc_node.specs.declared.opening.GoingOn.{GoingOn}

-- ---- a journal at rest, and an audit

-- where it goes well, a journal at rest is at rest still
abbrev pub RestsOn : {S A E : Type 0} → (Held S → State) → Held S → Held S → Result A E → Type 0
RestsOn shows old new result =
    (text : List ℕ) (items : List JournalItem) → IsAtRest (shows old) text items
    → HasCleanDisk (shows new) → OnOk result (IsAtRest (shows new) text items)

-- what an audit finds of a journal
abbrev pub AuditsJournal : {S E : Type 0} → (Held S → State) → Held S → Held S → Result JournalAudit E → Type 0
AuditsJournal shows old new result =
    (text : List ℕ) (items : List JournalItem) → IsJournal (shows old).now text items
    → HasCleanDisk (shows new) → IfOk result (IsAuditOfJournal text items)

-- why a journal isn't audited
abbrev pub AuditFails : {S A : Type 0} → (Held S → State) → Held S → Held S → Option (Bor (List ℕ)) → Result A NodeFault → Type 0
AuditFails shows old new genesis result =
    (text : List ℕ) (items : List JournalItem) → IsJournal (shows old).now text items
    → HasCleanDisk (shows new) → IfErr result (IsUnaudited (option_copied genesis) text items)

-- where it goes well, the genesis that is given is the journal's own
abbrev pub AuditsGiven : {S A E : Type 0} → (Held S → State) → Held S → Held S → Option (Bor (List ℕ)) → Result A E → Type 0
AuditsGiven shows old new genesis result =
    (text : List ℕ) (items : List JournalItem) → IsJournal (shows old).now text items
    → HasCleanDisk (shows new) → OnOk result (IsGiven (option_copied genesis) text)

-- a journal that began so isn't the one that is asked for
abbrev pub IsOfOtherBeginning : Option (Bor (List ℕ)) → Beginning → NodeFault → Type 0
IsOfOtherBeginning genesis began = λ why. IsOfOther (option_copied genesis) began.genesis.items began.format why

-- ---- files that are opened

-- where the disk is clean, the connection shows what is found in the files
abbrev pub FindsFiles : {S : Type 0} → (Held S → State) → Image → Held S → Type 0
FindsFiles shows image = λ conn. HasCleanDisk (shows conn) → FindsIn image (shows conn)

-- a node of files that hold a whole journal goes on with it, and its journal is at rest
abbrev pub RestartsFrom : {S E : Type 0} → (Held S → State) → Image → Result (Node S) E → Type 0
RestartsFrom shows image result =
    (text : List ℕ) (items : List JournalItem) → HoldsWholeJournal image text items
    → IfOk result (λ node. HasCleanDisk (node_journal shows node) → GoesOnWith text items node × HasJournal shows text items node)

-- it has the genesis of the journal
abbrev pub HasGenesisFrom : {S E : Type 0} → (Held S → State) → Image → Result (Node S) E → Type 0
HasGenesisFrom shows image result =
    (text : List ℕ) (items : List JournalItem) → HoldsWholeJournal image text items
    → IfOk result (λ node. HasCleanDisk (node_journal shows node) → node_genesis node ≡ text)

-- the genesis that is given is that of the journal
abbrev pub IsGivenFrom : {S E : Type 0} → (Held S → State) → Image → Option (Bor (List ℕ)) → Result (Node S) E → Type 0
IsGivenFrom shows image genesis result =
    (text : List ℕ) (items : List JournalItem) → HoldsWholeJournal image text items
    → IfOk result (λ node. HasCleanDisk (node_journal shows node) → IsGiven (option_copied genesis) text)

-- its marks are those of the journal's entries
abbrev pub IsMarkedFrom : {S E : Type 0} → (Held S → State) → Image → Result (Node S) E → Type 0
IsMarkedFrom shows image result =
    (text : List ℕ) (items : List JournalItem) → HoldsWholeJournal image text items
    → IfOk result (λ node. HasCleanDisk (node_journal shows node) → IsMarked items node)

-- a node of files that hold a journal's rows goes on with them, or begins as is given
abbrev pub FindsRowsFrom : {S E : Type 0} → (Held S → State) → Image → Option (Bor (List ℕ)) → Result (Node S) E → Type 0
FindsRowsFrom shows image genesis result =
    (text : List ℕ) (items : List JournalItem) → HoldsJournal image text items
    → IfOk result (λ node. HasCleanDisk (node_journal shows node) → GoesOnWith text items node ⊎ BeginsAsGiven (option_copied genesis) node)

-- ---- a node of a connection

-- a node of a journal at rest goes on with it
abbrev pub RestartsOn : {S E : Type 0} → (Held S → State) → Held S → Result (Node S) E → Type 0
RestartsOn shows conn result =
    (text : List ℕ) (items : List JournalItem) → IsAtRest (shows conn) text items
    → IfOk result (λ node. HasCleanDisk (node_journal shows node) → GoesOnWith text items node)

-- its journal is at rest
abbrev pub HasJournalOn : {S E : Type 0} → (Held S → State) → Held S → Result (Node S) E → Type 0
HasJournalOn shows conn result =
    (text : List ℕ) (items : List JournalItem) → IsAtRest (shows conn) text items
    → IfOk result (λ node. HasCleanDisk (node_journal shows node) → HasJournal shows text items node)

-- it has the genesis of the journal
abbrev pub HasGenesisOn : {S E : Type 0} → (Held S → State) → Held S → Result (Node S) E → Type 0
HasGenesisOn shows conn result =
    (text : List ℕ) (items : List JournalItem) → IsAtRest (shows conn) text items
    → IfOk result (λ node. HasCleanDisk (node_journal shows node) → node_genesis node ≡ text)

-- the genesis that is given is that of the journal
abbrev pub IsGivenOn : {S E : Type 0} → (Held S → State) → Held S → Option (Bor (List ℕ)) → Result (Node S) E → Type 0
IsGivenOn shows conn genesis result =
    (text : List ℕ) (items : List JournalItem) → IsAtRest (shows conn) text items
    → IfOk result (λ node. HasCleanDisk (node_journal shows node) → IsGiven (option_copied genesis) text)

-- its marks are those of the journal's entries
abbrev pub IsMarkedOn : {S E : Type 0} → (Held S → State) → Held S → Result (Node S) E → Type 0
IsMarkedOn shows conn result =
    (text : List ℕ) (items : List JournalItem) → IsAtRest (shows conn) text items
    → IfOk result (λ node. HasCleanDisk (node_journal shows node) → IsMarked items node)

-- a node of a file with no table has the genesis that is given
abbrev pub BeginsWithGiven : {S E : Type 0} → (Held S → State) → Held S → Option (Bor (List ℕ)) → Result (Node S) E → Type 0
BeginsWithGiven shows conn genesis result =
    (shows conn).now.schema ≡ no_schema → IfOk result (λ node. option_copied genesis ≡ Some (node_genesis node))

-- a node of a file with no table has a journal at rest, with no entries
abbrev pub BeginsAtRest : {S E : Type 0} → (Held S → State) → Held S → Result (Node S) E → Type 0
BeginsAtRest shows conn result =
    (shows conn).now.schema ≡ no_schema
    → IfOk result (λ node. HasCleanDisk (node_journal shows node) → HasJournal shows (node_genesis node) [] node)

-- the connection has the tables of a journal, or none
abbrev pub IsJournalOrEmpty : State → Type 0
IsJournalOrEmpty s = (s.now.schema ≡ journal_schema) ⊎ (s.now.schema ≡ no_schema)

-- the disk is in no less doubt than before
abbrev pub IsAsCalm : State → State → Type 0
IsAsCalm old new = doubt old.is_clean ≤ doubt new.is_clean

-- of a node's own connection
abbrev pub StaysCalm : {S : Type 0} → (Held S → State) → Held S → Node S → Type 0
StaysCalm shows conn = λ node. IsAsCalm (shows conn) (node_journal shows node)

-- ---- where a node goes on

-- where a node of a journal at rest goes on
abbrev pub StartsAgain : {S E : Type 0} → (Held S → State) → Held S → Held S → Result GoingOn E → Type 0
StartsAgain shows old new result =
    (text : List ℕ) (items : List JournalItem) → IsAtRest (shows old) text items
    → HasCleanDisk (shows new) → IfOk result (λ start. IsRestarted text items start.world start.end)

-- it has the genesis of the journal
abbrev pub StartsWithGenesis : {S E : Type 0} → (Held S → State) → Held S → Held S → Result GoingOn E → Type 0
StartsWithGenesis shows old new result =
    (text : List ℕ) (items : List JournalItem) → IsAtRest (shows old) text items
    → HasCleanDisk (shows new) → IfOk result (λ start. start.genesis.items ≡ text)

-- the genesis that is given is that of the journal
abbrev pub StartsAsGiven : {S A E : Type 0} → (Held S → State) → Held S → Held S → Option (Bor (List ℕ)) → Result A E → Type 0
StartsAsGiven shows old new genesis result =
    (text : List ℕ) (items : List JournalItem) → IsAtRest (shows old) text items
    → HasCleanDisk (shows new) → OnOk result (IsGiven (option_copied genesis) text)

-- the marks are those of the journal's entries
abbrev pub StartsMarked : {S E : Type 0} → (Held S → State) → Held S → Held S → Result GoingOn E → Type 0
StartsMarked shows old new result =
    (text : List ℕ) (items : List JournalItem) → IsAtRest (shows old) text items
    → HasCleanDisk (shows new) → IfOk result (λ start. start.marks.items ≡ marks_from 0 items)

-- a world in the beginning
abbrev pub IsNewStart : GoingOn → Type 0
IsNewStart start = IsBegun start.genesis.items start.world start.end

-- nothing is marked
abbrev pub IsUnmarked : GoingOn → Type 0
IsUnmarked start = start.marks.items ≡ []

-- of a file with no table a start has the genesis that is given
abbrev pub StartsWithGiven : {S E : Type 0} → (Held S → State) → Held S → Option (Bor (List ℕ)) → Result GoingOn E → Type 0
StartsWithGiven shows old genesis result =
    (shows old).now.schema ≡ no_schema → IfOk result (λ start. option_copied genesis ≡ Some start.genesis.items)

-- of a file with no table a start has a journal at rest, with no entries
abbrev pub StartsAtRest : {S E : Type 0} → (Held S → State) → Held S → Held S → Result GoingOn E → Type 0
StartsAtRest shows old new result =
    (shows old).now.schema ≡ no_schema
    → HasCleanDisk (shows new) → IfOk result (λ start. IsAtRest (shows new) start.genesis.items [])

-- a world that begins with the genesis that the text says
abbrev pub IsWorldOfText : List ℕ → WorldState → Type 0
IsWorldOfText text =
    λ world. (genesis : GenesisState) × IsGenesisText text genesis × IsBeginning genesis world × IsTrue (is_allowed genesis)
