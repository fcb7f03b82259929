-- What a node does at an event, and where what waits is put in.
use Rattle.std.specs.Prelude.{◌≡◌, ◌+◌, ◌≤◌, ◌++◌, ◌∷◌, ℕ, List, [], length, slice_get, Option, None, option_map, Result, IfErr, IfOk, IsOkAnd, OnErr, OnOk}
use Rattle.sqlite.specs.Held.{Held}
use Rattle.sqlite.specs.State.{State, HasCleanDisk, Survives}
use Rattle.ibc_ids.specs.declared.refusal.Refusal.TheVariants.{UnknownChain}
use Rattle.ibc_machine.specs.declared.event.Event.{Event}
use Rattle.ibc_machine.specs.declared.reply.Reply.TheVariants.{No}
use Rattle.ibc_machine.specs.ledger.Ledgers.{chain_of}
use Rattle.ibc_journal.specs.Crashes.{KeepsCommitted, Lasts}
use Rattle.ibc_journal.specs.Entries.{item, items_of}
use Rattle.ibc_journal.specs.Tables.{JournalItem}
use Rattle.ibc_journal.specs.declared.cursor.Cursor.{Cursor}
use Rattle.ibc_journal.specs.declared.entry.JournalEntry.{JournalEntry}
use Rattle.ibc_node.specs.Faults.{IsOfFile}
use Rattle.ibc_node.specs.Kept.{HasSpelling}
use Rattle.ibc_node.specs.Marks.{marks_at, marks_by, node_marks}
use Rattle.ibc_node.specs.Nodes.{HasJournal, HasKept, IsToldIn, LeavesAll, TakesEvent, node_end, node_journal, node_waiting, node_world, with_waiting}
use Rattle.ibc_node.specs.declared.fault.NodeFault.{NodeFault}
use Rattle.ibc_node.specs.declared.node.KeptAnswer.{KeptAnswer}
use Rattle.ibc_node.specs.declared.node.Node.{Node}

-- ---- a node is asked for an event

-- it goes on by the event
abbrev pub TakesKept : {S E : Type 0} → ℕ → Node S → Event → Node S → Result KeptAnswer E → Type 0
TakesKept log_place old event new result =
    (text : List ℕ) (items : List JournalItem) → HasKept text items old → IfOk result (λ answer. TakesEvent log_place text items old event answer new)

-- what is told is of what its world keeps
abbrev pub TellsKept : {S E : Type 0} → Node S → Event → Node S → Result KeptAnswer E → Type 0
TellsKept old event new result =
    (text : List ℕ) (items : List JournalItem) → HasKept text items old → IfOk result (λ answer. IsToldIn (node_world new) (chain_of event, answer))

-- the event of a chain that its world has not is refused
abbrev pub RefusesUnknown : {S E : Type 0} → Node S → Event → Result KeptAnswer E → Type 0
RefusesUnknown old event result =
    length (node_world old).ledgers ≤ chain_of event → IsOkAnd result (λ answer. answer.reply ≡ No UnknownChain)

-- nothing is kept of an event that no bytes spell, and its world is as it was
abbrev pub RefusesUnspelt : {S E : Type 0} → Node S → Event → Node S → Result KeptAnswer E → Type 0
RefusesUnspelt old event new result =
    ¬ HasSpelling event → IsOkAnd result (λ answer. (answer.place ≡ None) × (node_world new ≡ node_world old))

-- the entry that is kept is marked, where the event came by a log
abbrev pub MarksAnswer : {S : Type 0} → ℕ → Node S → Node S → KeptAnswer → Type 0
MarksAnswer log_place old new = λ answer. node_marks new ≡ node_marks old ++ marks_at log_place answer.place

-- ---- an entry waits

-- the end of a journal behind one entry more
abbrev pub IsEndBehind : Cursor → JournalItem → Cursor → Type 0
IsEndBehind before it = λ after. after ≡ record { place = before.place + 1; last = it.digest }

-- the entry waits behind the others
abbrev pub WaitsBehind : {S : Type 0} → Node S → JournalEntry → Node S → Type 0
WaitsBehind old entry new = items_of (node_waiting new) ≡ items_of (node_waiting old) ++ item entry ∷ []

-- it is marked, where its event came by a log
abbrev pub MarksWaiting : {S : Type 0} → ℕ → Node S → Node S → Type 0
MarksWaiting log_place old new = node_marks new ≡ node_marks old ++ marks_by log_place (node_end old).place

-- ---- what waits is put in

-- the journal at rest has all that waited
abbrev pub SettlesAll : {S A E : Type 0} → (Held S → State) → Node S → Node S → Result A E → Type 0
SettlesAll shows old new result =
    (text : List ℕ) (items : List JournalItem) → HasJournal shows text items old → HasKept text (with_waiting items old) old
    → HasCleanDisk (node_journal shows new) → OnOk result (HasJournal shows text (with_waiting items old) new)

-- a crash leaves all that waited
abbrev pub SettlesLasting : {S A E : Type 0} → (Held S → State) → Node S → Node S → Result A E → Type 0
SettlesLasting shows old new result =
    (text : List ℕ) (items : List JournalItem) → HasJournal shows text items old → HasKept text (with_waiting items old) old
    → HasCleanDisk (node_journal shows new) → OnOk result (Lasts (node_journal shows new) text (with_waiting items old))

-- after an error nothing of it is committed, as far as the connection is still open
abbrev pub SettlesNone : {S A E : Type 0} → (Held S → State) → Node S → Node S → Result A E → Type 0
SettlesNone shows old new result =
    (text : List ℕ) (items : List JournalItem) → HasJournal shows text items old → HasKept text (with_waiting items old) old
    → HasCleanDisk (node_journal shows new) → OnErr result (KeepsCommitted (node_journal shows old) (node_journal shows new))

-- only a file that can't be read or written stops it
abbrev pub FailsOfFile : {S A : Type 0} → Node S → Result A NodeFault → Type 0
FailsOfFile old result = (text : List ℕ) (items : List JournalItem) → HasKept text (with_waiting items old) old → IfErr result IsOfFile

-- a crash at any moment of it leaves what it could leave before, or all of what waited
abbrev pub SettleLeaves : {S : Type 0} → (Held S → State) → Node S → Node S → Type 0
SettleLeaves shows old new = Survives (node_journal shows old) (node_journal shows new) (LeavesAll shows old)

-- the entry at a place is found, or none where there is none
abbrev pub FindsEntryAt : {S E : Type 0} → (Held S → State) → Node S → Node S → ℕ → Result (Option JournalEntry) E → Type 0
FindsEntryAt shows old new place result =
    (text : List ℕ) (items : List JournalItem) → HasJournal shows text items old → HasKept text (with_waiting items old) old
    → HasCleanDisk (node_journal shows new) → IfOk result (λ found. option_map item found ≡ slice_get (with_waiting items old) place)
