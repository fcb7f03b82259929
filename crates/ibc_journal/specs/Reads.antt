-- What calls read of a journal, by what a connection shows before and after, and by the result.
use Rattle.std.specs.Prelude.{◌≡◌, ◌≢◌, ◌⊎◌, ◌+◌, ◌≤◌, ◌^◌, ◌∷◌, ℕ, pos, Bool, false, List, [], length, slice_get, Option, option_map, Result, Err, IfErr, IfOk, IsTrue, OnOk}
use Rattle.sqlite.specs.Held.{Held}
use Rattle.sqlite.specs.Order.{Row}
use Rattle.sqlite.specs.Recovery.{Image}
use Rattle.sqlite.specs.Schema.{Schema}
use Rattle.sqlite.specs.State.{State, HasCleanDisk, IsUnchanged}
use Rattle.ibc_journal.specs.Digests.{HasReadAll, HasReadTo, IsDamagedAt, IsFirstDamage, digest_after}
use Rattle.ibc_journal.specs.Entries.{item}
use Rattle.ibc_journal.specs.Restarts.{FindsJournal}
use Rattle.ibc_journal.specs.Shown.{shown_beginning, shown_rows}
use Rattle.ibc_journal.specs.Tables.{IsJournal, JournalItem, journal_schema}
use Rattle.ibc_journal.specs.declared.cursor.Cursor.{Cursor}
use Rattle.ibc_journal.specs.declared.entry.JournalEntry.{JournalEntry}
use Rattle.ibc_journal.specs.declared.fault.JournalFault.{JournalFault}
use Rattle.ibc_journal.specs.declared.fault.JournalFault.TheVariants.{Damaged, Early, Full, Gap}
use Rattle.ibc_journal.specs.declared.looking.Beginning.{Beginning}
use Rattle.ibc_journal.specs.declared.looking.Looks.{Looks}
use Rattle.ibc_journal.specs.declared.looking.Looks.TheVariants.{Journal}

-- a journal of this format, which began so
abbrev pub IsBeginningWith : List ℕ → Beginning → Type 0
IsBeginningWith genesis = λ began. (began.format ≡ pos 1) × (began.genesis.items ≡ genesis)

-- ---- calls that read a journal

-- where it goes well, the connection to a journal is as it was
abbrev pub LeavesTheSame : {S A E : Type 0} → (Held S → State) → Held S → Held S → Result A E → Type 0
LeavesTheSame shows old new result =
    (genesis : List ℕ) (items : List JournalItem) → IsJournal (shows old).now genesis items
    → HasCleanDisk (shows new) → OnOk result (IsUnchanged (shows old) (shows new))

-- a reader finds the entry at its place, or none at the end, and has read to the place behind it
abbrev pub ReadsNext : {S E : Type 0} → (Held S → State) → Held S → Held S → Cursor → Cursor → Result (Option JournalEntry) E → Type 0
ReadsNext shows old new before after result =
    (genesis : List ℕ) (items : List JournalItem) → IsJournal (shows old).now genesis items
    → HasReadTo genesis items before → HasCleanDisk (shows new)
    → IfOk result (λ found. (option_map item found ≡ slice_get items before.place) × HasReadTo genesis items after)

-- damage that is told is at the reader's place
abbrev pub TellsDamage : {S A : Type 0} → (Held S → State) → Held S → Held S → Cursor → Result A JournalFault → Type 0
TellsDamage shows old new before result =
    (genesis : List ℕ) (items : List JournalItem) → IsJournal (shows old).now genesis items
    → HasCleanDisk (shows new) → (place : ℕ) → result ≡ Err (Damaged place) → (place ≡ before.place) × IsDamagedAt items before

-- only a journal with 2^32 entries or more is told to be full
abbrev pub TellsFull : {S A : Type 0} → (Held S → State) → Held S → Held S → Result A JournalFault → Type 0
TellsFull shows old new result =
    (genesis : List ℕ) (items : List JournalItem) → IsJournal (shows old).now genesis items
    → HasCleanDisk (shows new) → result ≡ Err Full → 2 ^ 32 ≤ length items

-- the entry at a place is found, or none where there is none
abbrev pub FindsAt : {S E : Type 0} → (Held S → State) → Held S → Held S → ℕ → Result (Option JournalEntry) E → Type 0
FindsAt shows old new place result =
    (genesis : List ℕ) (items : List JournalItem) → IsJournal (shows old).now genesis items
    → HasCleanDisk (shows new) → IfOk result (λ found. option_map item found ≡ slice_get items place)

-- it is told how a journal began
abbrev pub TellsBeginning : {S E : Type 0} → (Held S → State) → Held S → Held S → Result Beginning E → Type 0
TellsBeginning shows old new result =
    (genesis : List ℕ) (items : List JournalItem) → IsJournal (shows old).now genesis items
    → HasCleanDisk (shows new) → IfOk result (IsBeginningWith genesis)

-- ---- the end of a journal

-- where a journal ends at the place, no gap is told
abbrev pub TellsNoGapAt : {S A : Type 0} → (Held S → State) → Held S → Held S → ℕ → Result A JournalFault → Type 0
TellsNoGapAt shows old new place result =
    (genesis : List ℕ) (items : List JournalItem) → IsJournal (shows old).now genesis items → place ≡ length items
    → HasCleanDisk (shows new) → IfErr result (λ fault. (at : ℕ) → fault ≢ Gap at)

-- of a journal no entry before place 0 is told
abbrev pub TellsNoEarly : {S A : Type 0} → (Held S → State) → Held S → Held S → Result A JournalFault → Type 0
TellsNoEarly shows old new result =
    (genesis : List ℕ) (items : List JournalItem) → IsJournal (shows old).now genesis items
    → HasCleanDisk (shows new) → IfErr result (λ fault. fault ≢ Early)

-- where it goes well, a journal has no entry from the place on
abbrev pub EndsBefore : {S A E : Type 0} → (Held S → State) → Held S → Held S → ℕ → Result A E → Type 0
EndsBefore shows old new place result =
    (genesis : List ℕ) (items : List JournalItem) → IsJournal (shows old).now genesis items
    → HasCleanDisk (shows new) → OnOk result (length items ≤ place)

-- of a journal no entry before place 0 is found
abbrev pub FindsNoneEarly : {S E : Type 0} → (Held S → State) → Held S → Held S → Result Bool E → Type 0
FindsNoneEarly shows old new result =
    (genesis : List ℕ) (items : List JournalItem) → IsJournal (shows old).now genesis items
    → HasCleanDisk (shows new) → IfOk result (λ has. has ≡ false)

-- the end of a journal is found at the place
abbrev pub FindsEndAt : {S E : Type 0} → (Held S → State) → Held S → Held S → ℕ → Result Bool E → Type 0
FindsEndAt shows old new place result =
    (genesis : List ℕ) (items : List JournalItem) → IsJournal (shows old).now genesis items → place ≡ length items
    → HasCleanDisk (shows new) → IfOk result (λ is. IsTrue is)

-- an end is found only where a journal has no entry from the place on
abbrev pub FindsNoMore : {S E : Type 0} → (Held S → State) → Held S → Held S → ℕ → Result Bool E → Type 0
FindsNoMore shows old new place result =
    (genesis : List ℕ) (items : List JournalItem) → IsJournal (shows old).now genesis items
    → HasCleanDisk (shows new) → IfOk result (λ is. IsTrue is → length items ≤ place)

-- ---- audits of a journal that began so

-- where it goes well, all of the journal is read
abbrev pub AuditsWhole : {S E : Type 0} → (Held S → State) → Held S → Held S → List ℕ → Result Cursor E → Type 0
AuditsWhole shows old new genesis result =
    (items : List JournalItem) → IsJournal (shows old).now genesis items
    → HasCleanDisk (shows new) → IfOk result (HasReadAll genesis items)

-- damage that is told is the first
abbrev pub AuditsDamage : {S A : Type 0} → (Held S → State) → Held S → Held S → List ℕ → Result A JournalFault → Type 0
AuditsDamage shows old new genesis result =
    (items : List JournalItem) → IsJournal (shows old).now genesis items
    → HasCleanDisk (shows new) → (place : ℕ) → result ≡ Err (Damaged place) → IsFirstDamage genesis items place

-- no gap is told of a journal
abbrev pub AuditsNoGap : {S A : Type 0} → (Held S → State) → Held S → Held S → List ℕ → Result A JournalFault → Type 0
AuditsNoGap shows old new genesis result =
    (items : List JournalItem) → IsJournal (shows old).now genesis items
    → HasCleanDisk (shows new) → (place : ℕ) → result ≢ Err (Gap place)

-- only a journal with 2^32 entries or more is told to be full
abbrev pub AuditsFull : {S A : Type 0} → (Held S → State) → Held S → Held S → List ℕ → Result A JournalFault → Type 0
AuditsFull shows old new genesis result =
    (items : List JournalItem) → IsJournal (shows old).now genesis items
    → HasCleanDisk (shows new) → result ≡ Err Full → 2 ^ 32 ≤ length items

-- ---- what is read

-- the entry has the digest that is due behind the reader's, and the reader has passed over it
abbrev pub PassesOver : Cursor → JournalItem → Cursor → Type 0
PassesOver before it after = (it.digest ≡ digest_after before.last it) × (after ≡ record { place = before.place + 1; last = it.digest })

-- there is no next place, or the entry at the reader's place is damaged
abbrev pub IsNotPassed : Cursor → JournalItem → JournalFault → Type 0
IsNotPassed before it = λ fault. (fault ≡ Full) ⊎ ((fault ≡ Damaged before.place) × (it.digest ≢ digest_after before.last it))

-- the entry that the first row shows, or none where there is no row
abbrev pub ShowsFirstEntry : {E : Type 0} → List Row → Result (Option JournalEntry) E → Type 0
ShowsFirstEntry rows result = (o : Option JournalItem) → rows ≡ shown_rows o → IfOk result (λ found. option_map item found ≡ o)

-- how a journal began, of which the only row shows it
abbrev pub ShowsOnlyBeginning : {E : Type 0} → List Row → Result Beginning E → Type 0
ShowsOnlyBeginning rows result = (genesis : List ℕ) → rows ≡ shown_beginning genesis ∷ [] → IfOk result (IsBeginningWith genesis)

-- how a journal began, of which a row shows it
abbrev pub ShowsBeginning : {E : Type 0} → Row → Result Beginning E → Type 0
ShowsBeginning row result = (genesis : List ℕ) → row ≡ shown_beginning genesis → IfOk result (IsBeginningWith genesis)

-- the connection has these tables, and is as it was
abbrev pub HasStill : {S : Type 0} → (Held S → State) → Schema → Held S → Held S → Type 0
HasStill shows schema old new = ((shows old).now.schema ≡ schema) × (new ≡ old)

-- a connection with the tables of a journal looks like one
abbrev pub SeesJournal : {S E : Type 0} → (Held S → State) → Held S → Result Looks E → Type 0
SeesJournal shows old result = (shows old).now.schema ≡ journal_schema → IfOk result (λ looks. looks ≡ Journal)

-- where the disk is clean, the connection is over the journal that the files hold
abbrev pub OpensJournal : {S : Type 0} → (Held S → State) → Image → Held S → Type 0
OpensJournal shows image = λ conn. HasCleanDisk (shows conn) → FindsJournal image (shows conn)
