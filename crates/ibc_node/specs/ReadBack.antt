-- How a journal is read back, and each entry put to a world again, by what the connection shows before and after.
use Rattle.std.specs.Prelude.{◌≡◌, ℕ, Bool, false, List, length, take, Result, IfErr, IfOk, OnOk}
use Rattle.sqlite.specs.Held.{Held}
use Rattle.sqlite.specs.State.{State, HasCleanDisk, IsUnchanged}
use Rattle.ibc_refinement.specs.World.{WorldState}
use Rattle.ibc_journal.specs.Digests.{HasReadAll, HasReadTo}
use Rattle.ibc_journal.specs.Restarts.{IsAtRest}
use Rattle.ibc_journal.specs.Tables.{IsJournal, JournalItem}
use Rattle.ibc_node.specs.Audits.{IfDiffers, IsUnlawful, OnDiffers, StopsAsKept}
use Rattle.ibc_node.specs.Faults.{IfFault, IsUnread, IsUnreadAt, IsUnreplayed}
use Rattle.ibc_node.specs.Kept.{HasReplayed}
use Rattle.ibc_node.specs.Marks.{marks_from}
use Rattle.ibc_node.specs.Nodes.{IsRestarted}
use Rattle.ibc_node.specs.declared.reading.Past.{Past}
use Rattle.ibc_node.specs.declared.unread.Unread.{Unread}

-- ---- a journal that began so is read, and replayed

-- the world is the replay of the entries
abbrev pub ReplaysJournal : {S E : Type 0} → (Held S → State) → Held S → Held S → List ℕ → Result Past E → Type 0
ReplaysJournal shows old new genesis result =
    (items : List JournalItem) → IsJournal (shows old).now genesis items
    → HasCleanDisk (shows new) → IfOk result (λ past. IsRestarted genesis items past.world past.end)

-- from a world on all entries are replayed
abbrev pub ReplaysEach : {S E : Type 0} → (Held S → State) → Held S → Held S → List ℕ → WorldState → Result Past E → Type 0
ReplaysEach shows old new genesis world result =
    (items : List JournalItem) → IsJournal (shows old).now genesis items
    → HasCleanDisk (shows new) → IfOk result (λ past. HasReplayed world items past.world)

-- all entries are read
abbrev pub ReadsAll : {S E : Type 0} → (Held S → State) → Held S → Held S → List ℕ → Result Past E → Type 0
ReadsAll shows old new genesis result =
    (items : List JournalItem) → IsJournal (shows old).now genesis items
    → HasCleanDisk (shows new) → IfOk result (λ past. HasReadAll genesis items past.end)

-- the marks are those of the entries
abbrev pub MarksAll : {S E : Type 0} → (Held S → State) → Held S → Held S → List ℕ → Result Past E → Type 0
MarksAll shows old new genesis result =
    (items : List JournalItem) → IsJournal (shows old).now genesis items
    → HasCleanDisk (shows new) → IfOk result (λ past. past.marks.items ≡ marks_from 0 items)

-- only of entries that are no lawful run a difference is told
abbrev pub DiffersUnlawful : {S A : Type 0} → (Held S → State) → Held S → Held S → List ℕ → Result A Unread → Type 0
DiffersUnlawful shows old new genesis result =
    (items : List JournalItem) → IsJournal (shows old).now genesis items
    → HasCleanDisk (shows new) → IfErr result (IfDiffers (IsUnlawful genesis items))

-- a difference that is told stops a world that is asked as the entries say
abbrev pub DiffersAsKept : {S A : Type 0} → (Held S → State) → Held S → Held S → List ℕ → WorldState → Result A Unread → Type 0
DiffersAsKept shows old new genesis world result =
    (items : List JournalItem) → IsJournal (shows old).now genesis items
    → HasCleanDisk (shows new) → IfErr result (IfDiffers (StopsAsKept world items))

-- why a journal isn't replayed
abbrev pub ReplayFails : {S A : Type 0} → (Held S → State) → Held S → Held S → List ℕ → Result A Unread → Type 0
ReplayFails shows old new genesis result =
    (items : List JournalItem) → IsJournal (shows old).now genesis items
    → HasCleanDisk (shows new) → IfErr result (IfFault (IsUnreplayed genesis items))

-- why a journal isn't read to its end
abbrev pub ReadFails : {S A : Type 0} → (Held S → State) → Held S → Held S → List ℕ → Result A Unread → Type 0
ReadFails shows old new genesis result =
    (items : List JournalItem) → IsJournal (shows old).now genesis items
    → HasCleanDisk (shows new) → IfErr result (IfFault (IsUnread genesis items))

-- where it goes well, a journal at rest is at rest still
abbrev pub RestsOnJournal : {S A E : Type 0} → (Held S → State) → Held S → Held S → List ℕ → Result A E → Type 0
RestsOnJournal shows old new genesis result =
    (items : List JournalItem) → IsAtRest (shows old) genesis items
    → HasCleanDisk (shows new) → OnOk result (IsAtRest (shows new) genesis items)

-- so it is where a difference is told
abbrev pub RestsWhereDiffers : {S A : Type 0} → (Held S → State) → Held S → Held S → List ℕ → Result A Unread → Type 0
RestsWhereDiffers shows old new genesis result =
    (items : List JournalItem) → IsAtRest (shows old) genesis items
    → HasCleanDisk (shows new) → IfErr result (OnDiffers (IsAtRest (shows new) genesis items))

-- ---- one entry more is read

-- the world goes on by the entry
abbrev pub ReplaysNext : {S A E : Type 0} → (Held S → State) → Held S → Held S → Past → Past → Result A E → Type 0
ReplaysNext shows old new before after result =
    (genesis : List ℕ) (items : List JournalItem) (beginning : WorldState) → IsJournal (shows old).now genesis items
    → HasReadTo genesis items before.end → HasReplayed beginning (take before.end.place items) before.world
    → HasCleanDisk (shows new) → OnOk result (HasReplayed beginning (take after.end.place items) after.world)

-- the reader goes on to the entry
abbrev pub ReadsOn : {S A E : Type 0} → (Held S → State) → Held S → Held S → Past → Past → Result A E → Type 0
ReadsOn shows old new before after result =
    (genesis : List ℕ) (items : List JournalItem) → IsJournal (shows old).now genesis items → HasReadTo genesis items before.end
    → HasCleanDisk (shows new) → OnOk result (HasReadTo genesis items after.end)

-- the entry is marked, where its event came by a log
abbrev pub MarksNext : {S A E : Type 0} → (Held S → State) → Held S → Held S → Past → Past → Result A E → Type 0
MarksNext shows old new before after result =
    (genesis : List ℕ) (items : List JournalItem) → IsJournal (shows old).now genesis items → HasReadTo genesis items before.end
    → before.marks.items ≡ marks_from 0 (take before.end.place items)
    → HasCleanDisk (shows new) → OnOk result (after.marks.items ≡ marks_from 0 (take after.end.place items))

-- where there is no entry more, the reader has come to the end
abbrev pub EndsWhereNone : {S E : Type 0} → (Held S → State) → Held S → Held S → Past → Past → Result Bool E → Type 0
EndsWhereNone shows old new before after result =
    (genesis : List ℕ) (items : List JournalItem) → IsJournal (shows old).now genesis items → HasReadTo genesis items before.end
    → HasCleanDisk (shows new) → IfOk result (λ more. more ≡ false → after.end.place ≡ length items)

-- a difference that is told stops a world that is asked as the entries say
abbrev pub DiffersNext : {S A : Type 0} → (Held S → State) → Held S → Held S → Past → Result A Unread → Type 0
DiffersNext shows old new before result =
    (genesis : List ℕ) (items : List JournalItem) (beginning : WorldState) → IsJournal (shows old).now genesis items
    → HasReadTo genesis items before.end → HasReplayed beginning (take before.end.place items) before.world
    → HasCleanDisk (shows new) → IfErr result (IfDiffers (StopsAsKept beginning items))

-- why a journal isn't read on
abbrev pub ReadNextFails : {S A : Type 0} → (Held S → State) → Held S → Held S → Past → Result A Unread → Type 0
ReadNextFails shows old new before result =
    (genesis : List ℕ) (items : List JournalItem) → IsJournal (shows old).now genesis items → HasReadTo genesis items before.end
    → HasCleanDisk (shows new) → IfErr result (IfFault (IsUnreadAt items before.end))

-- where a difference is told, the connection to a journal is as it was
abbrev pub LeavesWhereDiffers : {S A : Type 0} → (Held S → State) → Held S → Held S → Result A Unread → Type 0
LeavesWhereDiffers shows old new result =
    (genesis : List ℕ) (items : List JournalItem) → IsJournal (shows old).now genesis items
    → HasCleanDisk (shows new) → IfErr result (OnDiffers (IsUnchanged (shows old) (shows new)))
