-- Which faults a call may have.
use Rattle.std.specs.Prelude.{◌≡◌, ◌+◌, ◌≤◌, ◌^◌, ℕ, ⊤}
use Rattle.ibc_journal.specs.declared.fault.JournalFault.{JournalFault}
use Rattle.ibc_journal.specs.declared.fault.JournalFault.TheVariants.{Sqlite, Damaged, Gap, Early, Beginnings, Full}

-- of a reader at this place: it can't read, the entry there is damaged, or the place has no next one
abbrev pub IsOfReading : ℕ → JournalFault → Type 0
IsOfReading place (Sqlite error) = ⊤
IsOfReading place (Damaged at) = at ≡ place
IsOfReading place (Gap at) = ⊥
IsOfReading place Early = ⊥
IsOfReading place Beginnings = ⊥
IsOfReading place Full = 2 ^ 32 ≤ place + 1

-- of who asks whether a journal ends at this place: the file can't be read, the journal doesn't end there, or it doesn't begin at place 0
abbrev pub IsOfEnding : ℕ → JournalFault → Type 0
IsOfEnding place (Sqlite error) = ⊤
IsOfEnding place (Damaged at) = ⊥
IsOfEnding place (Gap at) = at ≡ place
IsOfEnding place Early = ⊤
IsOfEnding place Beginnings = ⊥
IsOfEnding place Full = ⊥

-- of who asks how a journal began: the file can't be read, or the first table hasn't one row
abbrev pub IsOfBeginning : JournalFault → Type 0
IsOfBeginning (Sqlite error) = ⊤
IsOfBeginning (Damaged at) = ⊥
IsOfBeginning (Gap at) = ⊥
IsOfBeginning Early = ⊥
IsOfBeginning Beginnings = ⊤
IsOfBeginning Full = ⊥
