-- Which entries of a journal came by a log.
use Rattle.std.specs.Prelude.{◌≡◌, ◌+◌, ◌++◌, ℕ, zero, suc, List, [], ◌∷◌, Option, None, Some}
use Rattle.ibc_journal.specs.Tables.{JournalItem}
use Rattle.ibc_node.specs.declared.reading.LogMark.{LogMark}
use Rattle.ibc_node.specs.declared.node.Node.{Node}

-- The mark of an entry that has this place, where its event came by a place of a log: there 0 is none.
abbrev pub marks_by : ℕ → ℕ → List LogMark
marks_by zero place = []
marks_by (suc before) place = (record { log_place = suc before; place = place }) ∷ []

-- the same of what is told of an event: where no entry is kept, none is marked
abbrev pub marks_at : ℕ → Option ℕ → List LogMark
marks_at log_place None = []
marks_at log_place (Some place) = marks_by log_place place

-- the marks of entries, of which the first has this place
abbrev pub marks_from : ℕ → List JournalItem → List LogMark
marks_from place [] = []
marks_from place (it ∷ items) = marks_by it.log_place place ++ marks_from (place + 1) items

-- the place of a log in the last of the marks
abbrev pub IsLastPlace : List LogMark → ℕ → Type 0
IsLastPlace marks place = (front : List LogMark) (last : LogMark) → marks ≡ front ++ last ∷ [] → place ≡ last.log_place

abbrev pub node_marks : {S : Type 0} → Node S → List LogMark
node_marks node = node.marks.items

-- its marks are those of the entries
abbrev pub IsMarked : {S : Type 0} → List JournalItem → Node S → Type 0
IsMarked items node = node_marks node ≡ marks_from 0 items
