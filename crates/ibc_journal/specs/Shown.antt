-- What the queries of a journal show.
use Rattle.std.specs.Prelude.{[], ◌∷◌, List, ℕ, pos, Option, Some, None}
use Rattle.sqlite.specs.declared.types.Value.TheVariants.{Int, Blob}
use Rattle.sqlite.specs.Order.{Row}
use Rattle.ibc_journal.specs.Tables.{JournalItem, format}

-- an entry, less its place
abbrev pub shown_row : JournalItem → Row
shown_row it = Int (pos it.chain) ∷ Int (pos it.kind) ∷ Int (pos it.log_place) ∷ Blob it.event ∷ Blob it.answer ∷ Blob it.digest ∷ []

-- one row, or none where there is no entry
abbrev pub shown_rows : Option JournalItem → List Row
shown_rows None = []
shown_rows (Some it) = shown_row it ∷ []

-- how a journal began
abbrev pub shown_beginning : List ℕ → Row
shown_beginning genesis = Int (pos format) ∷ Blob genesis ∷ []
