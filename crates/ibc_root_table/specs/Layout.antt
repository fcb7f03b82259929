-- Where the words of a table stand: the published words of the chains, then their floors, and then the rows, a ring for each chain.
use Rattle.std.specs.Prelude.{ℕ, ◌≡◌, ◌+◌, ◌*◌, ◌%◌, ◌<◌, List, length, slice_index}
use Rattle.ibc_root_table.specs.declared.shape.Shape.{Shape}

-- how many words a table has
abbrev pub table_size : Shape → ℕ
table_size shape = 2 * shape.chains + shape.chains * shape.window * 5

-- where a part of the row of the chain's k-th publication stands, k counted from 0
unfoldable pub place : Shape → ℕ → ℕ → ℕ → ℕ
place shape c k part = 2 * shape.chains + (c * shape.window + k % shape.window) * 5 + part

-- the chain's floor: its heights up to this one are gone
abbrev pub floor_at : Shape → List ℕ → ℕ → ℕ
floor_at shape words c = slice_index words (shape.chains + c)

-- the first words of the chain's k-th row are these
abbrev pub RowStands : Shape → List ℕ → ℕ → ℕ → List ℕ → Type 0
RowStands shape words c k row = (part : ℕ) → part < length row → slice_index words (place shape c k part) ≡ slice_index row part
