-- The lists of publications of a table, and the words of a row.
use Rattle.std.specs.Prelude.{ℕ, ◌≡◌, ◌*◌, ◌<◌, ◌≤◌, List, [], ◌∷◌, ◌++◌, length, slice_index, take, drop}
use Rattle.std.specs.Int.{from_be_bytes, to_be_bytes, w64}
use Rattle.ibc_ids.specs.declared.publication.Publication.{Publication}
use Rattle.ibc_ids.specs.Publications.{height_of}
use Rattle.ibc_root_table.specs.declared.shape.Shape.{Shape}

abbrev pub publication : ℕ → List ℕ → ℕ → Publication
publication chain root time = record { chain = chain; root = root; time = time }

-- thirty-two bytes
abbrev pub IsRoot : List ℕ → Type 0
IsRoot bytes = (length bytes ≡ 32) × ((i : ℕ) → slice_index bytes i < 256)

-- who has published is a chain of the table, and has published no more than it may
abbrev pub IsWithin : Shape → List Publication → Type 0
IsWithin shape log = (c : ℕ) → 0 < height_of c log → (c < shape.chains) × (height_of c log ≤ shape.capacity)

-- the words of a row: four of the root, big-endian, and the time
abbrev pub root_word : List ℕ → ℕ → ℕ
root_word bytes part = from_be_bytes w64 (take 8 (drop (8 * part) bytes))

abbrev pub row_of : List ℕ → ℕ → List ℕ
row_of bytes time = root_word bytes 0 ∷ root_word bytes 1 ∷ root_word bytes 2 ∷ root_word bytes 3 ∷ time ∷ []

abbrev pub row_words : Publication → List ℕ
row_words p = row_of p.root p.time

-- the bytes that four words stand for
abbrev pub bytes_of : ℕ → ℕ → ℕ → ℕ → List ℕ
bytes_of a b c d = to_be_bytes w64 a ++ (to_be_bytes w64 b ++ (to_be_bytes w64 c ++ to_be_bytes w64 d))

abbrev pub bytes_of_row : List ℕ → List ℕ
bytes_of_row row = bytes_of (slice_index row 0) (slice_index row 1) (slice_index row 2) (slice_index row 3)

-- the publication that a whole row stands for
abbrev pub publication_of_row : ℕ → List ℕ → Publication
publication_of_row chain row = publication chain (bytes_of_row row) (slice_index row 4)
