-- The blocks of a text with its padding (FIPS 180-4, sections 5.1.1 and 5.2.1).
use Rattle.std.specs.Prelude.{◌≡◌, ℕ, ◌+◌, ◌*◌, ◌/◌, ◌%◌, List, length, take, drop}
use Rattle.ibc_ids.specs.Texts.{Text}
use Rattle.sha2.specs.Sha256.{padded_message}

-- how many blocks a text fills with its padding
abbrev pub block_count : Text → ℕ
block_count text = (length text + 72) / 64

-- a block of a text with its padding
abbrev pub block_at : Text → ℕ → Text
block_at text index = take 64 (drop (index * 64) (padded_message text))

-- the bytes begin with what stands behind the last whole block of a text, and its padding
abbrev pub IsEnd : Text → List ℕ → Type 0
IsEnd text bytes = take (64 * ((length text % 64 + 72) / 64)) bytes ≡ drop (64 * (length text / 64)) (padded_message text)
