-- Pairs by their place.
use Rattle.std.specs.Prelude.{ℕ, zero, suc, [], slice_get, slice_index_or, Option, None}
use Rattle.ibc_ids.specs.Texts.{Text}
use Rattle.ibc_merkle.specs.Tree.{Pairs}

-- the key at a place
abbrev pub key_at : Pairs → ℕ → Text
key_at pairs index = (slice_index_or pairs index ([], [])).0

-- the pair before a place, if there is one
abbrev pub pair_before : Pairs → ℕ → Option (Text × Text)
pair_before pairs zero = None
pair_before pairs (suc index) = slice_get pairs index
