-- The hash of an inner node, of its children's digests.
use Rattle.std.specs.Prelude.{ℕ}
use Rattle.ibc_ids.specs.Texts.{Text}
use Rattle.ibc_merkle.specs.Hash.{hash, inner_text, one_more}
use Rattle.ibc_lanes.specs.declared.inner.InnerPair.{InnerPair}

abbrev pub pair_hash : InnerPair → Text
pair_hash pair = hash (inner_text pair.left pair.right)

-- a number of hashed texts and four more
abbrev pub four_more : ℕ → ℕ
four_more steps = one_more (one_more (one_more (one_more steps)))
