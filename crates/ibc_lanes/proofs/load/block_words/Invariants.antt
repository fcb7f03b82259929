use Rattle.std.proofs.Common.{◌≡◌, ℕ, ◌+◌, ◌*◌, ◌<◌, [], length, slice_index_or}
use Rattle.sha2.specs.Sha256.{word_at}
use Rattle.ibc_lanes.specs.Lanes.{lane_at}
use Rattle.ibc_lanes.proofs.load.block_words.Given as goal

abbrev pub invariant-load : goal.invariant-load
invariant-load g l = (length l.words ≡ 16) × ((j k : ℕ) → j < 4 → k < l.i
    → lane_at l.words k j ≡ word_at (slice_index_or l.texts j []) (l.start + 4 * k))
