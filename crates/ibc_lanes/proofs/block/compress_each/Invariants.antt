use Rattle.std.proofs.Common.{◌≡◌, ℕ, ◌<◌, ◌*◌, List}
use Rattle.sha2.specs.Sha256.{IsRoundsAt, first_words}
use Rattle.ibc_lanes.specs.Lanes.{lane, lane_words}
use Rattle.ibc_lanes.proofs.block.compress_each.Given as goal

abbrev pub invariant-schedule : goal.invariant-schedule
invariant-schedule l = (j : ℕ) (b : List ℕ) → j < 4 → lane_words j l.fn.words ≡ first_words b 16
    → IsRoundsAt b (lane j l.state) (lane_words j l.window) (lane j l.v) (16 * l.turn)
