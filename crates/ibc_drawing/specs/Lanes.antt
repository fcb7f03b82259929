-- Where the lanes of chains stand, from the left.
use Rattle.std.specs.Prelude.{ℕ, ◌+◌, ◌*◌}

-- the first lane stands behind the margin and the labels, and each other one so far behind the one before
abbrev pub lane_x : ℕ → ℕ
lane_x chain = 364 + 320 * chain

-- behind the last lane stand labels, and a margin
abbrev pub width_of : ℕ → ℕ
width_of chains = lane_x chains + 44
