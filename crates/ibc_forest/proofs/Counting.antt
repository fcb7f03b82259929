-- Counts that stop at 2^64 - 1, one after another.
use Rattle.std.proofs.Common.{◌≡◌, ℕ, ◌+◌, arith}
use Rattle.ibc_forest.specs.Counts.{CountsAtLeast}

-- so many texts more, and so many fewer to come
pub least_on : (all texts before rest from middle to : ℕ) → before ≡ texts + rest → CountsAtLeast texts middle to → CountsAtLeast all from (middle + before)
    → CountsAtLeast all from (to + rest)
least_on all texts before rest from middle to parts more so_far = omega arith

-- those that were to come are as many as before
pub least_turn : (all texts before rest from middle to : ℕ) → texts ≡ before → CountsAtLeast texts middle (to + rest) → CountsAtLeast all from (middle + before)
    → CountsAtLeast all from (to + rest)
least_turn all texts before rest from middle to same more so_far = omega arith

-- as many are to come
pub least_kept : (all rest from : ℕ) → all ≡ rest → CountsAtLeast all from (from + rest)
least_kept all rest from same = omega arith

-- none are to come
pub least_end : (all rest from to : ℕ) → rest ≡ 0 → CountsAtLeast all from (to + rest) → CountsAtLeast all from to
least_end all rest from to none so_far = omega arith

-- and then maybe others
pub least_more : (all from middle to : ℕ) → CountsAtLeast all from middle → CountsAtLeast 0 middle to → CountsAtLeast all from to
least_more all from middle to so_far more = omega arith
