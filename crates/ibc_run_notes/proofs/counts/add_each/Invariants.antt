-- The counts so far are sums, and those behind are as they were.
use Rattle.std.proofs.Common.{◌≡◌, ℕ, ◌+◌, ◌-◌, ◌^◌, ◌<◌, ◌≤◌, min, length, get_or}
use Rattle.ibc_run_notes.proofs.counts.add_each.Given as goal

abbrev pub invariant-loop-place : goal.invariant-loop-place
invariant-loop-place l = record {
  as_many : length l.counts ≡ length l.fn.counts;
  so_far : (k : ℕ) → k < l.place → get_or l.counts k 0 ≡ min (get_or l.fn.counts k 0 + get_or l.others k 0) (2 ^ 64 - 1);
  behind : (k : ℕ) → l.place ≤ k → get_or l.counts k 0 ≡ get_or l.fn.counts k 0;
}
