-- The chains so far have as many entries as are told.
use Rattle.std.proofs.Common.{◌≡◌, ◌<◌, ℕ, slice_get}
use Rattle.std.specs.Option.{unwrap_or}
use Rattle.ibc_explain.specs.EntryLines.{entries_of}
use Rattle.ibc_explain.proofs.places.are_all_told.Given as goal

abbrev pub invariant-loop-chain : goal.invariant-loop-chain
invariant-loop-chain l = (k : ℕ) → k < l.chain → unwrap_or (slice_get l.told k) 0 ≡ entries_of l.world.ledgers k
