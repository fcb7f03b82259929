-- The list so far is of the holdings before the place.
use Rattle.std.proofs.Common.{◌≡◌, map, take}
use Rattle.ibc_bank.specs.SortedStarts.{shown}
use Rattle.ibc_bank.proofs.sorted_starts.references.Given as goal

abbrev pub invariant-loop-holding : goal.invariant-loop-holding
invariant-loop-holding l = map shown l.list.items ≡ take l.holding-index l.holdings
