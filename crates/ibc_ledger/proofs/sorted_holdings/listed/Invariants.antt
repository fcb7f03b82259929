-- The list so far is of the holdings before the place.
use Rattle.std.proofs.Common.{◌≡◌, take}
use Rattle.ibc_ledger.specs.SortedHoldings.{all_shown}
use Rattle.ibc_ledger.proofs.sorted_holdings.listed.Given as goal

abbrev pub invariant-loop-holding : goal.invariant-loop-holding
invariant-loop-holding l = all_shown l.list.items ≡ take l.holding-index l.holdings
