-- The holdings before the place are fair among each other.
use Rattle.ibc_ledger.specs.SortedHoldings.{AreFairSoFar, all_shown}
use Rattle.ibc_ledger.proofs.sorted_holdings.are_fair_in_order.Given as goal

abbrev pub invariant-loop-i : goal.invariant-loop-i
invariant-loop-i l = AreFairSoFar (all_shown l.sorted) l.i l.total
