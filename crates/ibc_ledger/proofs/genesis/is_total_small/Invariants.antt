-- The total so far is that of the holdings before the place.
use Rattle.ibc_ledger.proofs.Common.{◌≡◌, ◌<◌, ◌^◌, take, total_of}
use Rattle.ibc_ledger.proofs.genesis.is_total_small.Given as goal

abbrev pub invariant-loop-holding : goal.invariant-loop-holding
invariant-loop-holding l = record { small : l.total < 2 ^ 128; so_far : l.total ≡ total_of l.denom (take l.holding-index l.holdings) }
