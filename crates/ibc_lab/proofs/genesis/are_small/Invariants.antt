-- The total so far is that of the holdings before the place.
use Rattle.std.proofs.Common.{◌≡◌, ◌<◌, ◌^◌, take}
use Rattle.ibc_machine.specs.chain.Genesis.{total_of}
use Rattle.ibc_lab.proofs.genesis.are_small.Given as goal

abbrev pub invariant-loop-holding : goal.invariant-loop-holding
invariant-loop-holding l = record { small : l.total < 2 ^ 128; so_far : l.total ≡ total_of l.denom (take l.holding-index l.holdings) }
