-- The faults so far, and those of the holdings that are left, are all.
use Rattle.std.proofs.Common.{◌≡◌, ◌++◌, drop}
use Rattle.ibc_lab.specs.GenesisFaults.{holdings_faults}
use Rattle.ibc_lab.proofs.genesis.holdings.Given as goal

abbrev pub invariant-loop-index : goal.invariant-loop-index
invariant-loop-index l =
    l.found.items ++ holdings_faults l.chain l.all l.index (drop l.index l.all) ≡ l.fn.found.items ++ holdings_faults l.chain l.all 0 l.all
