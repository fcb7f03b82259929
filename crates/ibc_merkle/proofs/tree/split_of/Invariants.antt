use Rattle.std.proofs.Common.{◌≡◌, ◌<◌, ◌-◌}
use Rattle.ibc_merkle.specs.Tree.{doubled_below, largest_power_below}
use Rattle.ibc_merkle.proofs.tree.split_of.Given as goal

abbrev pub invariant-loop-split : goal.invariant-loop-split
invariant-loop-split l = record {
  some : 0 < l.split;
  below : l.split < l.leaves;
  doubles : doubled_below l.leaves l.split l.leaves ≡ largest_power_below l.leaves;
}

abbrev pub decreases-loop-split : goal.decreases-loop-split
decreases-loop-split l = l.leaves - l.split
