use Rattle.std.proofs.Common.{◌-◌, ◌<◌, ◌≤◌, length, take, drop}
use Rattle.ibc_maps.specs.Sides.{AllBelow, AllAbove}
use Rattle.ibc_maps.specs.Chunks.{joined_chunks}
use Rattle.ibc_maps.proofs.row.place_of.Given as goal

abbrev pub invariant-loop-low : goal.invariant-loop-low
invariant-loop-low g l = record {
  order : l.low < l.high;
  within : l.high ≤ length l.chunks;
  below : AllBelow g.K.Ord.cmp l.key (joined_chunks (take l.low l.chunks));
  above : AllAbove g.K.Ord.cmp l.key (joined_chunks (drop l.high l.chunks));
}

abbrev pub decreases-loop-low : goal.decreases-loop-low
decreases-loop-low g l = l.high - l.low
