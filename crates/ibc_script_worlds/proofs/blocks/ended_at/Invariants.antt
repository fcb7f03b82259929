use Rattle.std.proofs.Common.{◌-◌, ◌≤◌}
use Rattle.ibc_script_worlds.specs.EndedBlocks.{AreCountedFrom, IsInside, ends_of}
use Rattle.ibc_script_worlds.proofs.blocks.ended_at.Given as goal

abbrev pub invariant-parts : goal.invariant-parts
invariant-parts l = record {
  order : l.low ≤ l.high;
  most : l.high ≤ l.limit;
  inside : AreCountedFrom 1 (ends_of l.history) → IsInside (ends_of l.history) l.limit l.height l.low l.high;
}

abbrev pub decreases-parts : goal.decreases-parts
decreases-parts l = l.high - l.low
