-- The spot behind what is left is the one behind all.
use Rattle.std.proofs.Common.{◌≡◌, ◌≤◌, ◌+◌, drop}
use Rattle.ibc_lab.specs.Spots.{spot_after}
use Rattle.ibc_lab.proofs.position.spot_behind.Given as goal

abbrev pub invariant-loop-byte : goal.invariant-loop-byte
invariant-loop-byte l = record {
  lines : l.line ≤ l.byte-index + 1;
  columns : l.column ≤ l.byte-index + 1;
  spot : spot_after l.line l.column (drop l.byte-index l.before) ≡ spot_after 1 1 l.before;
}
