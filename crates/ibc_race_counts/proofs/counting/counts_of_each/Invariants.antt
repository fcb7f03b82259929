-- The logs so far are counted.
use Rattle.std.proofs.Common.{take}
use Rattle.std.specs.List.{AllZip}
use Rattle.ibc_race_counts.specs.CountedReceipts.{IsCountedOn}
use Rattle.ibc_race_counts.proofs.counting.counts_of_each.Given as goal

abbrev pub invariant-loop-log : goal.invariant-loop-log
invariant-loop-log g l = AllZip (IsCountedOn l.chains) (take l.log-index l.logs) l.list.items
