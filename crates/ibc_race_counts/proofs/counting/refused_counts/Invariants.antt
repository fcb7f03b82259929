-- So many numbers are counted.
use Rattle.std.proofs.Common.{◌≡◌, map}
use Rattle.std.specs.List.{range_with_len}
use Rattle.ibc_race_counts.specs.CountedReceipts.{refused_with}
use Rattle.ibc_race_counts.proofs.counting.refused_counts.Given as goal

abbrev pub invariant-loop-number : goal.invariant-loop-number
invariant-loop-number g l = l.list.items ≡ map (refused_with l.receipts) (range_with_len 0 l.number)
