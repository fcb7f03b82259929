-- The chains of the receipts so far are there.
use Rattle.std.proofs.Common.{All, take}
use Rattle.ibc_race_counts.specs.CountedReceipts.{IsThere}
use Rattle.ibc_race_counts.proofs.counting.are_there.Given as goal

abbrev pub invariant-loop-receipt : goal.invariant-loop-receipt
invariant-loop-receipt g l = All (IsThere l.chains) (take l.receipt-index l.receipts)
