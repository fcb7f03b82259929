-- The logs so far are behind the receipts.
use Rattle.std.proofs.Common.{◌≡◌, ◌++◌, List, length}
use Rattle.std.specs.List.{flat_map}
use Rattle.std.specs.Vec.Iter.{into_iter_items, into_iter_len}
use Rattle.ibc_ledger_lock.specs.ReceiptsAndReadings.{ReceiptModel}
use Rattle.ibc_race_counts.proofs.racing.with_logs.Given as goal

abbrev pub invariant-loop-log : goal.invariant-loop-log
invariant-loop-log g l = record {
  counted : into_iter_len l.log-iterator ≡ length (into_iter_items l.log-iterator);
  held : l.all.items ++ flat_map (λ (told : List ReceiptModel). told) (into_iter_items l.log-iterator) ≡ l.fn.receipts.items ++ flat_map (λ (told : List ReceiptModel). told) l.fn.logs.items;
}
