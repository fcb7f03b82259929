-- The receipts are kept, and counted.
use Rattle.std.proofs.Common.{List, subst}
use Rattle.std.specs.List.{All}
use Rattle.ibc_ledger_lock.specs.ReceiptsAndReadings.{ReceiptModel}
use Rattle.ibc_race_counts.specs.CountedReceipts.{AreCountsOf, IsThere}
use Rattle.ibc_race_counts.proofs.AnsweredLogs.{are_kept}
use Rattle.ibc_race_counts.proofs.counting.counts_in.Goals as goal

pub returns : goal.returns
returns g c =
    let told = c.receipts-receipts.ensures.told in (
      are_kept c.args.chains.now c.args.log.now c.receipts-receipts.ensures.answered
          (subst (λ (l : List ReceiptModel). All (IsThere c.args.chains.now) l) told (c.are_there.ensures c.if-not-are_there.false)),
      subst (λ (l : List ReceiptModel). AreCountsOf l c.in_ok-counts.counts) told c.in_ok-counts.ensures,
    )
