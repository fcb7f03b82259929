-- One log more is counted.
use Rattle.std.proofs.Common.{List, arith, subst}
use Rattle.std.specs.List.{AllZip}
use Rattle.std.proofs.lemmas.List.{take_all}
use Rattle.ibc_ledger_lock.specs.ReceiptsAndReadings.{ReceiptModel}
use Rattle.ibc_race_counts.specs.CountedReceipts.{IsCountedOn}
use Rattle.ibc_race_counts.proofs.CountedLogs.{zip_more}
use Rattle.ibc_race_counts.proofs.counting.counts_of_each.Goals as goal

pub loop-log-preserved : goal.loop-log-preserved
loop-log-preserved g c =
    let counts = c.in_ok-counts_in.field-0 in
    zip_more (IsCountedOn c.args.chains.now) c.args.logs.now c.loop-log.list.items c.push.new.self.items counts c.loop-log.log-index c.log-item.result
    c.loop-log-test.true c.in_ok-push.ensures.items
    (subst (λ (l : List ReceiptModel). IsCountedOn c.args.chains.now l counts) c.log-item.is c.in_ok-counts_in.ensures) c.loop-log.invariant

pub returns : goal.returns
returns g c =
    subst (λ (l : List (List ReceiptModel)). AllZip (IsCountedOn c.args.chains.now) l c.loop-log.list.items)
    (take_all c.loop-log.log-index c.args.logs.now (omega (arith, c.loop-log-test.false))) c.loop-log.invariant
