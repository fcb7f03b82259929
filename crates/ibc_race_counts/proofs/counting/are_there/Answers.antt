-- One receipt more is of a chain that is there.
use Rattle.std.proofs.Common.{All, arith, subst}
use Rattle.std.proofs.lemmas.List.{take_all}
use Rattle.std.proofs.lemmas.List.Elements.{All-more}
use Rattle.ibc_race_counts.specs.CountedReceipts.{IsThere}
use Rattle.ibc_race_counts.proofs.counting.are_there.Goals as goal

pub loop-receipt-preserved : goal.loop-receipt-preserved
loop-receipt-preserved g c =
    All-more (IsThere c.args.chains.now) c.args.receipts.now c.loop-receipt.receipt-index c.receipt-item.result c.loop-receipt-test.true c.loop-receipt.invariant
    (subst (IsThere c.args.chains.now) c.receipt-item.is (c.is_there.ensures c.if-not-is_there.false))

pub returns : goal.returns
returns g c always =
    subst (All (IsThere c.args.chains.now)) (take_all c.loop-receipt.receipt-index c.args.receipts.now (omega (arith, c.loop-receipt-test.false))) c.loop-receipt.invariant
