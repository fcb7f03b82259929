-- The total of the first holdings grows by one holding in a turn.
use Rattle.std.proofs.Common.{◌^◌, true, false, arith}
use Rattle.ibc_lab.proofs.Totals.{total_more, too_large, total_all}
use Rattle.ibc_lab.proofs.genesis.are_small.Goals.{then-eq+in-Some, else-eq}
use Rattle.ibc_lab.proofs.genesis.are_small.Goals as goal

pub returns-in_default : goal.returns-in_default
returns-in_default c =
    too_large c.args.denom.now c.args.holdings.now c.loop-holding.holding-index c.holding-item.result c.loop-holding-test.true c.holding-item.is (2 ^ 128) c.if-eq.ensures
    (omega (arith, c.in_default.ensures))

pub loop-holding-preserved : goal.loop-holding-preserved
loop-holding-preserved c =
    elim c.if-eq.branch [
      | then-eq+in-Some w ↦
          let step = total_more c.args.denom.now c.args.holdings.now c.loop-holding.holding-index c.holding-item.result c.loop-holding-test.true c.holding-item.is true w.if-eq.ensures in
          record { small = omega (arith, w.in-Some.ensures, w.total-is); so_far = omega (arith, w.in-Some.ensures, w.total-is, step) }
      | else-eq w ↦
          let step = total_more c.args.denom.now c.args.holdings.now c.loop-holding.holding-index c.holding-item.result c.loop-holding-test.true c.holding-item.is false w.if-eq.ensures in
          record { small = omega (arith, w.total-is); so_far = omega (arith, w.total-is, step) }
    ]

pub returns : goal.returns
returns c = total_all c.args.denom.now c.args.holdings.now c.loop-holding.holding-index c.loop-holding.total (2 ^ 128) c.loop-holding-test.false c.loop-holding.invariant.so_far c.loop-holding.invariant.small
