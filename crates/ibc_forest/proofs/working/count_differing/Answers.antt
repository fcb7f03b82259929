-- One place more.
use Rattle.std.proofs.Common.{get_or, arith}
use Rattle.ibc_forest.proofs.LeafRows.{unlike_not}
use Rattle.ibc_forest.proofs.Putting.{differing_more, unlike_so}
use Rattle.ibc_forest.proofs.working.count_differing.Goals as goal
use Rattle.ibc_forest.proofs.working.count_differing.Goals.{then-row-i, else-row-i}

pub loop-i-preserved : goal.loop-i-preserved
loop-i-preserved c =
    let row = c.args.row.now in
    let old = c.args.old.now in
    let i = c.loop-i.i in
    let more = differing_more row old i c.loop-i-test.true c.requires in
    let so_far = c.loop-i.invariant.counted in
    let most = c.loop-i.invariant.most in
    elim c.if-row-i.branch [
      | then-row-i w ↦
          let one = unlike_so (get_or row i 0) (get_or old i 0) w.if-row-i.true in
          let is = w.count-is in
          record { counted = omega arith; most = omega arith }
      | else-row-i w ↦
          let none = unlike_not (get_or row i 0) (get_or old i 0) w.if-row-i.false in
          let is = w.count-is in
          record { counted = omega arith; most = omega arith }
    ]
