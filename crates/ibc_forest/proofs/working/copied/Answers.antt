-- One row more.
use Rattle.std.proofs.lemmas.List.Elements.{same_from_all_zip}
use Rattle.ibc_forest.proofs.Putting.{copied_row}
use Rattle.ibc_forest.proofs.working.copied.Goals as goal

pub loop-i-preserved : goal.loop-i-preserved
loop-i-preserved c =
    let same = same_from_all_zip _ c.index-rows-i.result.items c.in_ok-row.row.items c.in_ok-row.ensures.cases.0 (λ x y e. e) in
    copied_row c.args.rows.now c.loop-i.copy.items c.push.new.self.items c.loop-i.i c.index-rows-i.result c.in_ok-row.row c.loop-i-test.true c.loop-i.invariant c.index-rows-i.is same c.in_ok-push.ensures.items
