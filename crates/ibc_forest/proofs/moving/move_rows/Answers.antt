-- One row more.
use Rattle.std.proofs.Common.{◌∙◌}
use Rattle.ibc_forest.proofs.Moved.{row_stands, rows_more, rows_stand_more}
use Rattle.ibc_forest.proofs.Pairing.{grows_on}
use Rattle.ibc_forest.proofs.moving.move_rows.Goals as goal

pub move_row-requires-clause-stand : goal.move_row-requires-clause-stand
move_row-requires-clause-stand c = row_stands c.args.old.now c.args.rows.now c.loop-i.i c.index-rows-i.result c.as_slice.result.now c.loop-i-test.true c.index-rows-i.is c.as_slice.ensures.value c.requires.stand

pub loop-i-preserved : goal.loop-i-preserved
loop-i-preserved c =
    let before = c.loop-i.new.trees in
    let after = c.move_row.new.new.trees in
    let next = c.loop-i.next.items in
    let copy = c.in_ok-row.row in
    let g = c.move_row.ensures.grows in
    record {
      same = rows_more c.args.old.now before after c.args.rows.now next c.push.new.self.items c.loop-i.i c.index-rows-i.result copy c.as_slice.result.now c.loop-i-test.true c.index-rows-i.is c.as_slice.ensures.value c.in_ok-row.ensures.same g c.loop-i.invariant.stand c.loop-i.invariant.same c.in_ok-push.ensures.items;
      stand = rows_stand_more before after next c.push.new.self.items copy g c.loop-i.invariant.stand c.in_ok-row.ensures.stand c.in_ok-push.ensures.items;
      moved = c.in_ok-row.ensures.moved;
      grows = grows_on c.args.new.now.trees before after c.loop-i.invariant.grows g;
      steps = c.move_row.ensures.steps ∙ c.loop-i.invariant.steps;
    }

pub returns-in_err-row-clause-grows : goal.returns-in_err-row-clause-grows
returns-in_err-row-clause-grows c = grows_on c.args.new.now.trees c.loop-i.new.trees c.move_row.new.new.trees c.loop-i.invariant.grows c.move_row.ensures.grows

pub returns-in_err-push-clause-grows : goal.returns-in_err-push-clause-grows
returns-in_err-push-clause-grows c = grows_on c.args.new.now.trees c.loop-i.new.trees c.move_row.new.new.trees c.loop-i.invariant.grows c.move_row.ensures.grows
