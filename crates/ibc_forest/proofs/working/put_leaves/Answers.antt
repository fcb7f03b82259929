-- One place more.
use Rattle.std.proofs.Common.{◌≡◌, ◌-◌, ◌*◌, ◌∙◌, ap₂, arith, get_or, length}
use Rattle.ibc_forest.specs.Leaves.{differ_count}
use Rattle.ibc_forest.specs.NodeLevels.{rows_of, first_row}
use Rattle.ibc_forest.proofs.Counting.{least_more}
use Rattle.ibc_forest.proofs.Pairing.{grows_on}
use Rattle.ibc_forest.proofs.Putting.{put_one, differing_more_times}
use Rattle.ibc_forest.proofs.working.put_leaves.Goals as goal

pub loop-i-preserved : goal.loop-i-preserved
loop-i-preserved c =
    let row = c.args.row.now in
    let old = first_row (rows_of c.args.rows.now) in
    let now = first_row (rows_of c.loop-i.rows) in
    let i = c.loop-i.i in
    let above = length c.args.rows.now - 1 in
    let counted : length c.loop-i.rows ≡ length c.args.rows.now = c.loop-i.auto.rows in
    let w = put_one row old now i c.loop-i-test.true c.requires.counted c.loop-i.invariant.row in
    let times : differ_count (get_or row i 0) (get_or now i 0) * (length c.loop-i.rows - 1) ≡ differ_count (get_or row i 0) (get_or old i 0) * above =
    ap₂ (λ x n. differ_count (get_or row i 0) x * (n - 1)) w.1 counted
    in
    let more = differing_more_times row old i above c.loop-i-test.true c.requires.counted in
    let so_far = c.loop-i.invariant.steps in
    let steps = c.put_leaf.ensures.steps in
    record {
      levels = c.in_ok-put_leaf.ensures.levels;
      row = c.in_ok-put_leaf.ensures.row ∙ w.2;
      grows = grows_on c.args.arena.now.trees c.loop-i.arena.trees c.put_leaf.new.arena.trees c.loop-i.invariant.grows c.put_leaf.ensures.grows;
      least = least_more 0 c.args.arena.now.steps c.loop-i.arena.steps c.put_leaf.new.arena.steps c.loop-i.invariant.least c.in_ok-put_leaf.ensures.least;
      steps = omega arith;
    }
