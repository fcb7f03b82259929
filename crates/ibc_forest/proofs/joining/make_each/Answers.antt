-- One node more is made.
use Rattle.std.proofs.Common.{◌∙◌, arith, get_or}
use Rattle.std.proofs.lemmas.List.{length-set}
use Rattle.ibc_forest.proofs.Gathered.{front_next, gathered_next}
use Rattle.ibc_forest.proofs.Pairing.{grows_on, stand-grows}
use Rattle.ibc_forest.proofs.joining.make_each.Goals as goal

pub loop-i-preserved : goal.loop-i-preserved
loop-i-preserved c =
    let before = c.args.arena.now.trees in
    let trees = c.loop-i.arena.trees in
    let after = c.join.new.self.trees in
    let row = c.args.row.now in
    let above = c.loop-i.above.items in
    let places = c.args.places.now in
    let i = c.loop-i.i in
    let node = c.in_ok-node.node in
    let so_far = c.loop-i.invariant in
    let steps = c.in_ok-node.ensures.steps in
    record {
      gathered =
          gathered_next trees after row above places i node (stand-grows before trees row so_far.grows c.requires.row) c.loop-i-test.true so_far.gathered
          c.in_ok-node.ensures.grows c.in_ok-node.ensures.there c.in_ok-node.ensures.made;
      counted = length-set above (get_or places i 0) node ∙ so_far.counted;
      grows = grows_on before trees after so_far.grows c.in_ok-node.ensures.grows;
      front = front_next c.args.above.now.items above places i node c.loop-i-test.true so_far.front;
      least = let least = so_far.least in omega arith;
      steps = let most = so_far.steps in omega arith;
    }
