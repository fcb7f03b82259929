-- A pair of a half is a pair of the whole.
use Rattle.std.proofs.Common.{arith}
use Rattle.ibc_forest.specs.Heights.{pairs_of}
use Rattle.ibc_forest.proofs.Descents.{halved_below, left_pair, right_pair}
use Rattle.ibc_forest.proofs.descent.+entry_at.Goals as goal

pub entry_at-requires : goal.entry_at-requires
entry_at-requires t c =
    let h = halved_below c.args.nodes.now c.args.node c.args.count c.below.result.now c.in-Children.left c.in-Children.right c.split_of-split.result c.requires.over c.below.ensures.built c.below.ensures.stand c.in-Children.is c.split_of-split.ensures.power in
    (omega arith, (h.on_left, c.if-index-split.true))

pub entry_at-requires-else-index-split : goal.entry_at-requires-else-index-split
entry_at-requires-else-index-split t c =
    let h = halved_below c.args.nodes.now c.args.node c.args.count c.below.result.now c.in-Children.left c.in-Children.right c.split_of-split.result c.requires.over c.below.ensures.built c.below.ensures.stand c.in-Children.is c.split_of-split.ensures.power in
    (omega arith, (h.on_right, omega arith))

pub returns-then-index-split : goal.returns-then-index-split
returns-then-index-split t c =
    let h = halved_below c.args.nodes.now c.args.node c.args.count c.below.result.now c.in-Children.left c.in-Children.right c.split_of-split.result c.requires.over c.below.ensures.built c.below.ensures.stand c.in-Children.is c.split_of-split.ensures.power in
    left_pair (pairs_of c.args.nodes.now c.args.node) _ c.split_of-split.result c.args.index c.entry_at.result.now h.left_pairs c.if-index-split.true c.entry_at.ensures

pub returns-else-index-split : goal.returns-else-index-split
returns-else-index-split t c =
    let h = halved_below c.args.nodes.now c.args.node c.args.count c.below.result.now c.in-Children.left c.in-Children.right c.split_of-split.result c.requires.over c.below.ensures.built c.below.ensures.stand c.in-Children.is c.split_of-split.ensures.power in
    right_pair (pairs_of c.args.nodes.now c.args.node) _ c.split_of-split.result c.args.index c.entry_at-else-index-split.result.now h.right_pairs c.if-index-split.false c.entry_at-else-index-split.ensures
