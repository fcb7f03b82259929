-- The leaf at the place has the pair that is first from there on.
use Rattle.std.proofs.Common.{◌<◌, length, sym, ap, ◌∙◌, arith}
use Rattle.ibc_merkle.specs.Proofs.{is_below}
use Rattle.ibc_forest.specs.Leaves.{is_in_front}
use Rattle.ibc_forest.proofs.LeafRows.{leaf_here, pairs_from}
use Rattle.ibc_forest.proofs.leaves.stands_in_front.Goals as goal

pub leaf_at-requires-clause-leaf : goal.leaf_at-requires-clause-leaf
leaf_at-requires-clause-leaf c =
    let l : c.args.at < length c.args.row.now = let some = c.if-at-row.false in let within = c.requires.within in omega arith in
    leaf_here c.args.arena.now.trees c.args.row.now c.args.at c.requires.leaves l

pub returns-else-at-row : goal.returns-else-at-row
returns-else-at-row c =
    let l : c.args.at < length c.args.row.now = let some = c.if-at-row.false in let within = c.requires.within in omega arith in
    let from = pairs_from c.args.arena.now.trees c.args.row.now c.args.at c.leaf_at.result.now l c.leaf_at.ensures in
    c.stands_below.ensures ∙ ap (is_below c.args.key.now) c.key.ensures ∙ sym (ap (is_in_front c.args.key.now) from)
