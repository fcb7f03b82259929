-- A right child, a left child, and an odd last one.
use Rattle.std.proofs.Common.{◌≡◌, ◌%◌, arith}
use Rattle.ibc_forest.specs.Levels.{tree_at}
use Rattle.ibc_forest.proofs.Climbing.{if_ok, above_even, above_odd, above_last}
use Rattle.ibc_forest.proofs.ascent.parent_at.Goals as goal

pub returns-then-index-eq1-clause-pair : goal.returns-then-index-eq1-clause-pair
returns-then-index-eq1-clause-pair c =
    if_ok c.pair.result _ _
    (λ parent made. above_odd c.args.arena.now.trees c.args.row.now c.args.index c.args.node (tree_at c.pair.new.self.trees parent) c.if-index-eq1.true c.requires.place made)
    c.pair.ensures.made

pub returns-then-index-row-clause-pair : goal.returns-then-index-row-clause-pair
returns-then-index-row-clause-pair c =
    let even : c.args.index % 2 ≡ 0 = let odd = c.if-index-eq1.false in omega arith in
    if_ok c.pair-then-index-row.result _ _
    (λ parent made. above_even c.args.arena.now.trees c.args.row.now c.args.index c.args.node (tree_at c.pair-then-index-row.new.self.trees parent) even c.if-index-row.true made)
    c.pair-then-index-row.ensures.made

pub returns-clause-pair : goal.returns-clause-pair
returns-clause-pair c =
    let even : c.args.index % 2 ≡ 0 = let odd = c.if-index-eq1.false in omega arith in
    above_last c.args.arena.now.trees c.args.row.now c.args.index c.args.node even (omega arith)
