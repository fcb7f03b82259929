-- The key at a place stands below, or it doesn't.
use Rattle.std.proofs.Common.{◌≡◌, true, false, sym, ap, ◌∙◌}
use Rattle.ibc_merkle.specs.Proofs.{is_below}
use Rattle.ibc_forest.proofs.LeafRows.{leaf_here, pairs_from, passes, stops}
use Rattle.ibc_forest.proofs.leaves.place_from.Goals as goal

pub leaf_at-requires-clause-leaf : goal.leaf_at-requires-clause-leaf
leaf_at-requires-clause-leaf c = leaf_here c.args.arena.now.trees c.args.row.now c.loop-at.at c.requires.leaves c.loop-at-test.true

pub returns-then-not-stands_below-clause-rest : goal.returns-then-not-stands_below-clause-rest
returns-then-not-stands_below-clause-rest c =
    let from = pairs_from c.args.arena.now.trees c.args.row.now c.loop-at.at c.leaf_at.result.now c.loop-at-test.true c.leaf_at.ensures in
    let below : is_below c.leaf_at.result.now.0 c.args.key.now ≡ false = sym (c.stands_below.ensures ∙ ap (λ key. is_below key c.args.key.now) c.key.ensures) ∙ c.if-not-stands_below.true in
    sym (stops c.args.key.now _ _ c.leaf_at.result.now from below) ∙ c.loop-at.invariant

pub loop-at-preserved : goal.loop-at-preserved
loop-at-preserved c =
    let from = pairs_from c.args.arena.now.trees c.args.row.now c.loop-at.at c.leaf_at.result.now c.loop-at-test.true c.leaf_at.ensures in
    let below : is_below c.leaf_at.result.now.0 c.args.key.now ≡ true = sym (c.stands_below.ensures ∙ ap (λ key. is_below key c.args.key.now) c.key.ensures) ∙ c.if-not-stands_below.false in
    sym (passes c.args.key.now _ _ c.leaf_at.result.now from below) ∙ c.loop-at.invariant
