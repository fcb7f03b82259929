-- The leaf at the place has the key, or it hasn't.
use Rattle.std.proofs.Common.{◌≡◌, ◌<◌, true, false, length, sym, ap, ◌∙◌, arith}
use Rattle.ibc_ids.specs.Texts.{same_text}
use Rattle.ibc_forest.proofs.LeafRows.{leaf_here, pairs_from, leaves_behind, leaves_none}
use Rattle.ibc_forest.proofs.leaves.place_behind.Goals as goal

pub leaf_at-requires-clause-leaf : goal.leaf_at-requires-clause-leaf
leaf_at-requires-clause-leaf c =
    let l : c.args.at < length c.args.row.now = let some = c.if-at-row.false in let within = c.requires.within in omega arith in
    leaf_here c.args.arena.now.trees c.args.row.now c.args.at c.requires.leaves l

pub returns-then-is_same-clause-rest : goal.returns-then-is_same-clause-rest
returns-then-is_same-clause-rest c =
    let l : c.args.at < length c.args.row.now = let some = c.if-at-row.false in let within = c.requires.within in omega arith in
    let from = pairs_from c.args.arena.now.trees c.args.row.now c.args.at c.leaf_at.result.now l c.leaf_at.ensures in
    let same : same_text c.leaf_at.result.now.0 c.args.key.now ≡ true = sym (c.is_same.ensures ∙ ap (λ key. same_text key c.args.key.now) c.key.ensures) ∙ c.if-is_same.true in
    sym (leaves_behind c.args.key.now _ _ c.leaf_at.result.now from same)

pub returns-clause-rest : goal.returns-clause-rest
returns-clause-rest c =
    let l : c.args.at < length c.args.row.now = let some = c.if-at-row.false in let within = c.requires.within in omega arith in
    let from = pairs_from c.args.arena.now.trees c.args.row.now c.args.at c.leaf_at.result.now l c.leaf_at.ensures in
    let other : same_text c.leaf_at.result.now.0 c.args.key.now ≡ false = sym (c.is_same.ensures ∙ ap (λ key. same_text key c.args.key.now) c.key.ensures) ∙ c.if-is_same.false in
    sym (leaves_none c.args.key.now _ _ c.leaf_at.result.now from other)
