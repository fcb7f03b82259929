-- The same key and the same value.
use Rattle.std.proofs.Common.{◌≡◌, ◌<◌, ◌&&◌, true, false, length, sym, ap, ap₂, ◌∙◌, arith}
use Rattle.ibc_ids.specs.Texts.{same_text}
use Rattle.ibc_forest.specs.Leaves.{begins_with}
use Rattle.ibc_forest.proofs.LeafRows.{leaf_here, pairs_from}
use Rattle.ibc_forest.proofs.leaves.is_there.Goals as goal

pub leaf_at-leaf-requires-clause-leaf : goal.leaf_at-leaf-requires-clause-leaf
leaf_at-leaf-requires-clause-leaf c =
    let l : c.args.at < length c.args.row.now = let some = c.if-at-row.false in let within = c.requires.within in omega arith in
    leaf_here c.args.arena.now.trees c.args.row.now c.args.at c.requires.leaves l

pub returns-then-is_same : goal.returns-then-is_same
returns-then-is_same c =
    let leaf = c.leaf_at-leaf.result.now in
    let entry = c.args.entry.now in
    let l : c.args.at < length c.args.row.now = let some = c.if-at-row.false in let within = c.requires.within in omega arith in
    let from = pairs_from c.args.arena.now.trees c.args.row.now c.args.at leaf l c.leaf_at-leaf.ensures in
    let first : same_text leaf.0 entry.0 ≡ true = sym (c.is_same.ensures ∙ ap₂ same_text c.key.ensures c.key-2.ensures) ∙ c.if-is_same.true in
    c.is_same-then-is_same.ensures ∙ ap₂ same_text c.value.ensures c.value-then-is_same.ensures ∙ sym (ap (begins_with entry) from ∙ ap (λ b. b && same_text leaf.1 entry.1) first)

pub returns-else-is_same : goal.returns-else-is_same
returns-else-is_same c =
    let leaf = c.leaf_at-leaf.result.now in
    let entry = c.args.entry.now in
    let l : c.args.at < length c.args.row.now = let some = c.if-at-row.false in let within = c.requires.within in omega arith in
    let from = pairs_from c.args.arena.now.trees c.args.row.now c.args.at leaf l c.leaf_at-leaf.ensures in
    let first : same_text leaf.0 entry.0 ≡ false = sym (c.is_same.ensures ∙ ap₂ same_text c.key.ensures c.key-2.ensures) ∙ c.if-is_same.false in
    c.if-is_same.false ∙ sym (ap (begins_with entry) from ∙ ap (λ b. b && same_text leaf.1 entry.1) first)
