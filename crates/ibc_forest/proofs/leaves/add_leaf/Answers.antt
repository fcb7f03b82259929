-- One leaf more.
use Rattle.std.proofs.Common.{◌≡◌, length, drop, get_or, ap, ◌∙◌, arith}
use Rattle.ibc_merkle.specs.Tree.{Pairs}
use Rattle.ibc_forest.specs.Leaves.{row_pairs, from_key, behind_key}
use Rattle.ibc_forest.proofs.AddedLeaves.{added_one}
use Rattle.ibc_forest.proofs.LeafRows.{leaves-grows}
use Rattle.ibc_forest.proofs.leaves.add_leaf.Goals as goal

pub place_behind-requires-clause-leaves : goal.place_behind-requires-clause-leaves
place_behind-requires-clause-leaves c = leaves-grows c.args.arena.now.trees c.leaf_for.new.arena.trees c.args.old.now c.leaf_for.ensures.grows c.requires.leaves

pub returns-clause-added : goal.returns-clause-added
returns-clause-added c =
    let before = c.args.arena.now.trees in
    let after = c.leaf_for.new.arena.trees in
    let old = c.args.old.now in
    let entries : Pairs = c.args.entries.now in
    let row = c.args.row.now.items in
    let entry = c.index-entries-len.result in
    let found = c.place_from-found.result in
    let n : c.len.result ≡ length row = let a = c.len.ensures in let k = c.args.row.now.ok.0 in omega arith in
    added_one before after old row c.push.new.self.items entries c.args.place found c.place_behind.result c.in_ok-leaf.leaf entry c.leaf_for.result c.args.arena.now.steps c.leaf_for.new.arena.steps
    c.requires.leaves c.requires.sorted c.requires.last c.requires.first c.requires.found c.requires.some
    (c.index-entries-len.is ∙ ap (λ n. get_or entries n entry) n) c.place_from-found.ensures.within
    (c.place_from-found.ensures.rest ∙ ap (λ key. from_key key (drop c.args.place (row_pairs before old))) c.key.ensures)
    c.place_behind.ensures.within (c.place_behind.ensures.rest ∙ ap (λ key. behind_key key (drop found (row_pairs after old))) c.key-2.ensures)
    c.leaf_for.ensures.grows c.in_ok-leaf.ensures.leaf c.in_ok-leaf.ensures.there c.leaf_for.ensures.steps c.in_ok-leaf.ensures.least c.leaf_for.ensures.kept c.in_ok-leaf.was
    c.in_ok-push.ensures.items
