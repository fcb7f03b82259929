-- Four leaves more.
use Rattle.std.proofs.Common.{◌≡◌, ◌+◌, ◌-◌, length, take, drop, map, ap, ◌∙◌, arith}
use Rattle.ibc_merkle.specs.Tree.{Pairs}
use Rattle.ibc_forest.specs.Levels.{leaf_of, trees_at}
use Rattle.ibc_forest.proofs.AddedLeaves.{added_four}
use Rattle.ibc_forest.proofs.leaves.add_four.Goals as goal

pub returns-clause-added : goal.returns-clause-added
returns-clause-added c =
    let entries : Pairs = c.args.entries.now in
    let row = c.args.row.now.items in
    let from = c.len-first.result in
    let n : from ≡ length row = let a = c.len-first.ensures in let k = c.args.row.now.ok.0 in omega arith in
    let four : (from + 4) - from ≡ 4 = omega arith in
    let made : trees_at c.leaf_four.new.self.trees c.in_ok-leaves.leaves ≡ map leaf_of (take 4 (drop (length row) entries)) =
    c.in_ok-leaves.ensures.leaves ∙ ap (λ k. map leaf_of (take k (drop from entries))) four ∙ ap (λ n. map leaf_of (take 4 (drop n entries))) n
    in
    added_four c.args.arena.now.trees c.leaf_four.new.self.trees c.args.old.now row c.extend_from_slice.new.self.items c.in_ok-leaves.leaves entries c.args.place c.args.arena.now.steps c.leaf_four.new.self.steps
    c.requires.leaves c.requires.sorted c.requires.last c.requires.first c.requires.place c.requires.found c.requires.some c.requires.new
    c.leaf_four.ensures.grows made c.in_ok-leaves.ensures.stand c.leaf_four.ensures.steps c.in_ok-extend_from_slice.ensures.items
