-- The pair is looked for from its place on.
use Rattle.std.proofs.Common.{◌≡◌, ◌*◌, ◌≤◌, Ok, get_or, length, drop, sym, ap, ◌∙◌, subst, arith, OnOk}
use Rattle.ibc_merkle.specs.Tree.{Pairs}
use Rattle.ibc_merkle.proofs.Sorted.{rising_from_sorted}
use Rattle.ibc_forest.specs.Counts.{CountsAtLeast}
use Rattle.ibc_forest.specs.Leaves.{row_pairs, from_key}
use Rattle.ibc_forest.proofs.Finding.{FoundOne, found_one}
use Rattle.ibc_forest.proofs.LeafRows.{length-row_pairs}
use Rattle.ibc_forest.proofs.OneLeaf.{found_here, kept_or_new}
use Rattle.ibc_forest.proofs.leaves.other_leaf.Goals as goal

found : (c : goal.After-leaf_for) → FoundOne (row_pairs c.args.arena.now.trees c.args.old.now) c.args.entries.now c.args.index c.place_from-found.result c.index-entries-index.result
found c =
    let last : Pairs = row_pairs c.args.arena.now.trees c.args.old.now in
    let entries : Pairs = c.args.entries.now in
    let entry = c.index-entries-index.result in
    let index = c.args.index in
    let counted = length-row_pairs c.args.arena.now.trees c.args.old.now in
    let rest : drop c.place_from-found.result last ≡ from_key entry.0 (drop index last) = c.place_from-found.ensures.rest ∙ ap (λ key. from_key key (drop index last)) c.key.ensures in
    let within : c.place_from-found.result ≤ length last = let w = c.place_from-found.ensures.within in omega arith in
    let last_rises = rising_from_sorted last c.requires.last in
    let rises = rising_from_sorted entries c.requires.sorted in
    let other = c.requires.other in
    found_one last entries index c.place_from-found.result entry last_rises other c.index-entries-index.is within
    (found_here last entries index last_rises rises other.there other.here other.front) rest

pub returns-clause-steps : goal.returns-clause-steps
returns-clause-steps c = let few = (found c).count in let steps = c.leaf_for.ensures.steps in omega arith

pub returns-clause-least : goal.returns-clause-least
returns-clause-least c =
    subst (λ n. OnOk c.leaf_for.result (CountsAtLeast (2 * n) c.args.arena.now.steps c.leaf_for.new.arena.steps)) (sym (found c).count) c.leaf_for.ensures.least

pub returns-clause-same : goal.returns-clause-same
returns-clause-same c = λ same.
    let count = (found c).count in
    kept_or_new c.leaf_for.result _ _ _ (omega arith)
    (λ none. c.leaf_for.ensures.kept none ∙ ap (λ n. Ok (get_or c.args.old.now n 0)) ((found c).same same))
