-- The leaf of one pair, and the nodes above it.
use Rattle.std.proofs.Common.{◌≡◌, ℕ, ◌+◌, ◌-◌, ◌*◌, ◌≤◌, List, [], length, get_or, set, ap, ◌∙◌, subst, arith}
use Rattle.std.proofs.lemmas.List.{length-set}
use Rattle.ibc_merkle.specs.Tree.{Pairs}
use Rattle.ibc_forest.specs.Counts.{CountsEachNewLeaf}
use Rattle.ibc_forest.specs.Leaves.{row_pairs, keys, count_new, differ_count}
use Rattle.ibc_forest.specs.NodeLevels.{rows_of, first_row}
use Rattle.ibc_forest.proofs.Climbing.{if_ok, if_both}
use Rattle.ibc_forest.proofs.Counting.{least_more}
use Rattle.ibc_forest.proofs.LeafRows.{length-row_pairs, unlike_most}
use Rattle.ibc_forest.proofs.OneLeaf.{other_leaves, rows_few, few_texts, last_some}
use Rattle.ibc_forest.proofs.Turning.{last_leaves, over_pairs, levels_few, all_texts}
use Rattle.ibc_forest.proofs.Workings.{pyramid-grows}
use Rattle.ibc_forest.proofs.next_rows.put_other.Goals as goal

pub put_leaf-requires-clause-levels : goal.put_leaf-requires-clause-levels
put_leaf-requires-clause-levels c =
    pyramid-grows c.args.arena.now.trees c.other_leaf.new.arena.trees (rows_of c.args.rows.now) c.in_ok-leaf.ensures.grows
    (last_some c.args.arena.now.trees (rows_of c.args.rows.now) c.args.index c.requires.last c.requires.other.there).0

pub returns-clause-working : goal.returns-clause-working
returns-clause-working c =
    let rows = rows_of c.args.rows.now in
    let before = c.args.arena.now.trees in
    let leaf = c.in_ok-leaf.leaf in
    let its = other_leaves before c.other_leaf.new.arena.trees (first_row rows) c.args.entries.now c.args.index leaf (last_leaves before rows c.requires.last) c.in_ok-leaf.ensures.grows c.requires.other c.in_ok-leaf.ensures.leaf c.in_ok-leaf.ensures.there in
    if_both c.put_leaf.result _ _ _
    (λ _ levels row. (over_pairs c.other_leaf.new.arena.trees c.put_leaf.new.arena.trees (set (first_row rows) c.args.index leaf) (rows_of c.put_leaf.new.rows) c.args.entries.now its.0 its.1 c.put_leaf.ensures.grows levels row).0)
    c.put_leaf.ensures.levels c.put_leaf.ensures.row

pub returns-clause-pairs : goal.returns-clause-pairs
returns-clause-pairs c =
    let rows = rows_of c.args.rows.now in
    let before = c.args.arena.now.trees in
    let leaf = c.in_ok-leaf.leaf in
    let its = other_leaves before c.other_leaf.new.arena.trees (first_row rows) c.args.entries.now c.args.index leaf (last_leaves before rows c.requires.last) c.in_ok-leaf.ensures.grows c.requires.other c.in_ok-leaf.ensures.leaf c.in_ok-leaf.ensures.there in
    if_both c.put_leaf.result _ _ _
    (λ _ levels row. (over_pairs c.other_leaf.new.arena.trees c.put_leaf.new.arena.trees (set (first_row rows) c.args.index leaf) (rows_of c.put_leaf.new.rows) c.args.entries.now its.0 its.1 c.put_leaf.ensures.grows levels row).1)
    c.put_leaf.ensures.levels c.put_leaf.ensures.row

pub returns-clause-steps : goal.returns-clause-steps
returns-clause-steps c =
    let rows = rows_of c.args.rows.now in
    let before = c.args.arena.now.trees in
    let old = first_row rows in
    let last : Pairs = row_pairs before old in
    let entries : Pairs = c.args.entries.now in
    let new : ℕ = count_new last entries in
    let middle = c.other_leaf.new.arena.steps in
    let leaf : middle ≤ c.args.arena.now.steps + 2 * new =
    subst (λ (row : List ℕ). middle ≤ c.args.arena.now.steps + 2 * count_new (row_pairs before row) entries) c.first_of.ensures c.in_ok-leaf.ensures.steps
    in
    let low = rows_few before c.args.rows.now (last_some before rows c.args.index c.requires.last c.requires.other.there).0 in
    let olds = length-row_pairs before old in
    let counted : length entries ≡ length last = ap length c.requires.other.same ∙ length-set last c.args.index (get_or entries c.args.index ([], [])) in
    let there = c.requires.other.there in
    if_ok c.put_leaf.result _ _
    (λ _ _. few_texts new c.args.arena.now.steps middle c.put_leaf.new.arena.steps (differ_count c.in_ok-leaf.leaf (get_or old c.args.index 0)) (length c.args.rows.now - 1) (length entries) leaf c.put_leaf.ensures.steps
    (unlike_most c.in_ok-leaf.leaf (get_or old c.args.index 0)) (omega arith))
    c.put_leaf.ensures.levels

pub returns-clause-least : goal.returns-clause-least
returns-clause-least c =
    let entries : Pairs = c.args.entries.now in
    let before = c.args.arena.now in
    let after = c.other_leaf.new.arena.steps in
    let leaf : CountsEachNewLeaf (row_pairs before.trees (first_row (rows_of c.args.rows.now))) entries before.steps after =
    subst (λ (row : List ℕ). CountsEachNewLeaf (row_pairs before.trees row) entries before.steps after) c.first_of.ensures c.in_ok-leaf.ensures.least
    in
    if_ok c.put_leaf.result _ _ (λ _ more. least_more _ before.steps after c.put_leaf.new.arena.steps leaf more) c.put_leaf.ensures.least

pub returns-clause-same : goal.returns-clause-same
returns-clause-same c = λ same log few.
    let rows = rows_of c.args.rows.now in
    let before = c.args.arena.now.trees in
    let old = first_row rows in
    let last : Pairs = row_pairs before old in
    let entries : Pairs = c.args.entries.now in
    let new : ℕ = count_new last entries in
    let middle = c.other_leaf.new.arena.steps in
    let leaf : middle ≤ c.args.arena.now.steps + 2 * new =
    subst (λ (row : List ℕ). middle ≤ c.args.arena.now.steps + 2 * count_new (row_pairs before row) entries) c.first_of.ensures c.in_ok-leaf.ensures.steps
    in
    let differ : differ_count c.in_ok-leaf.leaf (get_or old c.args.index 0) ≤ new =
    subst (λ (row : List ℕ). keys entries ≡ keys (row_pairs before row) → differ_count c.in_ok-leaf.leaf (get_or row c.args.index 0) ≤ count_new (row_pairs before row) entries) c.first_of.ensures c.in_ok-leaf.ensures.same same
    in
    let olds = length-row_pairs before old in
    let counted : length entries ≡ length last = ap length c.requires.other.same ∙ length-set last c.args.index (get_or entries c.args.index ([], [])) in
    let low : length c.args.rows.now - 1 ≤ log = levels_few before c.args.rows.now log c.requires.last (let l = few in omega arith) in
    if_ok c.put_leaf.result _ _
    (λ _ _. all_texts new c.args.arena.now.steps middle c.put_leaf.new.arena.steps (differ_count c.in_ok-leaf.leaf (get_or old c.args.index 0)) (length c.args.rows.now - 1) log leaf c.put_leaf.ensures.steps differ low)
    c.put_leaf.ensures.levels
