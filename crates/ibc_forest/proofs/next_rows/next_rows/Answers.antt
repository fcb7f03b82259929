-- The rows over the leaves of the pairs.
use Rattle.std.proofs.Common.{◌≡◌, ℕ, List, ◌+◌, ◌-◌, ◌*◌, ◌≤◌, length, subst, arith}
use Rattle.ibc_merkle.specs.Tree.{Pairs}
use Rattle.ibc_forest.specs.Counts.{CountsEachNewLeaf}
use Rattle.ibc_forest.specs.Leaves.{row_pairs, keys, count_new, differing_count}
use Rattle.ibc_forest.specs.NodeLevels.{rows_of, first_row}
use Rattle.ibc_forest.proofs.Climbing.{if_ok, if_both}
use Rattle.ibc_forest.proofs.Counting.{least_more}
use Rattle.ibc_forest.proofs.LeafRows.{length-row_pairs}
use Rattle.ibc_forest.proofs.Turning.{last-grows, over_pairs, row_count, same_keys_count, levels_few, all_texts}
use Rattle.ibc_forest.proofs.next_rows.next_rows.Goals as goal

pub rows_over-requires-clause-last : goal.rows_over-requires-clause-last
rows_over-requires-clause-last c = last-grows c.args.arena.now.trees c.leaf_row.new.arena.trees (rows_of c.args.rows.now) c.in_ok-row.ensures.grows c.requires.last

pub returns-clause-working : goal.returns-clause-working
returns-clause-working c =
    if_both c.rows_over.result _ _ _
    (λ next levels row. (over_pairs c.leaf_row.new.arena.trees c.rows_over.new.arena.trees c.in_ok-row.row.items (rows_of next.items) c.args.entries.now c.in_ok-row.ensures.leaves c.in_ok-row.ensures.stand c.rows_over.ensures.grows levels row).0)
    c.rows_over.ensures.levels c.rows_over.ensures.row

pub returns-clause-pairs : goal.returns-clause-pairs
returns-clause-pairs c =
    if_both c.rows_over.result _ _ _
    (λ next levels row. (over_pairs c.leaf_row.new.arena.trees c.rows_over.new.arena.trees c.in_ok-row.row.items (rows_of next.items) c.args.entries.now c.in_ok-row.ensures.leaves c.in_ok-row.ensures.stand c.rows_over.ensures.grows levels row).1)
    c.rows_over.ensures.levels c.rows_over.ensures.row

pub returns-clause-least : goal.returns-clause-least
returns-clause-least c =
    let entries : Pairs = c.args.entries.now in
    let before = c.args.arena.now in
    let after = c.leaf_row.new.arena.steps in
    let leaves : CountsEachNewLeaf (row_pairs before.trees (first_row (rows_of c.args.rows.now))) entries before.steps after =
    subst (λ (row : List ℕ). CountsEachNewLeaf (row_pairs before.trees row) entries before.steps after) c.first_of.ensures c.in_ok-row.ensures.least
    in
    if_ok c.rows_over.result _ _ (λ _ more. least_more _ before.steps after c.rows_over.new.arena.steps leaves more) c.rows_over.ensures.least

pub returns-clause-same : goal.returns-clause-same
returns-clause-same c = λ same log few.
    let before = c.args.arena.now.trees in
    let old = first_row (rows_of c.args.rows.now) in
    let entries : Pairs = c.args.entries.now in
    let last : Pairs = row_pairs before old in
    let row = c.in_ok-row.row.items in
    let counted : length row ≡ length entries = row_count c.leaf_row.new.arena.trees row entries c.in_ok-row.ensures.leaves in
    let lasts = same_keys_count entries last same in
    let olds = length-row_pairs before old in
    let as_many : length row ≡ length old = omega arith in
    let low : length c.args.rows.now - 1 ≤ log = levels_few before c.args.rows.now log c.requires.last (let l = few in omega arith) in
    let steps : c.leaf_row.new.arena.steps ≤ c.args.arena.now.steps + 2 * count_new last entries =
    subst (λ row. c.leaf_row.new.arena.steps ≤ c.args.arena.now.steps + 2 * count_new (row_pairs before row) entries) c.first_of.ensures c.in_ok-row.ensures.steps
    in
    let differ : differing_count row old ≤ count_new last entries =
    subst (λ old. keys entries ≡ keys (row_pairs before old) → differing_count row old ≤ count_new (row_pairs before old) entries) c.first_of.ensures c.in_ok-row.ensures.same same
    in
    if_ok c.rows_over.result _ _ (λ next more. all_texts (count_new last entries) c.args.arena.now.steps c.leaf_row.new.arena.steps c.rows_over.new.arena.steps (differing_count row old) (length c.args.rows.now - 1) log steps more differ low)
    (c.rows_over.ensures.few as_many)
