-- The leaves of pairs at several places, and the nodes above them.
use Rattle.std.proofs.Common.{◌≡◌, ℕ, ◌+◌, ◌-◌, ◌*◌, ◌≤◌, List, length, map, sym, subst, arith}
use Rattle.ibc_merkle.specs.Tree.{Pairs}
use Rattle.ibc_forest.specs.Counts.{CountsEachNewLeaf}
use Rattle.ibc_forest.specs.Leaves.{row_pairs, keys, count_new}
use Rattle.ibc_forest.specs.Levels.{trees_at, leaf_of}
use Rattle.ibc_forest.specs.NodeLevels.{Stand, rows_of, first_row}
use Rattle.ibc_forest.specs.Replacements.{come_count, with_leaves}
use Rattle.ibc_forest.specs.declared.replacement.Replacement.{Replacement}
use Rattle.ibc_forest.proofs.Climbing.{if_ok, if_both}
use Rattle.ibc_forest.proofs.Counting.{least_more}
use Rattle.ibc_forest.proofs.LeafRows.{length-row_pairs}
use Rattle.ibc_forest.proofs.OneLeaf.{last_some}
use Rattle.ibc_forest.proofs.OtherLeaves.{replaced_length, replaced_texts}
use Rattle.ibc_forest.proofs.Turning.{over_pairs, levels_few, all_texts}
use Rattle.ibc_forest.proofs.Workings.{pyramid-grows}
use Rattle.ibc_forest.proofs.next_rows.put_replaced.Goals as goal

pub put_others-requires-clause-levels : goal.put_others-requires-clause-levels
put_others-requires-clause-levels c =
    let rows = rows_of c.args.rows.now in
    let before = c.args.arena.now.trees in
    let counted = replaced_length c.args.gaps.now (row_pairs before (first_row rows)) c.args.entries.now c.requires.replaced c.requires.gaps in
    let some = c.requires.some in
    pyramid-grows before c.replacements.new.arena.trees rows c.in_ok-others.ensures.grows (last_some before rows 0 c.requires.last (omega arith)).0

pub returns-clause-working : goal.returns-clause-working
returns-clause-working c =
    let rows = rows_of c.args.rows.now in
    let middle = c.replacements.new.arena.trees in
    let others = c.as_slice.result.now in
    let its : c.in_ok-others.others.items ≡ others = sym c.as_slice.ensures.value in
    let leaves = subst (λ (others : List Replacement). trees_at middle (with_leaves (first_row rows) others) ≡ map leaf_of c.args.entries.now) its
    (subst (λ (row : List ℕ). trees_at middle (with_leaves row c.in_ok-others.others.items) ≡ map leaf_of c.args.entries.now) c.first_of.ensures c.in_ok-others.ensures.leaves)
    in
    let stand = subst (λ (others : List Replacement). Stand middle (with_leaves (first_row rows) others)) its
    (subst (λ (row : List ℕ). Stand middle (with_leaves row c.in_ok-others.others.items)) c.first_of.ensures c.in_ok-others.ensures.stand)
    in
    if_both c.put_others.result _ _ _
    (λ _ levels row. (over_pairs middle c.put_others.new.arena.trees (with_leaves (first_row rows) others) (rows_of c.put_others.new.rows) c.args.entries.now leaves stand c.put_others.ensures.grows levels row).0)
    c.put_others.ensures.levels c.put_others.ensures.row

pub returns-clause-pairs : goal.returns-clause-pairs
returns-clause-pairs c =
    let rows = rows_of c.args.rows.now in
    let middle = c.replacements.new.arena.trees in
    let others = c.as_slice.result.now in
    let its : c.in_ok-others.others.items ≡ others = sym c.as_slice.ensures.value in
    let leaves = subst (λ (others : List Replacement). trees_at middle (with_leaves (first_row rows) others) ≡ map leaf_of c.args.entries.now) its
    (subst (λ (row : List ℕ). trees_at middle (with_leaves row c.in_ok-others.others.items) ≡ map leaf_of c.args.entries.now) c.first_of.ensures c.in_ok-others.ensures.leaves)
    in
    let stand = subst (λ (others : List Replacement). Stand middle (with_leaves (first_row rows) others)) its
    (subst (λ (row : List ℕ). Stand middle (with_leaves row c.in_ok-others.others.items)) c.first_of.ensures c.in_ok-others.ensures.stand)
    in
    if_both c.put_others.result _ _ _
    (λ _ levels row. (over_pairs middle c.put_others.new.arena.trees (with_leaves (first_row rows) others) (rows_of c.put_others.new.rows) c.args.entries.now leaves stand c.put_others.ensures.grows levels row).1)
    c.put_others.ensures.levels c.put_others.ensures.row

pub returns-clause-steps : goal.returns-clause-steps
returns-clause-steps c =
    let rows = rows_of c.args.rows.now in
    let before = c.args.arena.now.trees in
    let old = first_row rows in
    let last : Pairs = row_pairs before old in
    let entries : Pairs = c.args.entries.now in
    let new : ℕ = count_new last entries in
    let middle = c.replacements.new.arena.steps in
    let leaves : middle ≤ c.args.arena.now.steps + 2 * new =
    subst (λ (row : List ℕ). middle ≤ c.args.arena.now.steps + 2 * count_new (row_pairs before row) entries) c.first_of.ensures c.in_ok-others.ensures.steps
    in
    let olds = length-row_pairs before old in
    let counted : length entries ≡ length last = replaced_length c.args.gaps.now last entries c.requires.replaced c.requires.gaps in
    let above : ℕ = length c.args.rows.now - 1 in
    let others : ℕ = length c.as_slice.result.now in
    let few : others ≤ come_count c.args.gaps.now =
    subst (λ (others : List Replacement). length others ≤ come_count c.args.gaps.now) (sym c.as_slice.ensures.value) c.in_ok-others.ensures.few
    in
    let all : come_count c.args.gaps.now * above ≤ length entries - 1 = let most = c.requires.few in omega arith in
    if_ok c.put_others.result _ _
    (λ _ steps. replaced_texts new c.args.arena.now.steps middle c.put_others.new.arena.steps others (come_count c.args.gaps.now) above (length entries) leaves steps
    few all c.requires.some)
    c.put_others.ensures.steps

pub returns-clause-least : goal.returns-clause-least
returns-clause-least c =
    let entries : Pairs = c.args.entries.now in
    let before = c.args.arena.now in
    let after = c.replacements.new.arena.steps in
    let leaves : CountsEachNewLeaf (row_pairs before.trees (first_row (rows_of c.args.rows.now))) entries before.steps after =
    subst (λ (row : List ℕ). CountsEachNewLeaf (row_pairs before.trees row) entries before.steps after) c.first_of.ensures c.in_ok-others.ensures.least
    in
    if_ok c.put_others.result _ _ (λ _ more. least_more _ before.steps after c.put_others.new.arena.steps leaves more) c.put_others.ensures.least

pub returns-clause-same : goal.returns-clause-same
returns-clause-same c = λ same log few.
    let rows = rows_of c.args.rows.now in
    let before = c.args.arena.now.trees in
    let old = first_row rows in
    let last : Pairs = row_pairs before old in
    let entries : Pairs = c.args.entries.now in
    let new : ℕ = count_new last entries in
    let middle = c.replacements.new.arena.steps in
    let others : ℕ = length c.as_slice.result.now in
    let leaves : middle ≤ c.args.arena.now.steps + 2 * new =
    subst (λ (row : List ℕ). middle ≤ c.args.arena.now.steps + 2 * count_new (row_pairs before row) entries) c.first_of.ensures c.in_ok-others.ensures.steps
    in
    let differ : others ≤ new =
    subst (λ (others : List Replacement). length others ≤ new) (sym c.as_slice.ensures.value)
    (subst (λ (row : List ℕ). keys entries ≡ keys (row_pairs before row) → length c.in_ok-others.others.items ≤ count_new (row_pairs before row) entries) c.first_of.ensures c.in_ok-others.ensures.same same)
    in
    let olds = length-row_pairs before old in
    let counted : length entries ≡ length last = replaced_length c.args.gaps.now last entries c.requires.replaced c.requires.gaps in
    let low : length c.args.rows.now - 1 ≤ log = levels_few before c.args.rows.now log c.requires.last (let l = few in omega arith) in
    if_ok c.put_others.result _ _
    (λ _ steps. all_texts new c.args.arena.now.steps middle c.put_others.new.arena.steps others (length c.args.rows.now - 1) log leaves steps differ low)
    c.put_others.ensures.steps
