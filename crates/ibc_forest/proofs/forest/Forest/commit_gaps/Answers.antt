-- The next height, beside those that stay.
use Rattle.std.proofs.Common.{◌≡◌, ℕ, ◌∷◌, ◌++◌, [], List, length, sym, ap, ap₂, ◌∙◌, subst, arith}
use Rattle.std.proofs.lemmas.List.{map_push}
use Rattle.std.proofs.lemmas.List.Elements.{All-push}
use Rattle.std.specs.FinMap.{is_sorted}
use Rattle.ibc_ids.specs.Texts.{text_cmp}
use Rattle.ibc_merkle.specs.Tree.{Pairs, tree_root}
use Rattle.ibc_forest.specs.Codes.{ArenaModel}
use Rattle.ibc_forest.specs.Heights.{pairs_of}
use Rattle.ibc_forest.specs.ForestModel.{ForestModel}
use Rattle.ibc_forest.specs.Leaves.{row_pairs}
use Rattle.ibc_forest.specs.Levels.{tree_over, trees_at}
use Rattle.ibc_forest.specs.Nodes.{Grows}
use Rattle.ibc_forest.specs.NodeLevels.{rows_of, first_row}
use Rattle.ibc_forest.specs.Forest.{kept_pairs, IsLast, IsSortedHeight, AreSortedHeights}
use Rattle.ibc_forest.specs.declared.forest.Height.{Height}
use Rattle.ibc_forest.proofs.InChunks.{on_err}
use Rattle.ibc_forest.proofs.LeafRows.{length-row_pairs}
use Rattle.ibc_forest.proofs.Committing.{Committed, committed}
use Rattle.ibc_forest.proofs.Turning.{last-grows, last_pairs-grows, working_last, kept-grows, kept_pairs-grows}
use Rattle.ibc_forest.proofs.forest.Forest.commit_gaps.Goals as goal

-- ---- a refusal

pub invariant_of-self-in_err-turn_rows : goal.invariant_of-self-in_err-turn_rows
invariant_of-self-in_err-turn_rows c =
    let before = c.self.inside.arena.trees in
    let after = c.turn_rows.new.arena.trees in
    let g : Grows before after = subst (λ trees. Grows trees after) (ap (λ (a : ArenaModel). a.trees) c.restart.ensures) c.turn_rows.ensures.grows in
    let old = rows_of c.self.inside.rows.items in
    let same : rows_of c.turn_rows.new.rows.items ≡ old = c.in_err-turn_rows.ensures.err in (
      subst (IsLast after) (sym same) (last-grows before after old g c.self.invariant.0),
      subst (AreSortedHeights after) (sym c.reserve.ensures.items) (kept-grows before after c.self.inside.kept.items g c.self.invariant.1),
      ap (λ (rows : List (List ℕ)). is_sorted text_cmp (row_pairs after (first_row rows))) same
          ∙ ap (is_sorted text_cmp) (last_pairs-grows before after old g c.self.invariant.0)
          ∙ c.self.invariant.2,
    )

pub returns-in_err-turn_rows-clause-err : goal.returns-in_err-turn_rows-clause-err
returns-in_err-turn_rows-clause-err c =
    let before = c.self.inside.arena.trees in
    let after = c.turn_rows.new.arena.trees in
    let g : Grows before after = subst (λ trees. Grows trees after) (ap (λ (a : ArenaModel). a.trees) c.restart.ensures) c.turn_rows.ensures.grows in
    let old = rows_of c.self.inside.rows.items in
    let same : rows_of c.turn_rows.new.rows.items ≡ old = c.in_err-turn_rows.ensures.err in
    let digests = c.self.inside.digests in
    let held : Pairs → List (Pairs × ℕ) → ForestModel = λ last kept. record { last = last; kept = kept; digests = digests } in
    on_err c.from_residual-in_err-turn_rows.result _
    (ap₂ held
    (ap (λ (rows : List (List ℕ)). row_pairs after (first_row rows)) same ∙ last_pairs-grows before after old g c.self.invariant.0)
    (ap (kept_pairs after) c.reserve.ensures.items ∙ kept_pairs-grows before after c.self.inside.kept.items g c.self.invariant.1)
    ∙ c.self.view_is
    ∙ c.gather.ensures)

-- ---- the next height

new_height : (c : goal.After-from_bytes)
    → Committed c.turn_rows.new.arena.trees c.root_of-root.result (length c.args.entries.now) (row_pairs c.turn_rows.new.arena.trees (first_row (rows_of c.turn_rows.new.rows.items)))
new_height c =
    let after = c.turn_rows.new.arena.trees in
    let rows = rows_of c.turn_rows.new.rows.items in
    let over_row = c.root_of-root.ensures.over ∙ ap (λ rows. tree_over (trees_at after (first_row (rows_of rows)))) c.as_slice.ensures.value in
    let counted = length-row_pairs after (first_row rows) in
    let same = ap length c.in_ok-turn_rows.ensures.pairs in
    committed after rows c.root_of-root.result (length c.args.entries.now) c.in_ok-turn_rows.ensures.working over_row c.root_of-root.ensures.there (omega arith)

pub invariant_of-self-2 : goal.invariant_of-self-2
invariant_of-self-2 c =
    let before = c.self.inside.arena.trees in
    let after = c.turn_rows.new.arena.trees in
    let g : Grows before after = subst (λ trees. Grows trees after) (ap (λ (a : ArenaModel). a.trees) c.restart.ensures) c.turn_rows.ensures.grows in
    let height : Height = record { root = c.root_of-root.result; count = length c.args.entries.now; time = c.args.time } in
    let items = c.push_back_reserved.ensures.items ∙ ap (λ xs. xs ++ height ∷ []) c.reserve.ensures.items in (
      working_last after (rows_of c.turn_rows.new.rows.items) c.in_ok-turn_rows.ensures.working,
      subst (AreSortedHeights after) (sym items)
          (All-push (IsSortedHeight after) c.self.inside.kept.items height (kept-grows before after c.self.inside.kept.items g c.self.invariant.1) (record {
            over = (new_height c).is_tree;
            sorted = ap (is_sorted text_cmp) ((new_height c).same ∙ c.in_ok-turn_rows.ensures.pairs) ∙ c.requires.sorted;
          })),
      ap (is_sorted text_cmp) c.in_ok-turn_rows.ensures.pairs ∙ c.requires.sorted,
    )

pub returns-clause-root : goal.returns-clause-root
returns-clause-root c = c.from_bytes.ensures ∙ c.digest-digest.ensures ∙ (new_height c).digest ∙ ap tree_root c.in_ok-turn_rows.ensures.pairs

pub returns-clause-kept : goal.returns-clause-kept
returns-clause-kept c =
    let before = c.self.inside.arena.trees in
    let after = c.turn_rows.new.arena.trees in
    let kept = c.self.inside.kept.items in
    let g : Grows before after = subst (λ trees. Grows trees after) (ap (λ (a : ArenaModel). a.trees) c.restart.ensures) c.turn_rows.ensures.grows in
    let height : Height = record { root = c.root_of-root.result; count = length c.args.entries.now; time = c.args.time } in
    let items = c.push_back_reserved.ensures.items ∙ ap (λ xs. xs ++ height ∷ []) c.reserve.ensures.items in
    ap (kept_pairs after) items
    ∙ map_push (λ (h : Height). (pairs_of after h.root, h.time)) kept height
    ∙ ap₂ (λ (rest : List (Pairs × ℕ)) (pairs : Pairs). rest ++ (pairs, c.args.time) ∷ [])
    (kept_pairs-grows before after kept g c.self.invariant.1 ∙ ap (λ (f : ForestModel). f.kept) (c.self.view_is ∙ c.gather.ensures))
    ((new_height c).same ∙ c.in_ok-turn_rows.ensures.pairs)
