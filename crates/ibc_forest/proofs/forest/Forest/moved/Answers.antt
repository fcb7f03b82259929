-- Over other nodes the rows and the heights are what they were.
use Rattle.std.proofs.Common.{ℕ, List, sym, ap, ap₂, ◌∙◌, subst, Vec}
use Rattle.std.specs.FinMap.{is_sorted}
use Rattle.std.specs.declared.alloc.Global.{Global}
use Rattle.ibc_ids.specs.Texts.{text_cmp}
use Rattle.ibc_merkle.specs.Tree.{Pairs, Tree}
use Rattle.ibc_forest.specs.Forest.{kept_pairs}
use Rattle.ibc_forest.specs.ForestModel.{ForestModel}
use Rattle.ibc_forest.specs.NodeMoves.{AllStand}
use Rattle.ibc_forest.specs.NodeLevels.{rows_of}
use Rattle.ibc_forest.proofs.Moved.{last_moved_on, last_all_stand}
use Rattle.ibc_forest.proofs.forest.Forest.moved.Goals as goal

pub move_rows-requires-clause-stand : goal.move_rows-requires-clause-stand
move_rows-requires-clause-stand c =
    let rows = rows_of c.self.inside.rows.items in
    subst (λ trees. AllStand trees (rows_of c.as_slice.result.now)) (sym c.nodes-nodes.ensures)
    (subst (λ (slice : List (Vec ℕ Global)). AllStand c.self.inside.arena.trees (rows_of slice)) (sym c.as_slice.ensures.value) (last_all_stand c.self.inside.arena.trees rows c.self.invariant.0))

pub invariant_of-result : goal.invariant_of-result
invariant_of-result c = (
  (last_moved_on c.self.inside.arena.trees c.nodes-nodes.result.now c.move_rows.new.new.trees c.move_kept.new.new.trees c.self.inside.rows.items c.as_slice.result.now c.in_ok-rows.rows.items
      c.nodes-nodes.ensures c.as_slice.ensures.value c.in_ok-rows.ensures.same c.in_ok-rows.ensures.stand c.move_kept.ensures.grows c.self.invariant.0).0,
  c.in_ok-kept.ensures.kept,
  ap (is_sorted text_cmp)
      (last_moved_on c.self.inside.arena.trees c.nodes-nodes.result.now c.move_rows.new.new.trees c.move_kept.new.new.trees c.self.inside.rows.items c.as_slice.result.now c.in_ok-rows.rows.items
      c.nodes-nodes.ensures c.as_slice.ensures.value c.in_ok-rows.ensures.same c.in_ok-rows.ensures.stand c.move_kept.ensures.grows c.self.invariant.0).1
      ∙ c.self.invariant.2,
)

pub returns : goal.returns
returns c =
    let held : Pairs → List (Pairs × ℕ) → ForestModel = λ last kept. record { last = last; kept = kept; digests = c.self.inside.digests } in
    ap₂ held
    (last_moved_on c.self.inside.arena.trees c.nodes-nodes.result.now c.move_rows.new.new.trees c.move_kept.new.new.trees c.self.inside.rows.items c.as_slice.result.now c.in_ok-rows.rows.items
    c.nodes-nodes.ensures c.as_slice.ensures.value c.in_ok-rows.ensures.same c.in_ok-rows.ensures.stand c.move_kept.ensures.grows c.self.invariant.0).1
    (c.in_ok-kept.ensures.same ∙ ap (λ (trees : List Tree). kept_pairs trees c.self.inside.kept.items) c.nodes-nodes.ensures)
    ∙ c.self.view_is
