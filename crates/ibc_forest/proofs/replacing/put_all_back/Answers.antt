-- One path more is put back.
use Rattle.std.proofs.Common.{◌≡◌, ℕ, ◌+◌, ◌-◌, List, length, take, sym, ap, ◌∙◌, arith}
use Rattle.ibc_forest.specs.NodeLevels.{rows_of, with_replaced}
use Rattle.ibc_forest.specs.Replacements.{put_back}
use Rattle.ibc_forest.specs.declared.replacement.NotedPath.{NotedPath}
use Rattle.ibc_forest.proofs.OtherLeaves.{put_back_one}
use Rattle.ibc_forest.proofs.replacing.put_all_back.Goals as goal

pub put_path-requires : goal.put_path-requires
put_path-requires c =
    let path : NotedPath = c.index-noted-left.result in
    let some = c.loop-left-test.true in
    let low = c.loop-left.invariant.left in
    ap length c.as_slice.ensures.value
    ∙ ap (λ (path : NotedPath). length path.nodes.items) c.index-noted-left.is
    ∙ c.requires (c.loop-left.left - 1) path (omega arith)
    ∙ sym c.loop-left.auto.rows

pub loop-left-preserved : goal.loop-left-preserved
loop-left-preserved c =
    let noted = c.args.noted.now in
    let path : NotedPath = c.index-noted-left.result in
    let i : ℕ = c.loop-left.left - 1 in
    let some = c.loop-left-test.true in
    let low = c.loop-left.invariant.left in
    let next : i + 1 ≡ c.loop-left.left = omega arith in
    let before = rows_of c.loop-left.rows in
    let put : rows_of c.put_path.new.rows ≡ with_replaced before path.place path.nodes.items =
    c.put_path.ensures ∙ ap (λ (nodes : List ℕ). with_replaced before path.place nodes) c.as_slice.ensures.value
    in
    record {
      back =
          sym (put_back_one noted i path before (rows_of c.put_path.new.rows) (omega arith) c.index-noted-left.is put)
          ∙ ap (λ n. put_back (take n noted) before) next
          ∙ c.loop-left.invariant.back;
      left = omega arith;
    }
