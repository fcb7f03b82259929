use Rattle.std.proofs.Common.{◌≡◌, ◌≤◌, ℕ, Vec, get_or, set, length, sym, ap, ◌∙◌, arith}
use Rattle.std.specs.declared.alloc.Global.{Global}
use Rattle.std.specs.Vec.{with_item}
use Rattle.ibc_forest.proofs.Climbing.{put_more}
use Rattle.std.proofs.lemmas.List.{set_past}
use Rattle.ibc_forest.proofs.ascent.put_path.Goals as goal
use Rattle.ibc_forest.proofs.ascent.put_path.Goals.{then-place-len, else-place-len}

pub loop-level-preserved : goal.loop-level-preserved
loop-level-preserved c =
    let rows = c.loop-level.rows in
    let row = c.index-rows-level.result in
    let level = c.loop-level.level in
    let path = c.args.path.now in
    let same : length rows ≡ length c.args.rows.now = c.loop-level.auto.rows in
    let place = c.loop-level.place in
    let node = get_or path level 0 in
    let is : row ≡ get_or rows level row = c.index-rows-level.is in
    elim c.if-place-len.branch [
      | then-place-len w ↦
          put_more rows c.if-place-len.rows level place path row (with_item (get_or rows level row) place node) (omega arith) (omega arith) is w.rows-is
          (ap (λ (row : Vec ℕ Global). set row.items place node) (sym is))
          ∙ c.loop-level.invariant
      | else-place-len w ↦
          let past : length row.items ≤ place = let h : row.len ≡ length row.items = row.ok.0 in let k : c.len.result ≡ row.len = c.len.ensures ∙ ap (λ (row : Vec ℕ Global). row.len) (sym is) in let l = w.if-place-len.false in omega arith in
          put_more rows c.if-place-len.rows level place path row (get_or rows level row) (omega arith) (omega arith) is w.rows-is
          (ap (λ (row : Vec ℕ Global). row.items) (sym is) ∙ sym (set_past row.items place node past))
          ∙ c.loop-level.invariant
    ]
