use Rattle.std.proofs.Common.{◌≡◌, ℕ, ◌-◌, arith, ap, ◌∙◌, sym, subst, slice_get, Some, get_or}
use Rattle.ibc_ids.specs.declared.publication.Publication.{Publication}
use Rattle.ibc_ids.specs.Publications.{published_by, height_of}
use Rattle.ibc_root_table.specs.Publications.{publication, row_words, bytes_of_row}
use Rattle.ibc_root_table.specs.Passes.{Sight}
use Rattle.ibc_root_table.specs.SeatSteps.{SeatKnowledge}
use Rattle.ibc_root_table.proofs.Beginnings.{some_at, prefix_get}
use Rattle.ibc_root_table.proofs.Chains.{published_by-prefix, row_at-pred}
use Rattle.ibc_root_table.proofs.RowBytes.{whole_root}
use Rattle.ibc_root_table.proofs.table.RootTable.row.Goals as goal

pub returns-clause-row : goal.returns-clause-row
returns-clause-row c =
    let chain : ℕ = c.args.chain in
    let seen = c.pass.inside.place.me.0.seen in
    let after = c.load_floor-floor.new.place.me.0.seen in
    let low = c.requires.seen.0 in
    let high = c.requires.seen.1 in
    let was = ap (λ (x : Sight). height_of chain x.seen) c.pass.view_is in
    let there = some_at (published_by chain seen) (c.args.height - 1) (omega arith) in
    let p : Publication = there.0 in
    let told = c.load_row-row.ensures.words p there.1 in
    let looked = c.load_floor-floor.ensures.floor in
    let floor = looked.1 in
    let kept = c.if-floor-height.false in
    let row : c.load_row-row.result ≡ row_words p = told.0 (omega arith) in
    let bytes : c.root_of.result ≡ p.root = c.root_of.ensures ∙ (ap bytes_of_row row ∙ whole_root p.root told.1) in
    let same = ap (λ (m : SeatKnowledge). m.0.seen) c.load_row-row.ensures.same.1 in
    let before = subst (λ l. slice_get (published_by chain l) (c.args.height - 1) ≡ Some p) (sym same) there.1 in
    row_at-pred after chain c.args.height low
    ∙ (prefix_get (published_by chain c.load_row-row.new.place.me.0.seen) (published_by chain after) (c.args.height - 1) p (published_by-prefix chain c.load_row-row.new.place.me.0.seen after looked.0.1) before
    ∙ (λ i. Some (publication (told.2 i) (sym bytes i) (sym (ap (λ l. get_or l 4 0) row) i))))
