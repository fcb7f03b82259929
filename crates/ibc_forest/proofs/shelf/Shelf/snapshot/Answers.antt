-- The chunks are shared, and the open one is copied.
use Rattle.std.proofs.Common.{◌++◌, length, sym, ap, ap₂, ◌∙◌, subst, arith}
use Rattle.std.proofs.lemmas.List.Elements.{same_from_all_zip}
use Rattle.ibc_forest.specs.Shelves.{concatenated, AreFull}
use Rattle.ibc_forest.proofs.shelf.Shelf.snapshot.Goals as goal

pub invariant_of-result : goal.invariant_of-result
invariant_of-result c =
    let copied = same_from_all_zip _ c.self.inside.begun.items c.in_ok-begun.begun.items c.in_ok-begun.ensures.cases.0 (λ x y e. e) in
    let most = c.self.invariant.1 in
    let counted = ap length copied in
    (subst AreFull (sym c.in_ok-full.ensures) c.self.invariant.0, omega arith)

pub returns : goal.returns
returns c =
    let copied = same_from_all_zip _ c.self.inside.begun.items c.in_ok-begun.begun.items c.in_ok-begun.ensures.cases.0 (λ x y e. e) in
    ap₂ ◌++◌ (ap concatenated c.in_ok-full.ensures) copied ∙ c.self.view_is
