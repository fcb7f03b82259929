-- The leaf that stands there, or another one.
use Rattle.std.proofs.Common.{◌≢◌, get_or, length, sym, ap, ◌∙◌, arith}
use Rattle.std.proofs.lemmas.List.{length_push}
use Rattle.ibc_forest.specs.Replacements.{with_leaves}
use Rattle.ibc_forest.specs.declared.replacement.Replacement.{Replacement}
use Rattle.ibc_forest.proofs.LeafRows.{unlike_not}
use Rattle.ibc_forest.proofs.OtherLeaves.{with_pushed}
use Rattle.ibc_forest.proofs.Putting.{unlike_so}
use Rattle.ibc_forest.proofs.replacing.add_other.Goals as goal

pub returns-then-row-place-clause-count : goal.returns-then-row-place-clause-count
returns-then-row-place-clause-count c = let none = unlike_not c.args.leaf (get_or c.args.row.now c.args.place 0) (sym c.if-row-place.true) in omega arith

pub returns-clause-leaves : goal.returns-clause-leaves
returns-clause-leaves c =
    let other : Replacement = record { place = c.args.place; leaf = c.args.leaf } in
    ap (with_leaves c.args.row.now) c.in_ok-push.ensures.items ∙ with_pushed c.args.row.now c.args.others.now.items other

pub returns-clause-count : goal.returns-clause-count
returns-clause-count c =
    let other : Replacement = record { place = c.args.place; leaf = c.args.leaf } in
    let longer = ap length c.in_ok-push.ensures.items ∙ length_push c.args.others.now.items other in
    let different : c.args.leaf ≢ get_or c.args.row.now c.args.place 0 = λ e. c.if-row-place.false (sym e) in
    let one = unlike_so c.args.leaf (get_or c.args.row.now c.args.place 0) different in
    omega arith
