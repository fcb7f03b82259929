-- An image has a pair, since the counters always stand.
use Rattle.std.proofs.Common.{◌≡◌, ◌∙◌, ◌<◌, sym, subst, length, Option, Some}
use Rattle.std.proofs.lemmas.Bool.{ltb-true}
use Rattle.ibc_merkle.specs.Tree.{Pairs}
use Rattle.ibc_machine.specs.ics24.Image.{image}
use Rattle.ibc_machine.specs.ics18.Relay.{View}
use Rattle.ibc_machine.proofs.Images.{image_sorted}
use Rattle.ibc_ledger.proofs.view.View.root.Goals as goal

some_same : {A : Type 0} {x y : A} → ◌≡◌ {A = Option A} (Some x) (Some y) → x ≡ y
some_same e = cc

pub root-requires : goal.root-requires
root-requires c =
    let core = c.self.inside.plain.value in
    let low : 0 < c.self.inside.height = subst (λ (v : View). 0 < v.height) (sym c.self.view_is) c.requires in
    let tree : c.in-Some.tree ≡ image core = some_same (sym c.in-Some.is ∙ (c.self.invariant.proved low).is) in
    subst (λ (pairs : Pairs). 0 < length pairs) (sym tree) (ltb-true 0 _ (image_sorted core).1)
