-- One height more.
use Rattle.std.proofs.Common.{◌<◌, length, refl, sym, ◌∙◌, subst, arith}
use Rattle.std.proofs.lemmas.List.Elements.{All-push}
use Rattle.ibc_forest.specs.Forest.{AreSortedHeights, IsSortedHeight}
use Rattle.ibc_forest.specs.declared.forest.Height.{Height}
use Rattle.ibc_forest.proofs.Moved.{height_is_moved, kept_more}
use Rattle.ibc_forest.proofs.Pairing.{grows_on}
use Rattle.ibc_forest.proofs.Turning.{kept-grows}
use Rattle.ibc_forest.proofs.moving.move_kept.Goals as goal

pub loop-i-preserved : goal.loop-i-preserved
loop-i-preserved c =
    let old = c.args.old.now in
    let before = c.loop-i.new.trees in
    let after = c.move_node.new.new.trees in
    let kept = c.args.kept.now.items in
    let next = c.loop-i.next.items in
    let height = c.index-height.result.now in
    let copy : Height = record { root = c.in_ok-root.root; count = height.count; time = height.time } in
    let g = c.move_node.ensures.grows in
    let items = c.in_ok-push_back.ensures.items in
    let l : c.loop-i.i < length kept = let counted = c.len-i-end.ensures in let test = c.loop-i-test.true in omega arith in
    let its : IsSortedHeight old height = subst (IsSortedHeight old) (sym c.index-height.ensures) (c.requires.kept c.loop-i.i height l) in
    record {
      same = kept_more old before after kept next c.push_back.new.self.items c.loop-i.i height copy l c.index-height.ensures c.in_ok-root.ensures.same refl g c.loop-i.invariant.kept c.loop-i.invariant.same items;
      kept = subst (AreSortedHeights after) (sym items) (All-push (IsSortedHeight after) next copy (kept-grows before after next g c.loop-i.invariant.kept) (height_is_moved old after height copy c.in_ok-root.ensures.same c.in_ok-root.ensures.there refl its));
      moved = c.in_ok-root.ensures.moved;
      grows = grows_on c.args.new.now.trees before after c.loop-i.invariant.grows g;
      steps = c.move_node.ensures.steps ∙ c.loop-i.invariant.steps;
    }
