-- The place is noted.
use Rattle.std.proofs.Common.{◌≡◌, ◌++◌, List, take, drop, sym, ◌∙◌, subst}
use Rattle.ibc_forest.specs.declared.gap.Gap.{Gap}
use Rattle.ibc_path_store.specs.GapChanges.{with_replacement}
use Rattle.ibc_path_store.proofs.Touching.{shares_touched}
use Rattle.ibc_path_store.proofs.touched.Touched.touch.Goals as goal

pub returns-then-touch_gaps : goal.returns-then-touch_gaps
returns-then-touch_gaps c = λ last pairs after shares new.
    let gaps = c.self.inside.gaps.items in
    let number = c.place_of-number.result.0 in
    let rest : with_replacement gaps c.args.index c.args.gone c.args.come ≡ take number gaps ++ with_replacement (drop number gaps) c.place_of-number.result.1 c.args.gone c.args.come =
    subst (λ (gs : List Gap). with_replacement gs c.args.index c.args.gone c.args.come ≡ take number gs ++ with_replacement (drop number gs) c.place_of-number.result.1 c.args.gone c.args.come) c.as_slice.ensures.value
    (c.place_of-number.ensures.rest c.args.come)
    in
    shares_touched c.args.self.now c.self.inside.lost gaps c.touch_gaps.new.gaps.items c.args.index c.args.gone c.args.come c.self.view_is c.if-self.false c.requires
    (c.touch_gaps.ensures c.if-touch_gaps.true ∙ sym rest) last pairs after shares new
