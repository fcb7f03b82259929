-- A gap that is in front of the place is passed.
use Rattle.std.proofs.Common.{◌≡◌, ◌+◌, ◌-◌, ◌<◌, get_or, sym, ◌∙◌}
use Rattle.std.proofs.lemmas.List.{get_or_default}
use Rattle.ibc_path_store.specs.GapChanges.{no_gap}
use Rattle.ibc_path_store.proofs.Touching.{touched_further, standing_further}
use Rattle.ibc_path_store.proofs.touched.place_of.Goals as goal

pub loop-i-preserved : goal.loop-i-preserved
loop-i-preserved c =
    let gaps = c.args.gaps.now in
    let i = c.loop-i.i in
    let before = c.loop-i.before in
    let gone = c.args.gone in
    let gap = get_or gaps i no_gap in
    let there = c.loop-i-test.true in
    let is : gap ≡ get_or gaps i gap = sym (get_or_default gaps i gap no_gap there) in
    let behind = c.if-before-gap.false in
    let past : gap.come < before - gap.kept + gone = c.is_in.ensures.past c.if-is_in.false in
    record {
      counted = standing_further gaps i before c.args.index gone gap there is c.requires.one behind past c.loop-i.invariant.counted;
      rest = λ come. c.loop-i.invariant.rest come ∙ touched_further gaps i before gone come gap there is behind past;
    }
