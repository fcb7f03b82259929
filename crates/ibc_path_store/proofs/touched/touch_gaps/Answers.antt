-- A gap that is there becomes wider.
use Rattle.std.proofs.Common.{◌≡◌, ℕ, ◌+◌, ◌-◌, ◌<◌, ◌≤◌, List, length, get_or, set, ap, ◌∙◌, subst, arith}
use Rattle.std.proofs.lemmas.List.{length-set, get_or_default}
use Rattle.ibc_forest.specs.declared.gap.Gap.{Gap}
use Rattle.ibc_path_store.specs.GapChanges.{no_gap}
use Rattle.ibc_path_store.proofs.Touching.{touched_wide, written_over}
use Rattle.ibc_path_store.proofs.touched.touch_gaps.Goals as goal

abbrev wide : List Gap → ℕ → ℕ → ℕ → List Gap
wide gaps number gone come = set gaps number (record (get_or gaps number no_gap) { come = (get_or gaps number no_gap).come - gone + come })

pub returns-then-index-before : goal.returns-then-index-before
returns-then-index-before c = λ fits.
    let gaps = c.args.gaps.now.items in
    let number = c.args.number in
    let before = c.args.before in
    let gone = c.args.gone in
    let come = c.args.come in
    let gap = c.index.result.now in
    let counted : c.args.gaps.now.len ≡ length gaps = c.args.gaps.now.ok.0 in
    let l : number < length gaps = let a = c.if-number-len.true in let b = c.len.ensures in omega arith in
    let its : gap ≡ get_or gaps number no_gap = c.index.ensures ∙ get_or_default gaps number gap no_gap l in
    let behind : (get_or gaps number no_gap).kept ≤ before = subst (λ (g : Gap). g.kept ≤ before) its c.if-index-before.true in
    let inside : before - (get_or gaps number no_gap).kept + gone ≤ (get_or gaps number no_gap).come = c.requires.inside l behind in
    let new : c.widen.new.gaps ≡ wide gaps number gone come = c.widen.ensures fits ∙ ap (λ (gs : List Gap). wide gs number gone come) c.as_mut_slice.ensures.value in
    let many : length c.widen.new.gaps ≡ length gaps = ap length new ∙ length-set gaps number _ in
    written_over gaps c.widen.new.gaps c.args.gaps.now.len counted many ∙ new ∙ touched_wide gaps number before gone come l behind inside
