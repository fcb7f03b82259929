-- One place more is touched where it is the end's.
use Rattle.std.proofs.Common.{◌∙◌, sym, ap, set, arith, rules}
use Rattle.std.proofs.lemmas.List.{take_all, drop_all}
use Rattle.std.proofs.lemmas.List.Edits.{map_over_more}
use Rattle.ibc_law_checks.specs.TouchedPlaces.{touched_by}
use Rattle.ibc_law_checks.proofs.checks.carrying.touch_by.Goals as goal

pub loop-place-preserved : goal.loop-place-preserved
loop-place-preserved c =
    let f = touched_by c.args.end.now in
    ap (set c.loop-place.places c.loop-place.place-index) (c.touch_place.ensures ∙ ap f (sym c.place-item.is))
    ∙ map_over_more f c.args.places.now c.loop-place.places c.loop-place.place-index c.place-item.result (omega (arith, c.loop-place-test.true)) c.loop-place.invariant c.place-item.is

pub returns : goal.returns
returns c = search (rules, take_all, drop_all)
