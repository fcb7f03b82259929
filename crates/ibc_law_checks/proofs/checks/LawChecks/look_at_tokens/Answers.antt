-- The place or the supply that was found is the one that is told.
use Rattle.ibc_law_checks.specs.Supplies.{is_kept}
use Rattle.ibc_law_checks.specs.TokenPlaces.{is_balanced_at}
use Rattle.ibc_law_checks.proofs.TokenFindings.{told_uneven, told_changed, uneven_at, changed_at}
use Rattle.ibc_law_checks.proofs.checks.LawChecks.look_at_tokens.Goals as goal

pub returns-in-Some-clause-told : goal.returns-in-Some-clause-told
returns-in-Some-clause-told c =
    let world = c.args.world.now in
    let places = c.args.self.now.places.items in
    told_uneven (is_balanced_at world c.args.all) (is_kept world) places c.args.self.now.supplies.items c.in_ok-of_place.field-0.law c.in-Some.index c.in_ok-of_place.ensures
    (uneven_at world c.args.all places c.as_slice.result.now c.in_ok-index.field-0 c.in-Some.index c.as_slice.ensures.value c.in_ok-index.ensures c.in-Some.is)

pub returns-in-Some-first_changed_supply-clause-told : goal.returns-in-Some-first_changed_supply-clause-told
returns-in-Some-first_changed_supply-clause-told c =
    let world = c.args.world.now in
    let supplies = c.args.self.now.supplies.items in
    told_changed (is_balanced_at world c.args.all) (is_kept world) c.args.self.now.places.items supplies c.in_ok-of_supply.field-0.law c.in-Some-first_changed_supply.index c.in_ok-of_supply.ensures
    (changed_at world supplies c.as_slice-2.result.now c.in-Some-first_changed_supply.index c.as_slice-2.ensures.value c.in-Some-first_changed_supply.ensures)
