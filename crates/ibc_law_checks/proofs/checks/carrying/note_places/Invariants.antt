-- What is noted so far, with the tokens that are left, is what is noted with all.
use Rattle.std.proofs.Common.{◌≡◌, drop}
use Rattle.ibc_law_checks.specs.TouchedPlaces.{with_places}
use Rattle.ibc_law_checks.proofs.checks.carrying.note_places.Given as goal

abbrev pub invariant-loop-token : goal.invariant-loop-token
invariant-loop-token l =
    with_places l.chain l.channel (drop l.token-index l.tokens) l.places.items ≡ with_places l.chain l.channel l.tokens l.fn.places.items
