-- The places so far are touched where they are the end's.
use Rattle.std.proofs.Common.{◌≡◌, ◌++◌, map, take, drop}
use Rattle.ibc_law_checks.specs.TouchedPlaces.{touched_by}
use Rattle.ibc_law_checks.proofs.checks.carrying.touch_by.Given as goal

abbrev pub invariant-loop-place : goal.invariant-loop-place
invariant-loop-place l =
    l.places ≡ map (touched_by l.end) (take l.place-index l.fn.places) ++ drop l.place-index l.fn.places
