-- The places so far are left alone.
use Rattle.std.proofs.Common.{◌≡◌, ◌++◌, map, take, drop}
use Rattle.ibc_law_checks.specs.TouchedPlaces.{left_alone}
use Rattle.ibc_law_checks.proofs.checks.carrying.leave_all.Given as goal

abbrev pub invariant-loop-place : goal.invariant-loop-place
invariant-loop-place l = l.places ≡ map left_alone (take l.place-index l.fn.places) ++ drop l.place-index l.fn.places
