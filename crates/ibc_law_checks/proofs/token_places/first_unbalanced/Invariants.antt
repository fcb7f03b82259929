-- The places so far are balanced.
use Rattle.std.proofs.Common.{All, IsTrue, take}
use Rattle.ibc_law_checks.specs.TokenPlaces.{is_balanced_at}
use Rattle.ibc_law_checks.proofs.token_places.first_unbalanced.Given as goal

abbrev pub invariant-loop-index : goal.invariant-loop-index
invariant-loop-index l = All (λ place. IsTrue (is_balanced_at l.world l.all place)) (take l.index l.places)
