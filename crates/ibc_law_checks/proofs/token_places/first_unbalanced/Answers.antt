-- The places so far are balanced, and so is the next.
use Rattle.std.proofs.Common.{◌≡◌, true, sym, ◌∙◌, IsTrue, arith}
use Rattle.ibc_law_checks.specs.TokenPlaces.{is_balanced_at}
use Rattle.ibc_law_checks.proofs.SoFar.{all_so_far, all_of_taken}
use Rattle.ibc_law_checks.proofs.token_places.first_unbalanced.Goals as goal

pub loop-index-preserved : goal.loop-index-preserved
loop-index-preserved c =
    let balanced : is_balanced_at c.args.world.now c.args.all c.index-places-index.result ≡ true =
    sym c.in_ok-is_balanced_at.ensures ∙ c.if-not-branch.false in
    all_so_far (λ place. IsTrue (is_balanced_at c.args.world.now c.args.all place)) c.args.places.now c.loop-index.index
    c.index-places-index.result (omega (arith, c.loop-index-test.true)) c.loop-index.invariant c.index-places-index.is balanced

pub returns : goal.returns
returns c =
    all_of_taken (λ place. IsTrue (is_balanced_at c.args.world.now c.args.all place)) c.args.places.now c.loop-index.index
    (omega (arith, c.loop-index-test.false)) c.loop-index.invariant
