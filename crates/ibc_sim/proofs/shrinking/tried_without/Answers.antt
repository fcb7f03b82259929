-- What is answered was tried, or is what was given.
use Rattle.std.proofs.Common.{sym, subst, inl, inr}
use Rattle.ibc_sim.specs.Shrinking.{KeepsNoMore}
use Rattle.ibc_sim.proofs.KeptSteps.{keeps_all}
use Rattle.ibc_sim.proofs.shrinking.tried_without.Goals as goal

pub returns-then-still-clause-does : goal.returns-then-still-clause-does
returns-then-still-clause-does g c =
    inr (subst (g.B.Breaks.does c.args.breaks.now) c.as_slice.ensures.value (c.in_ok-still.ensures c.if-still.true))

pub returns-clause-fewer : goal.returns-clause-fewer
returns-clause-fewer g c = subst (KeepsNoMore c.args.kept.now) (sym c.in_ok-same.ensures) (keeps_all c.args.kept.now)

pub returns-clause-does : goal.returns-clause-does
returns-clause-does g c = inl c.in_ok-same.ensures
