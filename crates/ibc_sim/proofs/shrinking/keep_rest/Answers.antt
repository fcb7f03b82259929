-- What was tried is kept.
use Rattle.std.proofs.Common.{List, Bool, subst}
use Rattle.ibc_sim.specs.Shrinking.{KeepsNoMore, StillDo}
use Rattle.ibc_sim.proofs.shrinking.keep_rest.Goals as goal

pub returns-clause-fewer : goal.returns-clause-fewer
returns-clause-fewer g c =
    subst (λ (l : List Bool). KeepsNoMore l c.in_ok-after.after.items) c.as_slice.ensures.value c.in_ok-after.ensures.fewer

pub returns-clause-does : goal.returns-clause-does
returns-clause-does g c =
    subst (λ (l : List Bool). StillDo (g.B.Breaks.does c.args.breaks.now) l c.in_ok-after.after.items) c.as_slice.ensures.value c.in_ok-after.ensures.does
