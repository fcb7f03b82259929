-- A clone of a `bool` is the same one.
use Rattle.ibc_sim.proofs.shrinking.all_kept.Goals as goal

pub returns-clause-all : goal.returns-clause-all
returns-clause-all c = c.in_ok-kept.ensures.items_if_clones_equal (λ y e. e)
