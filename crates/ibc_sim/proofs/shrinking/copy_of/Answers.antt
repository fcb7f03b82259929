-- A clone of a `bool` is the same one.
use Rattle.ibc_sim.proofs.shrinking.copy_of.Goals as goal

pub returns : goal.returns
returns c = c.in_ok-copy.ensures.items_if_clones_equal (λ x y e. e)
