use Rattle.std.proofs.Common.{refl, ◌∙◌}
use Rattle.ibc_lanes.proofs.leaves.digest_short_leaves.Goals as goal

pub returns : goal.returns
returns c =
    c.digest_four.ensures
    ∙ rw (c.short_leaf.ensures, c.short_leaf-2.ensures, c.short_leaf-3.ensures, c.short_leaf-4.ensures) refl
