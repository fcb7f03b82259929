use Rattle.std.proofs.Common.{◌+◌, ◌-◌, length, arith}
use Rattle.ibc_lanes.proofs.LeafTexts.{leaf_made}
use Rattle.ibc_lanes.proofs.leaves.short_leaf.Goals as goal

pub returns : goal.returns
returns c =
    let key = c.args.key.now in
    leaf_made key c.args.value.now _ _ (length key + 2 - 2) _ c.requires (omega arith)
    c.copy_from_slice.ensures.after c.copy_from_slice-2.ensures.after (omega arith)
