-- Each digest is that of its leaf.
use Rattle.ibc_forest.proofs.FourLeaves.{four_digests}
use Rattle.ibc_forest.proofs.arena.Arena.leaf_digests.Goals as goal

pub returns-clause-digests : goal.returns-clause-digests
returns-clause-digests c =
    four_digests c.args.entries.now c.index-entries-0.result c.index-entries-1.result c.index-entries-2.result c.index-entries-3.result _ _ _ _ _ _ _ _ c.hash_four_values-values.result _ c.requires
    c.index-entries-0.is c.index-entries-1.is c.index-entries-2.is c.index-entries-3.is
    c.key.ensures c.key-2.ensures c.key-3.ensures c.key-4.ensures c.value.ensures c.value-2.ensures c.value-3.ensures c.value-4.ensures
    c.hash_four_values-values.ensures.digests c.hash_four_leaves.ensures.digests
