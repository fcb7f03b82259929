-- The leaf that is there, or a new one.
use Rattle.std.proofs.Common.{sym, ◌∙◌}
use Rattle.ibc_forest.proofs.LeafRows.{there_is}
use Rattle.ibc_forest.proofs.leaves.leaf_for.Goals as goal

pub returns-then-is_there-clause-leaf : goal.returns-then-is_there-clause-leaf
returns-then-is_there-clause-leaf c = (there_is c.args.arena.now.trees c.args.row.now c.args.at c.args.entry.now c.requires.leaves (sym c.is_there.ensures ∙ c.if-is_there.true)).1
