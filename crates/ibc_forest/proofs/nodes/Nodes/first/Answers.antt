-- The first leaf that a node names.
use Rattle.std.proofs.Common.{◌≡◌, ap, arith, length, subst}
use Rattle.ibc_forest.specs.Levels.{leaf_of, tree_at}
use Rattle.ibc_forest.specs.Nodes.{first_pair}
use Rattle.ibc_forest.proofs.Arenas.{length-trees_of, reads}
use Rattle.ibc_forest.proofs.nodes.Nodes.first.Goals as goal

pub node-requires : goal.node-requires
node-requires c =
    let counted = length-trees_of c.self.inside.shelf in
    let held = ap length c.self.view_is in
    omega arith

pub returns-clause-there : goal.returns-clause-there
returns-clause-there c =
    let counted = ap length c.self.view_is in
    let w = reads c.self.inside.shelf c.args.number c.node.result.now c.self.invariant (omega arith) c.node.ensures in
    let there = w.first_there in
    omega arith

pub returns-clause-leaf : goal.returns-clause-leaf
returns-clause-leaf c =
    let counted = ap length c.self.view_is in
    let w = reads c.self.inside.shelf c.args.number c.node.result.now c.self.invariant (omega arith) c.node.ensures in
    subst (λ trees. tree_at trees c.node.result.now.first ≡ leaf_of (first_pair (tree_at trees c.args.number))) c.self.view_is w.first_leaf
