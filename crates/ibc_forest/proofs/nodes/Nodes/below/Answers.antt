-- What stands below a node is what its tree is built of.
use Rattle.std.proofs.Common.{◌≡◌, ap, arith, length, subst}
use Rattle.ibc_forest.specs.Levels.{tree_at}
use Rattle.ibc_forest.specs.Nodes.{tree_of_node, ChildrenStand}
use Rattle.ibc_forest.proofs.Arenas.{length-trees_of, reads}
use Rattle.ibc_forest.proofs.nodes.Nodes.below.Goals as goal

pub node-requires : goal.node-requires
node-requires c =
    let counted = length-trees_of c.self.inside.shelf in
    let held = ap length c.self.view_is in
    omega arith

pub returns-clause-built : goal.returns-clause-built
returns-clause-built c =
    let counted = ap length c.self.view_is in
    let w = reads c.self.inside.shelf c.args.number c.node.result.now c.self.invariant (omega arith) c.node.ensures in
    subst (λ trees. tree_at trees c.args.number ≡ tree_of_node trees c.node.result.now.below) c.self.view_is w.tree

pub returns-clause-stand : goal.returns-clause-stand
returns-clause-stand c =
    let counted = ap length c.self.view_is in
    let w = reads c.self.inside.shelf c.args.number c.node.result.now c.self.invariant (omega arith) c.node.ensures in
    subst (λ trees. ChildrenStand trees c.node.result.now.below) c.self.view_is w.stand
