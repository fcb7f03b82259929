-- The digest of a node is that of its tree.
use Rattle.std.proofs.Common.{ap, ◌∙◌, arith, length}
use Rattle.ibc_merkle.specs.Tree.{root}
use Rattle.ibc_forest.specs.Levels.{tree_at}
use Rattle.ibc_forest.proofs.Arenas.{length-trees_of, reads}
use Rattle.ibc_forest.proofs.nodes.Nodes.digest.Goals as goal

pub node-requires : goal.node-requires
node-requires c =
    let counted = length-trees_of c.self.inside.shelf in
    let held = ap length c.self.view_is in
    omega arith

pub returns : goal.returns
returns c =
    let counted = ap length c.self.view_is in
    let w = reads c.self.inside.shelf c.args.number c.node.result.now c.self.invariant (omega arith) c.node.ensures in
    w.digest ∙ ap (λ trees. root (tree_at trees c.args.number)) c.self.view_is
